use Rattle.std.proofs.Common.{◌≡◌, ℕ, zero, suc, ◌+◌, ◌-◌, ◌*◌, ◌<◌, ◌≤◌, Bool, false, ltb, List, [], ◌∷◌, map, length, get_or, ℤ, pos, ◌+ℤ◌, ◌-ℤ◌, ◌*ℤ◌, neg_ℤ, nat_abs, Option, None, sym, refl, ap, ◌∙◌, subst, ⊎_elim, arith}
use borrow.Author.Differences.{up, down, same_in, sum_is_lem, neg_is, product_is}
use Rattle.std.proofs.lemmas.List.{length-map}
use Rattle.std.proofs.lemmas.Bool.{le-ltb, cases_lt}
use Rattle.polygons.specs.declared.flatness.Off.{Off}
use Rattle.points.specs.Points.{Point, origin}
use Rattle.polygons.specs.Flatness.{off_by, off_at, FirstOff}
use Rattle.polygons.proofs.Writes.{read_is}

off_by-zero : (n i q : ℕ) → off_by n i q (pos 0) (pos 0) (pos 0) ≡ false
unfolding off_by
off_by-zero n i q =
    let a : n * 0 ≡ 0 = omega arith in
    let b : (n - i) * 0 + i * 0 ≡ 0 = omega arith in
    ap (λ k. ltb (n * q) (nat_abs (pos k -ℤ pos ((n - i) * 0 + i * 0)))) a ∙ ap (λ k. ltb (n * q) (nat_abs (pos 0 -ℤ pos k))) b ∙ le-ltb (n * q) 0 (omega arith)

-- both ends lie on the chord
none-off : (n i q : ℕ) (a x b : ℤ) → pos n *ℤ x -ℤ (pos (n - i) *ℤ a +ℤ pos i *ℤ b) ≡ pos 0 → off_by n i q a x b ≡ false
unfolding off_by
none-off n i q a x b e = ap (λ z. ltb (n * q) (nat_abs z)) e ∙ le-ltb (n * q) 0 (omega arith)

on-chord : (n k i : ℕ) (a x b : ℤ) → n * up x ≡ k * up a + i * up b → n * down x ≡ k * down a + i * down b → pos n *ℤ x -ℤ (pos k *ℤ a +ℤ pos i *ℤ b) ≡ pos 0
on-chord n k i a x b u d =
    let Z = pos k *ℤ a +ℤ pos i *ℤ b in
    same_in _ _ (omega (arith, product_is (pos n) x, product_is (pos k) a, product_is (pos i) b, sum_is_lem (pos k *ℤ a) (pos i *ℤ b), neg_is Z, sum_is_lem (pos n *ℤ x) (neg_ℤ Z), u, d))

pub first_on : (ps : List Point) (q : ℕ → ℕ) (a : ℕ) → off_at ps q 0 a ≡ false
first_on ps q a =
    let n = length ps - 1 in
    let x = get_or ps 0 origin a in
    let y = get_or ps n origin a in
    let e : n - 0 ≡ n = omega arith in
    none-off n 0 (q a) x x y (on-chord n (n - 0) 0 x x y (ap (λ k. k * up x) (sym e) ∙ omega arith) (ap (λ k. k * down x) (sym e) ∙ omega arith))

pub last_on : (ps : List Point) (q : ℕ → ℕ) (a : ℕ) → off_at ps q (length ps - 1) a ≡ false
last_on ps q a =
    let n = length ps - 1 in
    let x = get_or ps 0 origin a in
    let y = get_or ps n origin a in
    let e : n - n ≡ 0 = omega arith in
    none-off n n (q a) x y y (on-chord n (n - n) n x y y (sym (ap (λ k. k * up x + n * up y) e ∙ omega arith)) (sym (ap (λ k. k * down x + n * down y) e ∙ omega arith)))

module _ {X : Type 0} (co : X → Point) where
  at-lacks : (w : ℕ) → ((x : X) (a : ℕ) → w ≤ a → co x a ≡ pos 0) → (xs : List X) (k b : ℕ) → w ≤ b → get_or (map co xs) k origin b ≡ pos 0
  at-lacks w law [] k b h = refl
  at-lacks w law (x ∷ xs) zero b h = law x b h
  at-lacks w law (x ∷ xs) (suc k) b h = at-lacks w law xs k b h

  pub off-lacking : (w : ℕ) → ((x : X) (a : ℕ) → w ≤ a → co x a ≡ pos 0) → (xs : List X) (q : ℕ → ℕ) (i b : ℕ) → w ≤ b → off_at (map co xs) q i b ≡ false
  off-lacking w law xs q i b h =
      let n = length (map co xs) - 1 in
      let z : (k : ℕ) → get_or (map co xs) k origin b ≡ pos 0 = λ k. at-lacks w law xs k b h in
      ap (λ u. off_by n i (q b) u (get_or (map co xs) i origin b) (get_or (map co xs) n origin b)) (z 0) ∙ ap (λ u. off_by n i (q b) (pos 0) u (get_or (map co xs) n origin b)) (z i) ∙ ap (λ u. off_by n i (q b) (pos 0) (pos 0) u) (z n) ∙ off_by-zero n i (q b)

  pub off-here : (xs : List X) (q : ℕ → ℕ) (i a : ℕ) (x0 xi xn : X) (v0 vi vn : ℤ) (b : Bool) → i < length xs → x0 ≡ get_or xs 0 x0 → xi ≡ get_or xs i xi → xn ≡ get_or xs (length xs - 1) xn → v0 ≡ co x0 a → vi ≡ co xi a → vn ≡ co xn a → b ≡ off_by (length xs - 1) i (q a) v0 vi vn → off_at (map co xs) q i a ≡ b
  off-here xs q i a x0 xi xn v0 vi vn b h e0 ei en f0 fi fn eb =
      let n = length xs - 1 in
      let m = length (map co xs) - 1 in
      let nm : m ≡ n = ap (λ k. k - 1) (length-map xs co) in
      let p0 : get_or (map co xs) 0 origin a ≡ v0 = sym (f0 ∙ ap (λ p. p a) (read_is co xs 0 x0 (omega arith) e0)) in
      let pi : get_or (map co xs) i origin a ≡ vi = sym (fi ∙ ap (λ p. p a) (read_is co xs i xi h ei)) in
      let pn : get_or (map co xs) n origin a ≡ vn = sym (fn ∙ ap (λ p. p a) (read_is co xs n xn (omega arith) en)) in
      ap (λ k. off_by k i (q a) (get_or (map co xs) 0 origin a) (get_or (map co xs) i origin a) (get_or (map co xs) k origin a)) nm
      ∙ ap (λ u. off_by n i (q a) u (get_or (map co xs) i origin a) (get_or (map co xs) n origin a)) p0
      ∙ ap (λ u. off_by n i (q a) v0 u (get_or (map co xs) n origin a)) pi
      ∙ ap (λ u. off_by n i (q a) v0 vi u) pn
      ∙ sym eb

  -- all axes of a point, from those that there are
  pub off-none : (w : ℕ) → ((x : X) (a : ℕ) → w ≤ a → co x a ≡ pos 0) → (xs : List X) (q : ℕ → ℕ) (i : ℕ) → ((b : ℕ) → b < w → off_at (map co xs) q i b ≡ false) → (b : ℕ) → off_at (map co xs) q i b ≡ false
  off-none w law xs q i h b = ⊎_elim (h b) (off-lacking w law xs q i b) (cases_lt b w)

  pub flat-all : (xs : List X) (q : ℕ → ℕ) (i : ℕ) (r : Option Off) → r ≡ None → length xs - 1 ≤ i → ((j : ℕ) → j < i → (b : ℕ) → off_at (map co xs) q j b ≡ false) → FirstOff (map co xs) q r
  flat-all xs q i r e l h =
      subst (λ v. FirstOff (map co xs) q v) (sym e)
      (λ j m b. ⊎_elim (λ (s : j < i). h j s b) (λ (s : i ≤ j). subst (λ k. off_at (map co xs) q k b ≡ false) (let z : length (map co xs) - 1 ≡ j = omega (arith, length-map xs co) in z) (last_on (map co xs) q b)) (cases_lt j i))
