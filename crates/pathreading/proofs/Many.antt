-- Many fields, one after another.
use Rattle.std.proofs.Common.{◌≡◌, ℕ, zero, suc, ◌+◌, ◌<◌, Bool, true, false, cond, ltb, List, [], ◌∷◌, ◌++◌, length, None, sym, refl, ap, ◌∙◌, add-one, arith}
use Rattle.std.specs.List.{slice_get}
use Rattle.std.proofs.lemmas.Option.{slice_get_past}
use Rattle.std.proofs.lemmas.Bool.{ltb-true, ltb-false}
use Rattle.points.specs.declared.fault.Fault.{Fault}
use Rattle.pathformat.specs.Reading.{Read, took, bad, after, many, values, Ends}
use Rattle.pathreading.specs.Sections.{read_value}
use Rattle.pathformat.proofs.Fields.{taken-after, at_after, bad-after}

-- what was taken are the values
ends-from : {X : Type 0} {q : Read (List X)} {xs : List X} {r : List ℕ} → q ≡ took xs r → Ends q r
ends-from {r = r} e = e ∙ ap (λ ys. took ys r) (sym (ap values e))

module _ {X : Type 0} (rd : ℕ → List ℕ → Read X) (n : ℕ) where
  -- as many values as fields
  pub many-length : (k : ℕ) (bs : List ℕ) (xs : List X) (r : List ℕ) → many rd k n bs ≡ took xs r → length xs ≡ k
  many-length zero bs [] r e = refl
  many-length zero bs (x ∷ xs) r e = absurd (let z : ◌≡◌ {A = ℕ} 0 1 = cc in omega arith)
  many-length (suc k) bs xs r e =
      let t = taken-after (rd n bs) _ xs r e in
      let v = taken-after (many rd k n t.1) _ xs r t.3 in
      let same : t.0 ∷ v.0 ≡ xs = let h = v.3 in cc in
      sym (ap length same) ∙ ap suc (many-length k t.1 v.0 v.1 v.2)

  -- one field more at the end
  pub many_more : (i : ℕ) (bs : List ℕ) (xs : List X) (r : List ℕ) (x : X) (s : List ℕ) → many rd i n bs ≡ took xs r → rd n r ≡ took x s → many rd (suc i) n bs ≡ took (xs ++ x ∷ []) s
  many_more zero bs xs r x s e f =
      let p : [] ≡ xs = cc in
      let q : bs ≡ r = cc in
      at_after _ _ x s (ap (rd n) q ∙ f) ∙ ap (λ ys. took (ys ++ x ∷ []) s) p
  many_more (suc i) bs xs r x s e f =
      let t = taken-after (rd n bs) _ xs r e in
      let v = taken-after (many rd i n t.1) _ xs r t.3 in
      let same : t.0 ∷ v.0 ≡ xs = let g = v.3 in cc in
      let end : v.1 ≡ r = let g = v.3 in cc in
      let d = many_more i t.1 v.0 v.1 x s v.2 (ap (rd n) end ∙ f) in
      at_after _ _ t.0 t.1 t.2 ∙ at_after _ _ (v.0 ++ x ∷ []) s d ∙ ap (λ ys. took (ys ++ x ∷ []) s) same

  -- where a field does not read, all of them do not
  pub many-fails : (i k : ℕ) (bs : List ℕ) (xs : List X) (r : List ℕ) (w : Fault) → i < k → many rd i n bs ≡ took xs r → rd n r ≡ bad w → many rd k n bs ≡ bad w
  many-fails i zero bs xs r w h e f = absurd (omega arith)
  many-fails zero (suc k) bs xs r w h e f = let q : bs ≡ r = cc in bad-after _ _ w (ap (rd n) q ∙ f)
  many-fails (suc i) (suc k) bs xs r w h e f =
      let t = taken-after (rd n bs) _ xs r e in
      let v = taken-after (many rd i n t.1) _ xs r t.3 in
      let end : v.1 ≡ r = let g = v.3 in cc in
      at_after _ _ t.0 t.1 t.2 ∙ bad-after _ _ w (many-fails i k t.1 v.0 v.1 w (omega arith) v.2 (ap (rd n) end ∙ f))

  -- where all read, none fails
  pub none-fails : (i k : ℕ) (bs : List ℕ) (xs : List X) (r s : List ℕ) (w : Fault) → i < k → Ends (many rd k n bs) s → many rd i n bs ≡ took xs r → rd n r ≡ bad w → ⊥
  none-fails i k bs xs r s w h all e f =
      let b = many-fails i k bs xs r w h e f in
      let z : ◌≡◌ {A = ℕ} 0 1 = cc in omega arith

  -- one field more is passed over
  pub ends_more : (i : ℕ) (bs r : List ℕ) (x : X) (s : List ℕ) → Ends (many rd i n bs) r → rd n r ≡ took x s → Ends (many rd (i + 1) n bs) s
  ends_more i bs r x s e f = ends-from (ap (λ m. many rd m n bs) (add-one i) ∙ many_more i bs _ r x s e f)

  -- the first fields of many, and the field after them
  pub many-front : (i k : ℕ) (bs : List ℕ) (xs : List X) (s : List ℕ) → i < k → many rd k n bs ≡ took xs s → read_value (after (many rd i n bs) (λ _ r. rd n r)) ≡ slice_get xs i
  many-front i zero bs xs s h e = absurd (omega arith)
  many-front zero (suc k) bs xs s h e =
      let t = taken-after (rd n bs) _ xs s e in
      let v = taken-after (many rd k n t.1) _ xs s t.3 in
      let same : t.0 ∷ v.0 ≡ xs = let g = v.3 in cc in
      ap read_value t.2 ∙ ap (λ ys. slice_get ys 0) same
  many-front (suc i) (suc k) bs xs s h e =
      let t = taken-after (rd n bs) _ xs s e in
      let v = taken-after (many rd k n t.1) _ xs s t.3 in
      let same : t.0 ∷ v.0 ≡ xs = let g = v.3 in cc in
      ap (λ q. read_value (after (after q (λ x r. after (many rd i n r) (λ ys u. took (x ∷ ys) u))) (λ _ r. rd n r))) t.2 ∙ ap read_value (after-cons t.0 (many rd i n t.1)) ∙ many-front i k t.1 v.0 v.1 (omega arith) v.2 ∙ ap (λ ys. slice_get ys (suc i)) same
    where
      after-cons : (x : X) (q : Read (List X)) → after (after q (λ ys u. took (x ∷ ys) u)) (λ _ r. rd n r) ≡ after q (λ _ r. rd n r)
      after-cons x (took ys u) = refl
      after-cons x (bad w) = refl

  -- the item at an index is that of the values
  pub item-said : (i k : ℕ) (bs : List ℕ) (xs : List X) (s : List ℕ) → many rd k n bs ≡ took xs s → cond (ltb i k) (read_value (after (many rd i n bs) (λ _ r. rd n r))) None ≡ slice_get xs i
  item-said i k bs xs s e = by (ltb i k) refl
    where
      by : (b : Bool) → ltb i k ≡ b → cond b (read_value (after (many rd i n bs) (λ _ r. rd n r))) None ≡ slice_get xs i
      by true q = many-front i k bs xs s (ltb-true i k q) e
      by false q = sym (slice_get_past xs i (let l = many-length k bs xs s e in omega (arith, ltb-false i k q)))
