-- Rounded mixing: its error is at most one half, it keeps equal points, and it is monotone, so it stays between its points.
use Rattle.std.proofs.Common.{◌≡◌, ℕ, ◌+◌, ◌-◌, ◌*◌, ◌<◌, ◌≤◌, ℤ, pos, negsuc, ◌+ℤ◌, ◌*ℤ◌, ◌≤ℤ◌, ◌<ℤ◌, sym, ap, ◌∙◌, subst, mod-lt, arith}
use native.Mathlib.Nat.{div-add-mod}
use borrow.Author.Differences.{ints}
use Rattle.exact.specs.Mixing.{floor_div, blend, mix}
use Rattle.exact.proofs.Ring.{gap, *ℤ-assoc, *ℤ-distrib-l, *ℤ-distrib-r, *ℤ-mono, *ℤ-cancel-lt}

-- d·q ≤ z < d·q + d, where q is the floor of z / d
pub floor-low : (z : ℤ) (d : ℕ) → 0 < d → (pos d *ℤ floor_div z d) ≤ℤ z
floor-low (pos a) d h = omega (arith, ints, div-add-mod a d)
floor-low (negsuc a) d h = omega (arith, ints, div-add-mod a d, mod-lt a h)

pub floor-high : (z : ℤ) (d : ℕ) → 0 < d → z <ℤ (pos d *ℤ floor_div z d +ℤ pos d)
floor-high (pos a) d h = omega (arith, ints, div-add-mod a d, mod-lt a h)
floor-high (negsuc a) d h = omega (arith, ints, div-add-mod a d, mod-lt a h)

-- the next whole number
times-next : (d : ℕ) (q : ℤ) → pos d *ℤ (q +ℤ pos 1) ≡ pos d *ℤ q +ℤ pos d
times-next d q = *ℤ-distrib-l (pos d) q (pos 1) ∙ ap (λ x. pos d *ℤ q +ℤ pos x) (omega arith)

pub floor-mono : (y z : ℤ) (d : ℕ) → 0 < d → y ≤ℤ z → floor_div y d ≤ℤ floor_div z d
floor-mono y z d p h =
    let l : floor_div y d <ℤ (floor_div z d +ℤ pos 1) = *ℤ-cancel-lt d _ _ (rw times-next (omega (arith, ints, floor-low y d p, floor-high z d p))) in
    omega (arith, ints)

pub floor-is : (z q : ℤ) (d : ℕ) → 0 < d → (pos d *ℤ q) ≤ℤ z → z <ℤ (pos d *ℤ q +ℤ pos d) → floor_div z d ≡ q
floor-is z q d p l h =
    let a : floor_div z d <ℤ (q +ℤ pos 1) = *ℤ-cancel-lt d _ _ (rw times-next (omega (arith, ints, floor-low z d p))) in
    let b : q <ℤ (floor_div z d +ℤ pos 1) = *ℤ-cancel-lt d _ _ (rw times-next (omega (arith, ints, floor-high z d p))) in
    omega (arith, ints)

module _ (w d : ℕ) (positive : 0 < d) (within : w ≤ d) where
  -- the error is at most one half
  pub mix-error : (p q : ℤ) → 2 * gap (pos d *ℤ mix w d p q) (blend (d - w) w p q) ≤ d
  mix-error p q =
      let N : ℤ = blend (d - w) w p q in
      let z : ℤ = pos 2 *ℤ N +ℤ pos d in
      let e : pos (2 * d) *ℤ mix w d p q ≡ pos 2 *ℤ (pos d *ℤ mix w d p q) = *ℤ-assoc (pos 2) (pos d) (mix w d p q) in
      let l : (pos 2 *ℤ (pos d *ℤ mix w d p q)) ≤ℤ z = subst (λ x. x ≤ℤ z) e (floor-low z (2 * d) (omega arith)) in
      let h : z <ℤ (pos 2 *ℤ (pos d *ℤ mix w d p q) +ℤ pos (2 * d)) = subst (λ x. z <ℤ (x +ℤ pos (2 * d))) e (floor-high z (2 * d) (omega arith)) in
      half N (pos d *ℤ mix w d p q) l h
    where
      half : (N y : ℤ) → (pos 2 *ℤ y) ≤ℤ (pos 2 *ℤ N +ℤ pos d) → (pos 2 *ℤ N +ℤ pos d) <ℤ (pos 2 *ℤ y +ℤ pos (2 * d)) → 2 * gap y N ≤ d
      half N y l h = omega (arith, ints)

  pub mix-mono : (p p' q q' : ℤ) → p ≤ℤ p' → q ≤ℤ q' → mix w d p q ≤ℤ mix w d p' q'
  mix-mono p p' q q' h k = floor-mono _ _ (2 * d) (omega arith) (sums (pos (d - w) *ℤ p) (pos (d - w) *ℤ p') (pos w *ℤ q) (pos w *ℤ q') (*ℤ-mono (d - w) p p' h) (*ℤ-mono w q q' k))
    where
      sums : (a a' b b' : ℤ) → a ≤ℤ a' → b ≤ℤ b' → (pos 2 *ℤ (a +ℤ b) +ℤ pos d) ≤ℤ (pos 2 *ℤ (a' +ℤ b') +ℤ pos d)
      sums a a' b b' h k = omega (arith, ints)

  pub mix-same : (p : ℤ) → mix w d p p ≡ p
  mix-same p =
      let e : pos 2 *ℤ blend (d - w) w p p ≡ pos (2 * d) *ℤ p = ap (λ x. pos 2 *ℤ x) (sym (*ℤ-distrib-r (pos (d - w)) (pos w) p) ∙ ap (λ (n : ℕ). pos n *ℤ p) (omega arith)) ∙ sym (*ℤ-assoc (pos 2) (pos d) p) in
      rw e (floor-is _ p (2 * d) (omega arith) (omega (arith, ints)) (omega (arith, ints)))

  pub mix-low : (l p q : ℤ) → l ≤ℤ p → l ≤ℤ q → l ≤ℤ mix w d p q
  mix-low l p q h k = subst (λ x. x ≤ℤ mix w d p q) (mix-same l) (mix-mono l p l q h k)

  pub mix-high : (u p q : ℤ) → p ≤ℤ u → q ≤ℤ u → mix w d p q ≤ℤ u
  mix-high u p q h k = subst (λ x. mix w d p q ≤ℤ x) (mix-same u) (mix-mono p u q u h k)

-- the error, as a charge of 1 over 2
pub mix-fair : (w d : ℕ) → 0 < d → w ≤ d → (p q : ℤ) → 2 * gap (pos (d - w + w) *ℤ mix w d p q) (blend (d - w) w p q) ≤ 1 * (d - w + w)
mix-fair w d z l p q =
    let e : d - w + w ≡ d = omega arith in
    rw e (omega (arith, mix-error w d z l p q))
