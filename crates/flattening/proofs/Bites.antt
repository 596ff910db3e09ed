-- Lazy answers, refuted by the chord bound alone.
use Rattle.std.proofs.Common.{◌≡◌, ℕ, zero, suc, ◌+◌, ◌-◌, ◌*◌, ◌^◌, ◌<◌, ◌≤◌, List, [], ◌∷◌, map, get_or, ℤ, pos, refl, subst, arith, pow_mono}
use borrow.Author.Differences.{ints}
use Rattle.exact.specs.Fractions.{whole, WithinHalf, HalfApart}
use Rattle.exact.specs.Curve.{exact}
use Rattle.exact.specs.Workings.{carried}
use Rattle.exact.specs.Spans.{mark, evenly}
use Rattle.exact.proofs.Ring.{gap_same}
use Rattle.exact.proofs.Curve.{one-*}
use Rattle.sources.specs.Meaning.{in_memory}
use Rattle.sources.specs.Accuracy.{Drawing, along, Stands}
use Rattle.flattening.specs.Values.{heights}
use Rattle.flattening.specs.Bites.{ChordsBite}

-- a whole number is within any half of itself
pub close : (e : ℕ) (z : ℤ) → WithinHalf e z (whole z)
close e z = record { half = rw (one-* z) (omega (arith, gap_same z)) }

-- heights, each as drawn
drawn : List ℕ → Drawing
drawn zs = map (λ z _. whole (pos z)) zs

pub depth-none : (d : ℕ) → 4096 ≡ 0 + 2 ^ (12 - d) → d ≡ 0
depth-none zero e = refl
depth-none (suc d) e = let h : 2 ^ (12 - suc d) ≤ 2 ^ 11 = pow_mono {j = 11} (omega arith) in absurd (omega (arith, h, e))

depth-one : (d : ℕ) → 2048 ≡ 0 + 2 ^ (12 - d) → d ≡ 1
depth-one zero e = absurd (omega (arith, e))
depth-one (suc zero) e = refl
depth-one (suc (suc d)) e = let h : 2 ^ (12 - suc (suc d)) ≤ 2 ^ 10 = pow_mono {j = 10} (omega arith) in absurd (omega (arith, h, e))

stands-hill : Stands 1 (in_memory (heights (0 ∷ (100 ∷ (0 ∷ [])))) 0) (drawn (0 ∷ (100 ∷ (0 ∷ []))))
unfolding drawn
stands-hill zero l = record { equally_many = refl; each_near = near }
  where
    near : (i : ℕ) → i < 3 → WithinHalf 0 (get_or (pos 0 ∷ (pos 100 ∷ (pos 0 ∷ []))) i (pos 0)) (get_or (whole (pos 0) ∷ (whole (pos 100) ∷ (whole (pos 0) ∷ []))) i (whole (pos 0)))
    near zero l = record { half = omega arith }
    near (suc zero) l = record { half = omega arith }
    near (suc (suc zero)) l = record { half = omega arith }
    near (suc (suc (suc i))) l = absurd (omega arith)
stands-hill (suc a) l = absurd (omega arith)

stands-level : Stands 1 (in_memory (heights (0 ∷ (0 ∷ []))) 0) (drawn (0 ∷ (0 ∷ [])))
unfolding drawn
stands-level zero l = record { equally_many = refl; each_near = near }
  where
    near : (i : ℕ) → i < 2 → WithinHalf 0 (get_or (pos 0 ∷ (pos 0 ∷ [])) i (pos 0)) (get_or (whole (pos 0) ∷ (whole (pos 0) ∷ [])) i (whole (pos 0)))
    near zero l = record { half = omega arith }
    near (suc zero) l = record { half = omega arith }
    near (suc (suc i)) l = absurd (omega arith)
stands-level (suc a) l = absurd (omega arith)

pub chords-bite : ChordsBite
unfolding exact carried evenly drawn
chords-bite = record {
  not_unhalved = λ h.
      let c = h.each 0 (omega arith) in
      let z : c.depth ≡ 0 = depth-none c.depth c.spans in
      let n = c.near (in_memory (heights (0 ∷ (100 ∷ (0 ∷ [])))) 0) [] refl (drawn (0 ∷ (100 ∷ (0 ∷ [])))) stands-hill 0 (omega arith) (mark 2048) (omega (arith, ints)) (omega (arith, ints)) in
      let b = (subst (λ d. HalfApart (2 * 1 + (0 + 2 * d)) (evenly 0 (12 - d) (pos 0) (pos 0) (mark 2048)) (exact (along 0 (drawn (0 ∷ (100 ∷ (0 ∷ []))))) (carried [] (mark 2048)))) z n).half in
      absurd (omega arith);
  not_invented = λ h.
      let c = h.each 0 (omega arith) in
      let z : c.depth ≡ 1 = depth-one c.depth c.spans in
      let n = c.near (in_memory (heights (0 ∷ (0 ∷ []))) 0) [] refl (drawn (0 ∷ (0 ∷ []))) stands-level 0 (omega arith) (mark 2048) (omega (arith, ints)) (omega (arith, ints)) in
      let b = (subst (λ d. HalfApart (2 * 0 + (0 + 1 * d)) (evenly 0 (12 - d) (pos 0) (pos 100) (mark 2048)) (exact (along 0 (drawn (0 ∷ (0 ∷ [])))) (carried [] (mark 2048)))) z n).half in
      absurd (omega arith);
  not_cut_off = λ h. let e : ◌≡◌ {A = ℕ} 2048 4096 = h.ends in absurd (omega (arith, e));
}
