-- Flat polygons and their chords, on one axis.
use Rattle.std.specs.Prelude.{ℕ, ◌-◌, ◌*◌, ◌≤◌, List, ℤ, pos, ◌*ℤ◌, slice_index_or}
use Rattle.exact.specs.Mixing.{blend}
use Rattle.exact.specs.Polygon.{degree}
use Rattle.exact.specs.Fractions.{Fraction, whole, ◌⊕◌, ◌⊖◌, ◌⊗◌, apart}

-- flat to the tolerance q: for each i, n·P(i) differs from (n−i)·P(0) + i·P(n) by at most n·q
abbrev pub Flat : ℕ → List ℤ → Type 0
Flat q P = (i : ℕ) → i ≤ degree P → apart (pos (degree P) *ℤ slice_index_or P i (pos 0)) (blend (degree P - i) i (slice_index_or P 0 (pos 0)) (slice_index_or P (degree P) (pos 0))) ≤ degree P * q

-- p and q mixed exactly: (1−t)·p + t·q
abbrev pub between : Fraction → Fraction → Fraction → Fraction
between t p q = (whole (pos 1) ⊖ t) ⊗ p ⊕ t ⊗ q

-- the chord at t: from P(0) to P(n), evenly
unfoldable pub chord : List ℤ → Fraction → Fraction
chord P t = between t (whole (slice_index_or P 0 (pos 0))) (whole (slice_index_or P (degree P) (pos 0)))
