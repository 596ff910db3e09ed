-- The exact curve of a drawing, on one axis.
use Rattle.std.specs.Prelude.{ℕ, ◌-◌, List, pos, slice_index_or}
use Rattle.exact.specs.Polygon.{degree}
use Rattle.exact.specs.Sums.{choose, sum_to}
use Rattle.exact.specs.Fractions.{Fraction, whole, ◌⊕◌, ◌⊖◌, ◌⊗◌, power}

-- point i of a drawing
abbrev pub control : List Fraction → ℕ → Fraction
control D i = slice_index_or D i (whole (pos 0))

-- the exact point at t: the sum over i, from 0 to n, of C(n,i)·(1−t)^(n−i)·t^i times point i
unfoldable pub exact : List Fraction → Fraction → Fraction
exact D t = sum_to ◌⊕◌ (degree D) (λ i. whole (pos (choose (degree D) i)) ⊗ power (whole (pos 1) ⊖ t) (degree D - i) ⊗ power t i ⊗ control D i)
