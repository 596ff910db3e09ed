-- The flat test as a test of pieces. The tolerance is a function of the axis.
use Rattle.std.specs.Prelude.{ℕ, zero, suc, Bool, true, not, ◌&&◌, List, length}
use Rattle.points.specs.Points.{Point}
use Rattle.polygons.specs.Flatness.{off_at}
use Rattle.flattening.specs.Pieces.{Outcome, pieces}

-- f of every number below n
unfoldable pub all_below : ℕ → (ℕ → Bool) → Bool
all_below zero f = true
all_below (suc n) f = all_below n f && f n

-- no point is off by more than the tolerance, on any of so many axes
unfoldable pub flat? : ℕ → (ℕ → ℕ) → List Point → Bool
flat? width tol ps = all_below (length ps) (λ i. all_below width (λ a. not (off_at ps tol i a)))

-- the pieces that flattening makes of a polygon
abbrev pub flat_pieces : ℕ → (ℕ → ℕ) → List Point → Outcome
flat_pieces width tol ps = pieces (flat? width tol) 12 0 ps
