-- The accuracy of a point that a pile of workings gives.
use Rattle.std.specs.Prelude.{◌≡◌, ℕ, ◌+◌, ◌<◌, List, [], ◌∷◌, length, ℤ, pos, ◌≤ℤ◌, slice_index_or}
use Rattle.std.specs.Int.{int_min, int_max}
use Rattle.exact.specs.Mixing.{mix}
use Rattle.exact.specs.Polygon.{degree, IsPoint}
use Rattle.exact.specs.Fractions.{Fraction, WithinHalf}
use Rattle.exact.specs.Curve.{control, exact}
use Rattle.exact.specs.Workings.{Param, InRange, AllValid, mix_by, fraction, Working, pile, degree_over, allowance_over, carried}

-- the points P, with the allowance a, stand for the drawing D: it has their number of points, and each differs by at most half of a
pub record StandsFor (P : List ℤ) (a : ℕ) (D : List Fraction) : Type 0 where
  pub equally_many : length D ≡ length P
  pub each_near : (i : ℕ) → i < length P → WithinHalf a (slice_index_or P i (pos 0)) (control D i)

-- l and h bound every point of P
abbrev pub Between : ℤ → ℤ → List ℤ → Type 0
Between l h P = (i : ℕ) → i < length P → (l ≤ℤ slice_index_or P i (pos 0)) × (slice_index_or P i (pos 0) ≤ℤ h)

-- For every drawing that the points P stand for, and every pile of workings over P, the point r at the parameter v of the pile
-- differs by at most half of its allowance from the drawing's exact point at the fraction to which the pile carries v back.
abbrev pub Accurate : Type 0
Accurate = (P : List ℤ) (a : ℕ) (D : List Fraction) (ws : List Working) (v : Param) (r : ℤ) →
    0 < length P → AllValid ws → InRange v → StandsFor P a D → IsPoint (mix_by mix v) (pile mix ws P) r →
    WithinHalf (allowance_over ws (degree P) a + degree_over ws (degree P)) r (exact D (carried ws (fraction v)))

-- It lies between any bounds of the points P, so between their least and their greatest.
abbrev pub Enclosed : Type 0
Enclosed = (P : List ℤ) (ws : List Working) (v : Param) (r l h : ℤ) →
    0 < length P → AllValid ws → InRange v → Between l h P → IsPoint (mix_by mix v) (pile mix ws P) r → (l ≤ℤ r) × (r ≤ℤ h)

-- the least and the greatest of some values
abbrev pub least_of : ℤ → List ℤ → ℤ
least_of x [] = x
least_of x (y ∷ P) = int_min x (least_of y P)

abbrev pub greatest_of : ℤ → List ℤ → ℤ
greatest_of x [] = x
greatest_of x (y ∷ P) = int_max x (greatest_of y P)

abbrev pub least : List ℤ → ℤ
least [] = pos 0
least (x ∷ P) = least_of x P

abbrev pub greatest : List ℤ → ℤ
greatest [] = pos 0
greatest (x ∷ P) = greatest_of x P
