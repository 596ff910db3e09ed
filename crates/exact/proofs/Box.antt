-- Every value lies between the least and the greatest.
use Rattle.std.proofs.Common.{ℕ, zero, suc, ◌<◌, List, [], ◌∷◌, length, get_or, ℤ, pos, ◌≤ℤ◌, arith}
use borrow.Author.Differences.{ints}
use Rattle.std.proofs.lemmas.Int.{clamps}
use Rattle.exact.specs.Accuracy.{Between, least_of, greatest_of, least, greatest}

from-least : (x : ℤ) (P : List ℤ) (i : ℕ) → i < length (x ∷ P) → least_of x P ≤ℤ get_or (x ∷ P) i (pos 0)
from-least x [] zero h = omega (arith, ints)
from-least x [] (suc i) h = absurd (omega arith)
from-least x (y ∷ P) zero h = omega (arith, ints, clamps)
from-least x (y ∷ P) (suc i) h = omega (arith, ints, clamps, from-least y P i (omega arith))

to-greatest : (x : ℤ) (P : List ℤ) (i : ℕ) → i < length (x ∷ P) → get_or (x ∷ P) i (pos 0) ≤ℤ greatest_of x P
to-greatest x [] zero h = omega (arith, ints)
to-greatest x [] (suc i) h = absurd (omega arith)
to-greatest x (y ∷ P) zero h = omega (arith, ints, clamps)
to-greatest x (y ∷ P) (suc i) h = omega (arith, ints, clamps, to-greatest y P i (omega arith))

pub bounded : (P : List ℤ) → Between (least P) (greatest P) P
bounded [] i h = absurd (omega arith)
bounded (x ∷ P) i h = (from-least x P i h, to-greatest x P i h)
