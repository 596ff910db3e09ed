-- The pieces of a curve by halving, on one axis.
use Rattle.std.specs.Prelude.{ℕ, suc, ◌*◌, ◌^◌, List, ℤ, pos, ◌+ℤ◌}
use Rattle.std.proofs.Common.{pow_pos, mul-pos}
use Rattle.exact.specs.Mixing.{mix}
use Rattle.exact.specs.Polygon.{left, right}
use Rattle.exact.specs.Fractions.{Fraction}

-- Q is the piece of P at depth k that spans the parameters from j/2^k to (j+1)/2^k
pub data Piece (P : List ℤ) : ℕ → ℕ → List ℤ → Type 0 where
  entire : Piece P 0 0 P
  first : {k j : ℕ} {Q : List ℤ} → Piece P k j Q → Piece P (suc k) (2 * j) (left (mix 1 2) Q)
  second : {k j : ℕ} {Q : List ℤ} → Piece P k j Q → Piece P (suc k) (suc (2 * j)) (right (mix 1 2) Q)

-- (j + t) / 2^k, the place in the whole curve of the place t in the piece
abbrev pub placed : ℕ → ℕ → Fraction → Fraction
placed k j t = record { num = pos (j * t.den) +ℤ t.num; den = 2 ^ k * t.den; positive = mul-pos (pow_pos k) t.positive }
