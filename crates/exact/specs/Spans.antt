-- The spans of the pieces, in parts of 4,096, and the chords over them, on one axis.
use Rattle.std.specs.Prelude.{◌≡◌, ℕ, ◌+◌, ◌*◌, ◌^◌, ◌<◌, List, length, ℤ, pos, ◌-ℤ◌, ◌*ℤ◌, ◌≤ℤ◌, slice_index_or}
use Rattle.std.proofs.Common.{lit≤, pow_pos, mul-pos}
use Rattle.exact.specs.Mixing.{mix}
use Rattle.exact.specs.Polygon.{degree}
use Rattle.exact.specs.Fractions.{Fraction, whole, HalfApart}
use Rattle.exact.specs.Curve.{exact}
use Rattle.exact.specs.Workings.{Working, AllValid, pile, degree_over, allowance_over, carried}
use Rattle.exact.specs.Accuracy.{StandsFor}
use Rattle.exact.specs.Flat.{Flat, between}
use Rattle.exact.specs.Pieces.{Piece}

-- s/4,096
abbrev pub mark : ℕ → Fraction
mark s = record { num = pos s; den = 4096; positive = lit≤ tt }

-- x is at most y
infix 4 ◌≼◌
abbrev pub ◌≼◌ : Fraction → Fraction → Type 0
x ≼ y = (x.num *ℤ pos y.den) ≤ℤ (y.num *ℤ pos x.den)

-- (4,096·x − s)/2^r, how much of the way from s/4,096 to (s + 2^r)/4,096 lies before x
abbrev pub within : ℕ → ℕ → Fraction → Fraction
within s r x = record { num = pos 4096 *ℤ x.num -ℤ pos s *ℤ pos x.den; den = 2 ^ r * x.den; positive = mul-pos (pow_pos r) x.positive }

-- the chord from p at s/4,096 to p' at (s + 2^r)/4,096, evenly in the parameter, at x
unfoldable pub evenly : ℕ → ℕ → ℤ → ℤ → Fraction → Fraction
evenly s r p p' x = between (within s r x) (whole p) (whole p')

-- Of what a pile of workings makes of P, the chord of a flat piece at depth k, over its span, is within q and half of the pile's allowance with n·k of the
-- exact curve, taken at the fraction to which the pile carries x back.
abbrev pub SpanNear : Type 0
SpanNear = (P : List ℤ) (a : ℕ) (D : List Fraction) (ws : List Working) (q k r j : ℕ) (Q : List ℤ) (x : Fraction) →
    0 < length P → 0 < degree_over ws (degree P) → AllValid ws → StandsFor P a D → Piece (pile mix ws P) k j Q → Flat q Q → k + r ≡ 12 → mark (j * 2 ^ r) ≼ x → x ≼ mark (j * 2 ^ r + 2 ^ r) →
    HalfApart (2 * q + (allowance_over ws (degree P) a + degree_over ws (degree P) * k)) (evenly (j * 2 ^ r) r (slice_index_or Q 0 (pos 0)) (slice_index_or Q (degree Q) (pos 0)) x) (exact D (carried ws x))
