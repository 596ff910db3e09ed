-- Points to a contract: their value on each axis.
use Rattle.std.specs.Prelude.{◌≡◌, ℕ, zero, suc, min, Bool, true, false, ℤ, pos, ◌≢◌, ◌==◌}
use Rattle.std.specs.Ordering.{on, eq_of_both, int_eq}
use Rattle.exact.specs.Mixing.{mix}
use Rattle.points.specs.declared.height.Height.{Height}
use Rattle.points.specs.declared.planar.Planar.{Planar}
use Rattle.points.specs.declared.sample.Sample.{Sample}

-- the value on each axis, 0 on one that is lacking
abbrev pub Point : Type 0
Point = ℕ → ℤ

abbrev pub origin : Point
origin a = pos 0

-- p and q mixed by w/d on one axis, and on every axis
unfoldable pub mixed : ℕ → ℕ → ℤ → ℤ → ℤ
mixed w d p q = mix w d p q

abbrev pub mix_point : ℕ → ℕ → Point → Point → Point
mix_point w d p q = λ a. mixed w d (p a) (q a)

-- the answer r to whether p and q are the same point
pub record Same (p q : Point) (r : Bool) : Type 0 where
  pub same : r ≡ true → p ≡ q
  pub other : r ≡ false → p ≢ q

-- the three kinds, and whether two of a kind are the same point
abbrev pub height : Height → Point
height p zero = p.z
height p (suc a) = pos 0

abbrev pub height_eq : Height → Height → Bool
height_eq = on (λ p. p.z) int_eq

abbrev pub planar : Planar → Point
planar p zero = p.x
planar p (suc zero) = p.y
planar p (suc (suc a)) = pos 0

abbrev pub planar_eq : Planar → Planar → Bool
planar_eq = eq_of_both (on (λ p. p.x) int_eq) (on (λ p. p.y) int_eq)

-- a stored press over 4,095 counts as 4,095
abbrev pub sample : Sample → Point
sample p zero = p.x
sample p (suc zero) = p.y
sample p (suc (suc zero)) = pos (min p.press 4095)
sample p (suc (suc (suc a))) = pos 0

abbrev pub sample_eq : Sample → Sample → Bool
sample_eq = eq_of_both (on (λ p. p.x) int_eq) (eq_of_both (on (λ p. p.y) int_eq) (on (λ p. min p.press 4095) ◌==◌))
