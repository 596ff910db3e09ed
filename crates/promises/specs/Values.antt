-- Worked values of the definitions that the contracts use.
use Rattle.std.specs.Prelude.{◌≡◌, [], ◌∷◌, map, ℤ, pos, negsuc}
use Rattle.points.specs.Points.{Point, mixed}
use Rattle.points.specs.Points as points
use Rattle.polygons.specs.Constructions.{raised}
use Rattle.sources.specs.Meaning.{Meaning, in_memory}
use Rattle.sources.specs.Points.{point_at}
use Rattle.flattening.specs.Values.{FlattenValues}
use Rattle.promises.specs.Bites.{half}

-- a point of one axis
abbrev pub tall : ℤ → Point
tall z = points.height (record { z = z })

-- the cubic with these control heights, in memory, with allowance 0
abbrev pub cubic : ℤ → ℤ → ℤ → ℤ → Meaning
cubic a b c d = in_memory (tall a ∷ (tall b ∷ (tall c ∷ (tall d ∷ [])))) 0

pub record Values : Type 0 where
  -- heights 0, 1, 0 to the tolerances 1 and 0, and (0,0), (4,8), (8,0) to 1, flattened
  pub flattened : FlattenValues
  -- halves round up, not away from zero
  pub up : mixed 1 2 (pos 0) (pos 1) ≡ pos 1
  pub not_away : mixed 1 2 (pos 0) (negsuc 0) ≡ pos 0
  pub ends : mixed 1 2 (negsuc 2147483647) (pos 2147483647) ≡ pos 0
  -- heights 0, 0, 0, 1 at 1/2; the exact value is 1/8
  pub point : point_at half (tall (pos 0) ∷ (tall (pos 0) ∷ (tall (pos 0) ∷ (tall (pos 1) ∷ [])))) 0 ≡ pos 1
  -- heights 0, 0, 9 raised
  pub raise : map (λ p. p 0) (raised (tall (pos 0) ∷ (tall (pos 0) ∷ (tall (pos 9) ∷ [])))) ≡ pos 0 ∷ (pos 0 ∷ (pos 3 ∷ (pos 9 ∷ [])))
