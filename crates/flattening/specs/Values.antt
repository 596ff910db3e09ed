-- Worked values of flattening, of the definitions that its contract uses.
use Rattle.std.specs.Prelude.{◌≡◌, ℕ, List, [], ◌∷◌, map, pos, Ok, Err}
use Rattle.points.specs.declared.fault.Refusal.TheVariants.{Bent}
use Rattle.points.specs.Refusals.{refuse}
use Rattle.points.specs.Points.{Point, height, planar}
use Rattle.sources.specs.Meaning.{Meaning, in_memory}
use Rattle.sources.specs.Accuracy.{along}
use Rattle.flattening.specs.Flattening.{flatten_of, vertices_of, parameters_of}

-- points of one axis, and of two
abbrev pub heights : List ℕ → List Point
heights zs = map (λ z. height (record { z = pos z })) zs

abbrev pub planars : List (ℕ × ℕ) → List Point
planars ps = map (λ p. planar (record { x = pos p.0; y = pos p.1 })) ps

-- the heights 0, 1, 0 and the points (0,0), (4,8), (8,0), in memory with allowance 0
abbrev pub bump : Meaning
bump = in_memory (heights (0 ∷ (1 ∷ (0 ∷ [])))) 0

abbrev pub bow : Meaning
bow = in_memory (planars ((0, 0) ∷ ((4, 8) ∷ ((8, 0) ∷ [])))) 0

-- with buffers that are just long enough
pub record FlattenValues : Type 0 where
  -- heights 0, 1, 0 to tolerance 1: 0 and 0 at 0 and 4,096
  pub bump_count : flatten_of 1 (λ _. 1) bump 221 2 2 ≡ Ok 2
  pub bump_heights : along 0 (vertices_of 1 (λ _. 1) bump) ≡ pos 0 ∷ (pos 0 ∷ [])
  pub bump_parameters : parameters_of 1 (λ _. 1) bump ≡ 0 ∷ (4096 ∷ [])
  -- to tolerance 0: 9, place 0
  pub bump_bent : flatten_of 1 (λ _. 0) bump 221 2 2 ≡ Err (refuse Bent 0)
  -- (0,0), (4,8), (8,0) to tolerance 1: (0,0), (2,3), (4,4), (6,3), (8,0) at 0, 1,024, 2,048, 3,072, 4,096
  pub bow_count : flatten_of 2 (λ _. 1) bow 221 5 5 ≡ Ok 5
  pub bow_x : along 0 (vertices_of 2 (λ _. 1) bow) ≡ pos 0 ∷ (pos 2 ∷ (pos 4 ∷ (pos 6 ∷ (pos 8 ∷ []))))
  pub bow_y : along 1 (vertices_of 2 (λ _. 1) bow) ≡ pos 0 ∷ (pos 3 ∷ (pos 4 ∷ (pos 3 ∷ (pos 0 ∷ []))))
  pub bow_parameters : parameters_of 2 (λ _. 1) bow ≡ 0 ∷ (1024 ∷ (2048 ∷ (3072 ∷ (4096 ∷ []))))
