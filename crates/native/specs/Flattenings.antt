-- Flattening of planar points in memory.
use Rattle.std.specs.Prelude.{ℕ, List, map, Result}
use Rattle.points.specs.declared.fault.Fault.{Fault}
use Rattle.points.specs.declared.planar.Planar.{Planar}
use Rattle.points.specs.Points.{Point, planar}
use Rattle.sources.specs.Meaning.{Meaning, in_memory}
use Rattle.flattening.specs.Flattening.{flatten_of, vertices_of, parameters_of}

-- what points with an allowance mean
abbrev pub memory : List Planar → ℕ → Meaning
memory ps e = in_memory (map planar ps) e

-- two axes, one tolerance for both
abbrev pub flatten_planar : ℕ → Meaning → ℕ → ℕ → ℕ → Result ℕ Fault
flatten_planar q = flatten_of 2 (λ _. q)

abbrev pub vertices_planar : ℕ → Meaning → List Point
vertices_planar q = vertices_of 2 (λ _. q)

abbrev pub parameters_planar : ℕ → Meaning → List ℕ
parameters_planar q = parameters_of 2 (λ _. q)
