-- The constructions on control polygons, at points and under the rounding rule.
use Rattle.std.specs.Prelude.{◌≡◌, ℕ, ◌+◌, ◌^◌, ◌<◌, ◌≤◌, List, ◌++◌, length, slice_index_or}
use Rattle.exact.specs.Polygon.{level, left, right, raise, turn}
use Rattle.points.specs.declared.parameter.Parameter.{Parameter}
use Rattle.points.specs.Points.{Point, origin, mix_point}

-- mixing by a parameter
abbrev pub mix_at : Parameter → Point → Point → Point
mix_at t = mix_point t.a (2 ^ t.k)

-- the level above the points, and the left and the right part, at a parameter
abbrev pub level_above : Parameter → List Point → List Point
level_above t ps = level (mix_at t) ps

abbrev pub left_part_at : Parameter → List Point → List Point
left_part_at t ps = left (mix_at t) ps

abbrev pub right_part_at : Parameter → List Point → List Point
right_part_at t ps = right (mix_at t) ps

-- the right part, and after it the left part
abbrev pub both_parts_at : Parameter → List Point → List Point
both_parts_at t ps = right_part_at t ps ++ left_part_at t ps

-- one degree more: point i mixes P(i) and P(i−1) by i/(n+1)
abbrev pub raised : List Point → List Point
raised ps = raise (λ i. mix_point i (length ps)) ps

-- the points in the other order
abbrev pub turned : List Point → List Point
turned ps = turn ps

-- In place, one pass: the points below n are mixed with the ones after them, the others stay.
pub record Passed (m : Point → Point → Point) (ps qs : List Point) (n : ℕ) : Type 0 where
  pub mixes : (k : ℕ) → k < n → slice_index_or qs k origin ≡ m (slice_index_or ps k origin) (slice_index_or ps (k + 1) origin)
  pub above : (k : ℕ) → n ≤ k → slice_index_or qs k origin ≡ slice_index_or ps k origin
