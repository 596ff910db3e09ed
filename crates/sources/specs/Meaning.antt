-- What a source means, and what survey and draw answer.
use Rattle.std.specs.Prelude.{◌≡◌, ℕ, ◌-◌, ◌<◌, ◌≤◌, cond, List, map, length, take, drop, Ok, Err, Result, nat_lt}
use Rattle.points.specs.declared.fault.Fault.{Fault}
use Rattle.points.specs.declared.fault.Refusal.TheVariants.{Short}
use Rattle.points.specs.Refusals.{refuse}
use Rattle.points.specs.Points.{Point}
use Rattle.polygons.specs.Buffers.{sized}
use Rattle.workings.specs.declared.survey.Survey.{Survey}

-- a polygon that is held, its allowance, and its reach: the places that a buffer must have
pub record Held : Type 0 where
  pub points : List Point
  pub allowance : ℕ
  pub reach : ℕ

-- what a source means
pub data Meaning : Type 0 where
  fails : Fault → Meaning
  holds : Held → Meaning

-- from 2 to 17 points, an allowance of 16 bits, a place for each point
pub record Fit (h : Held) : Type 0 where
  pub some : 2 ≤ length h.points
  pub most : length h.points ≤ 17
  pub small : h.allowance ≤ 65535
  pub roomy : length h.points ≤ h.reach

-- what every source means fits; a short buffer is never what it means
abbrev pub Sound : Meaning → Type 0
Sound (fails f) = f.refusal ≡ Short → ⊥
Sound (holds h) = Fit h

-- what is told of a polygon that is held
abbrev pub told : Held → Survey
told h = record { degree = length h.points - 1; allowance = h.allowance; reach = h.reach }

abbrev pub survey_of : Meaning → Result Survey Fault
survey_of (fails f) = Err f
survey_of (holds h) = Ok (told h)

-- draw on a buffer of so many places
abbrev pub draw_of : Meaning → ℕ → Result Survey Fault
draw_of (fails f) places = Err f
draw_of (holds h) places = cond (nat_lt places h.reach) (Err (refuse Short h.reach)) (Ok (told h))

-- what draw leaves on a buffer: the polygon first and the places past the reach as found, or all as found where it refuses
abbrev pub Laid : {X : Type 0} → (X → Point) → Meaning → List X → List X → Type 0
Laid c (fails f) before after = after ≡ before
Laid c (holds h) before after = (length before < h.reach → after ≡ before) × (h.reach ≤ length before → (map c (take (length h.points) after) ≡ h.points) × (drop h.reach after ≡ drop h.reach before))

-- points in memory: a polygon if there are 2 to 17 of them
abbrev pub holding : Result (Unit {0}) Fault → Held → Meaning
holding (Ok u) h = holds h
holding (Err f) h = fails f

abbrev pub in_memory : List Point → ℕ → Meaning
in_memory ps e = holding (sized (length ps)) (record { points = ps; allowance = e; reach = length ps })
