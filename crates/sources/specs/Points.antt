-- The answer of the point call.
use Rattle.std.specs.Prelude.{ℕ, ◌+◌, ◌-◌, cond, List, length, ℤ, Ok, Err, Result, nat_lt, slice_index_or}
use Rattle.exact.specs.Polygon.{degree, levels}
use Rattle.points.specs.declared.fault.Fault.{Fault}
use Rattle.points.specs.declared.fault.Refusal.TheVariants.{OffScale, Short}
use Rattle.points.specs.declared.parameter.Parameter.{Parameter}
use Rattle.points.specs.Refusals.{refuse}
use Rattle.points.specs.Parameters.{off_scale}
use Rattle.points.specs.Points.{Point, origin}
use Rattle.polygons.specs.Constructions.{mix_at, right_part_at}
use Rattle.sources.specs.Meaning.{Meaning, fails, holds, Held}

-- the point at t: the only point of the last level
abbrev pub point_at : Parameter → List Point → Point
point_at t ps = slice_index_or (levels (mix_at t) (degree ps) ps) 0 origin

-- the point and its allowance, or survey's fault, 1 for t, then 2
abbrev pub point_of : Parameter → Meaning → ℕ → Result (Point × ℕ) Fault
point_of t (fails f) places = Err f
point_of t (holds h) places =
    cond (off_scale t) (Err (refuse OffScale 0))
    (cond (nat_lt places h.reach) (Err (refuse Short h.reach))
    (Ok (point_at t h.points, h.allowance + (length h.points - 1))))

-- the right part at t, with the same allowance and reach
abbrev pub righted : Parameter → Held → Held
righted t h = record { points = right_part_at t h.points; allowance = h.allowance; reach = h.reach }

-- what the buffer then holds, as a meaning
abbrev pub pointed : Parameter → Meaning → Meaning
pointed t (fails f) = fails f
pointed t (holds h) = cond (off_scale t) (fails (refuse OffScale 0)) (holds (righted t h))

-- an answer with its point seen on every axis, and on one
abbrev pub seen : {X : Type 0} → (X → Point) → Result (X × ℕ) Fault → Result (Point × ℕ) Fault
seen c (Ok x) = Ok (c x.0, x.1)
seen c (Err f) = Err f

abbrev pub on_axis : ℕ → Result (Point × ℕ) Fault → Result (ℤ × ℕ) Fault
on_axis a (Ok x) = Ok (x.0 a, x.1)
on_axis a (Err f) = Err f
