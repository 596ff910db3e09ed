-- What is told of a polygon, from what is given, and before it is drawn.
use Rattle.std.specs.Prelude.{ℕ, ◌-◌, cond, ◌||◌, Ok, Err, Result, nat_lt}
use Rattle.points.specs.declared.fault.Fault.{Fault}
use Rattle.points.specs.declared.fault.Refusal.TheVariants.{Short, Degree}
use Rattle.points.specs.Refusals.{refuse}
use Rattle.workings.specs.declared.survey.Survey.{Survey}

-- points that are given with an allowance: 2 to 17 of them; the reach is their number
abbrev pub given : ℕ → ℕ → Result Survey Fault
given n e = cond (nat_lt n 2 || nat_lt 17 n) (Err (refuse Degree n)) (Ok (record { degree = n - 1; allowance = e; reach = n }))

-- a buffer has to have as many places as the reach
abbrev pub fitting : Survey → ℕ → Result Survey Fault
fitting s places = cond (nat_lt places s.reach) (Err (refuse Short s.reach)) (Ok s)
