-- The workings: what each does to the points, what it charges and what it refuses.
use Rattle.std.specs.Prelude.{ℕ, ◌+◌, max, Bool, false, cond, ◌||◌, List, [], ◌∷◌, Ok, Err, Result, nat_lt}
use Rattle.exact.specs.Workings as exact
use Rattle.points.specs.declared.fault.Fault.{Fault}
use Rattle.points.specs.declared.fault.Refusal.TheVariants.{OffScale, Short, Degree, Worn}
use Rattle.points.specs.declared.parameter.Parameter.{Parameter}
use Rattle.points.specs.Refusals.{refuse}
use Rattle.points.specs.Parameters.{off_scale}
use Rattle.points.specs.Points.{Point, mix_point}
use Rattle.workings.specs.declared.survey.Survey.{Survey}
use Rattle.workings.specs.declared.working.Working.{Working}
use Rattle.workings.specs.declared.working.Working.TheVariants.{Left, Right, Raise, Turn}

-- parameters and workings as the mathematics has them
abbrev pub place : Parameter → exact.Param
place t = record { power = t.k; part = t.a }

abbrev pub step : Working → exact.Working
step (Left t) = exact.left_at (place t)
step (Right t) = exact.right_at (place t)
step Raise = exact.raised
step Turn = exact.turned

abbrev pub steps : List Working → List exact.Working
steps [] = []
steps (w ∷ ws) = step w ∷ steps ws

-- the points after a working
abbrev pub shape : Working → List Point → List Point
shape w ps = exact.worked mix_point (step w) ps

-- what it adds to the allowance at degree n, and the degree after it
abbrev pub charge_of : Working → ℕ → ℕ
charge_of w n = exact.charge (step w) n

abbrev pub next_degree : Working → ℕ → ℕ
next_degree w n = exact.next_degree (step w) n

-- its parameter is none
abbrev pub off_scale_in : Working → Bool
off_scale_in (Left t) = off_scale t
off_scale_in (Right t) = off_scale t
off_scale_in Raise = false
off_scale_in Turn = false

-- the degree after it, or refusal 1 or 3
abbrev pub tested : Working → ℕ → Result ℕ Fault
tested w n =
    cond (off_scale_in w) (Err (refuse OffScale 0))
    (cond (nat_lt n 1 || nat_lt 16 n) (Err (refuse Degree n))
    (cond (nat_lt 16 (next_degree w n)) (Err (refuse Degree (next_degree w n)))
    (Ok (next_degree w n))))

-- the allowance after it, or refusal 4; the reach is the one below, unless the points now need more
abbrev pub charged : Working → Survey → Result ℕ Fault → Result Survey Fault
charged w s (Err f) = Err f
charged w s (Ok n) = cond (nat_lt 65535 (s.allowance + charge_of w s.degree)) (Err (refuse Worn (charge_of w s.degree))) (Ok (record { degree = n; allowance = s.allowance + charge_of w s.degree; reach = max s.reach (n + 1) }))

-- what is told above a working, from what is told below
abbrev pub after : Working → Survey → Result Survey Fault
after w s = charged w s (tested w s.degree)

-- a buffer of so many places takes a polygon of degree n, or refusal 2
abbrev pub roomy : Result ℕ Fault → ℕ → Result (Unit {0}) Fault
roomy (Err f) places = Err f
roomy (Ok n) places = cond (nat_lt places (n + 1)) (Err (refuse Short (n + 1))) (Ok tt)
