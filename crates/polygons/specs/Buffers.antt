-- What a call on a buffer answers, and what the buffer then holds.
use Rattle.std.specs.Prelude.{◌≡◌, ℕ, ◌+◌, ◌^◌, ◌≤◌, cond, ◌||◌, List, map, length, take, drop, Ok, Err, Result, nat_lt}
use Rattle.points.specs.declared.fault.Fault.{Fault}
use Rattle.points.specs.declared.fault.Refusal.TheVariants.{OffScale, Short, Degree}
use Rattle.points.specs.declared.parameter.Parameter.{Parameter}
use Rattle.points.specs.declared.weight.Weight.{Weight}
use Rattle.points.specs.Refusals.{refuse}
use Rattle.points.specs.Parameters.{off_scale}
use Rattle.points.specs.Points.{Point}

-- a number of points, or a degree, from one number to another; else refusal 3
abbrev pub ranged : ℕ → ℕ → ℕ → Result (Unit {0}) Fault
ranged least most n = cond (nat_lt n least || nat_lt most n) (Err (refuse Degree n)) (Ok tt)

-- a polygon has from 2 to 17 points
abbrev pub sized : ℕ → Result (Unit {0}) Fault
sized n = cond (nat_lt n 2 || nat_lt 17 n) (Err (refuse Degree n)) (Ok tt)

-- the parameter is tested first
abbrev pub scaled : Parameter → Result (Unit {0}) Fault → Result (Unit {0}) Fault
scaled t r = cond (off_scale t) (Err (refuse OffScale 0)) r

-- one degree more: from 2 to 16 points, and a place for one more
abbrev pub raisable : ℕ → ℕ → Result (Unit {0}) Fault
raisable points places = cond (nat_lt points 2 || nat_lt 16 points) (Err (refuse Degree points)) (cond (nat_lt places (points + 1)) (Err (refuse Short (points + 1))) (Ok tt))

-- both parts: from 2 to 17 points, and as many places more
abbrev pub splittable : ℕ → ℕ → Result (Unit {0}) Fault
splittable points places = cond (nat_lt points 2 || nat_lt 17 points) (Err (refuse Degree points)) (cond (nat_lt places (points + points)) (Err (refuse Short (points + points))) (Ok tt))

-- An accepted call puts the points qs first on the buffer and leaves the places past them; a refused one leaves all as found.
abbrev pub Puts : {X : Type 0} → (X → Point) → List Point → Result (Unit {0}) Fault → List X → List X → Type 0
Puts c qs (Ok u) before after = (map c (take (length qs) after) ≡ qs) × (drop (length qs) after ≡ drop (length qs) before)
Puts c qs (Err f) before after = after ≡ before

-- what the tests of a call on so many points at a parameter give: its weight, or the refusal
abbrev pub Weighs : Parameter → ℕ → Result Weight Fault → Type 0
Weighs t n (Ok w) = (w.num ≡ t.a) × (w.den ≡ 2 ^ t.k) × (scaled t (sized n) ≡ Ok tt) × (2 ≤ n) × (n ≤ 17)
Weighs t n (Err f) = scaled t (sized n) ≡ Err f
