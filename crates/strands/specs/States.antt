-- A strand with its buffer, and what each call makes of it.
use Rattle.std.specs.Prelude.{◌≡◌, ℕ, ◌+◌, cond, List, map, length, take, Ok, Err, Result, nat_lt}
use Rattle.points.specs.declared.fault.Fault.{Fault}
use Rattle.points.specs.declared.fault.Refusal.TheVariants.{OffScale, Short}
use Rattle.points.specs.declared.parameter.Parameter.{Parameter}
use Rattle.points.specs.Refusals.{refuse}
use Rattle.points.specs.Parameters.{off_scale}
use Rattle.points.specs.Points.{Point}
use Rattle.polygons.specs.Buffers.{Puts}
use Rattle.workings.specs.declared.survey.Survey.{Survey}
use Rattle.workings.specs.declared.working.Working.{Working}
use Rattle.workings.specs.Workings.{after, shape}
use Rattle.sources.specs.Meaning.{Meaning, draw_of}
use Rattle.sources.specs.Points.{point_at}
use Rattle.strands.specs.declared.strand.Strand.{Strand}

pub record State (X : Type 0) : Type 0 where
  pub degree : ℕ
  pub allowance : ℕ
  pub buffer : List X

abbrev pub state : {X : Type 0} → Strand → List X → State X
state s xs = record { degree = s.degree; allowance = s.allowance; buffer = xs }

-- its polygon stands first on the buffer
abbrev pub polygon : {X : Type 0} → (X → Point) → State X → List Point
polygon c s = map c (take (s.degree + 1) s.buffer)

-- load: the degree and the allowance that draw tells
abbrev pub told : Result Survey Fault → Result (ℕ × ℕ) Fault
told (Ok s) = Ok (s.degree, s.allowance)
told (Err f) = Err f

abbrev pub load_of : Meaning → ℕ → Result (ℕ × ℕ) Fault
load_of m places = told (draw_of m places)

abbrev pub numbers : Result Strand Fault → Result (ℕ × ℕ) Fault
numbers (Ok s) = Ok (s.degree, s.allowance)
numbers (Err f) = Err f

-- the buffer must have a place for each point of the new polygon
abbrev pub placed : Result Survey Fault → ℕ → Result Survey Fault
placed (Err f) places = Err f
placed (Ok t) places = cond (nat_lt places (t.degree + 1)) (Err (refuse Short (t.degree + 1))) (Ok t)

-- the degree and the allowance after a working, or refusal 1, 3, 4, then 2
abbrev pub rework_of : {X : Type 0} → Working → State X → Result Survey Fault
rework_of w s = placed (after w (record { degree = s.degree; allowance = s.allowance; reach = s.degree + 1 })) (length s.buffer)

-- an accepted working has worked the polygon and charged the strand; the places past the polygon stay
pub record Reworked {X : Type 0} (c : X → Point) (w : Working) (t : Survey) (s s' : State X) : Type 0 where
  pub degree : s'.degree ≡ t.degree
  pub allowance : s'.allowance ≡ t.allowance
  pub buffer : Puts c (shape w (polygon c s)) (Ok tt) s.buffer s'.buffer

abbrev pub Stepped : {X : Type 0} → (X → Point) → Working → Result Survey Fault → State X → State X → Result (Unit {0}) Fault → Type 0
Stepped c w (Err f) s s' r = (r ≡ Err f) × (s' ≡ s)
Stepped c w (Ok t) s s' r = (r ≡ Ok tt) × Reworked c w t s s'

-- the working w, which answers r, takes the strand and its buffer from s to s'; a refused one leaves them as found
abbrev pub Step : {X : Type 0} → (X → Point) → Working → State X → State X → Result (Unit {0}) Fault → Type 0
Step c w s s' r = Stepped c w (rework_of w s) s s' r

-- the answer of a strand's point call with a second buffer of so many places: refusal 1, 2 for its buffer, 2 for the second
abbrev pub strand_point : {X : Type 0} → (X → Point) → Parameter → State X → ℕ → Result (Point × ℕ) Fault
strand_point c t s places =
    cond (off_scale t) (Err (refuse OffScale 0))
    (cond (nat_lt (length s.buffer) (s.degree + 1)) (Err (refuse Short (s.degree + 1)))
    (cond (nat_lt places (s.degree + 1)) (Err (refuse Short (s.degree + 1)))
    (Ok (point_at t (polygon c s), s.allowance + s.degree))))

-- accepted or refused
abbrev pub outcome : {A : Type 0} → Result A Fault → Result (Unit {0}) Fault
outcome (Ok x) = Ok tt
outcome (Err f) = Err f
