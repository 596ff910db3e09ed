-- The accuracy of points, in the words of the subject: nothing here rounds.
use Rattle.std.specs.Prelude.{◌≡◌, ℕ, ◌<◌, List, map, ◌≤ℤ◌, Ok, Err, Result}
use Rattle.exact.specs.Fractions.{Fraction, WithinHalf}
use Rattle.exact.specs.Curve.{exact}
use Rattle.exact.specs.Workings as exact
use Rattle.exact.specs.Accuracy.{StandsFor, least, greatest}
use Rattle.points.specs.declared.fault.Fault.{Fault}
use Rattle.points.specs.declared.parameter.Parameter.{Parameter}
use Rattle.points.specs.Points.{Point}
use Rattle.workings.specs.declared.working.Working.{Working}
use Rattle.workings.specs.Workings.{place, steps}
use Rattle.sources.specs.Meaning.{Meaning, fails, holds}
use Rattle.sources.specs.Piles.{piled}

-- a drawing: its control points, each with a fraction on each axis
abbrev pub Drawing : Type 0
Drawing = List (ℕ → Fraction)

-- the values on one axis
abbrev pub along : {V : Type 0} → ℕ → List (ℕ → V) → List V
along a xs = map (λ x. x a) xs

-- A source of points of so many axes stands for a drawing: on each axis it has as many points, each off by at most half the allowance.
abbrev pub Stands : ℕ → Meaning → Drawing → Type 0
Stands width (fails f) D = ⊥
Stands width (holds h) D = (a : ℕ) → a < width → StandsFor (along a h.points) h.allowance (along a D)

-- a point lies, on each axis, between the least and the greatest value of the points that are held
abbrev pub InBox : ℕ → Meaning → Point → Type 0
InBox width (fails f) p = ⊥
InBox width (holds h) p = (a : ℕ) → a < width → (least (along a h.points) ≤ℤ p a) × (p a ≤ℤ greatest (along a h.points))

-- the fraction to which a pile of workings, the lowest first, carries the parameter t back
abbrev pub carried_back : List Working → Parameter → Fraction
carried_back ws t = exact.carried (steps ws) (exact.fraction (place t))

-- A point p that was given with the allowance e at the parameter t of a pile of workings over a bottom: on every axis it is off the exact curve of
-- every drawing that the bottom stands for, taken at t carried back, by at most half of e; and it lies in the box round the bottom's points.
pub record Accurate (width : ℕ) (bottom : Meaning) (ws : List Working) (t : Parameter) (p : Point) (e : ℕ) : Type 0 where
  pub near : (D : Drawing) → Stands width bottom D → (a : ℕ) → a < width → WithinHalf e (p a) (exact (along a D) (carried_back ws t))
  pub boxed : InBox width bottom p

-- an answer for the pile ws over a bottom: if it is a point, it is accurate
abbrev pub AccurateFor : ℕ → Meaning → List Working → Parameter → Result (Point × ℕ) Fault → Type 0
AccurateFor width bottom ws t (Err f) = Unit {0}
AccurateFor width bottom ws t (Ok x) = Accurate width bottom ws t x.0 x.1

-- an answer of the point call on a source that means m: it is accurate for every pile over every bottom that makes up m, no working included
abbrev pub AccurateOver : ℕ → Meaning → Parameter → Result (Point × ℕ) Fault → Type 0
AccurateOver width m t r = (bottom : Meaning) (ws : List Working) → m ≡ piled ws bottom → AccurateFor width bottom ws t r
