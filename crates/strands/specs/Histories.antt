-- What lists of calls make of a strand and its buffer.
use Rattle.std.specs.Prelude.{◌≡◌, ℕ, ◌+◌, List, [], ◌∷◌, ◌++◌, length, Ok, Err, Result}
use Rattle.points.specs.declared.fault.Fault.{Fault}
use Rattle.points.specs.declared.parameter.Parameter.{Parameter}
use Rattle.points.specs.Points.{Point}
use Rattle.workings.specs.declared.working.Working.{Working}
use Rattle.sources.specs.Meaning.{Meaning, holds, Held, Fit, Sound, Laid}
use Rattle.sources.specs.Piles.{piled}
use Rattle.sources.specs.Accuracy.{AccurateFor}
use Rattle.strands.specs.declared.strand.Strand.{Strand}
use Rattle.strands.specs.States.{State, state, polygon, load_of, Step}

-- left, right, raise and turn; and point
pub data Call : Type 0 where
  works : Working → Call
  asks : Parameter → Call

-- The strand that a source which means m was loaded into, and its buffer, are as s after these calls, of which those in ws, the first one first, were
-- accepted workings. It is a relation, since load leaves the free places open.
pub data Reaches {X : Type 0} (c : X → Point) (m : Meaning) : List Call → List Working → State X → Type 0 where
  loaded : {s : State X} (before : List X) → Sound m → load_of m (length before) ≡ Ok (s.degree, s.allowance) → Laid c m before s.buffer → Reaches c m [] [] s
  accepted : {calls : List Call} {ws : List Working} {s s' : State X} (w : Working) → Reaches c m calls ws s → Step c w s s' (Ok tt) → Reaches c m (calls ++ works w ∷ []) (ws ++ w ∷ []) s'
  refused : {calls : List Call} {ws : List Working} {s s' : State X} (w : Working) (f : Fault) → Reaches c m calls ws s → Step c w s s' (Err f) → Reaches c m (calls ++ works w ∷ []) ws s'
  asked : {calls : List Call} {ws : List Working} {s : State X} (t : Parameter) → Reaches c m calls ws s → Reaches c m (calls ++ asks t ∷ []) ws s

-- A strand with its buffer keeps the pile of these workings over a source which means m: its numbers and its polygon are what the pile holds.
pub record Keeps {X : Type 0} (c : X → Point) (m : Meaning) (ws : List Working) (s : State X) : Type 0 where
  pub held : Held
  pub means : piled ws m ≡ holds held
  pub points : held.points ≡ polygon c s
  pub allowance : held.allowance ≡ s.allowance
  pub count : s.degree + 1 ≡ length held.points
  pub fit : Fit held

-- a strand that was loaded begins a history
abbrev pub Begins : {X : Type 0} → (X → Point) → Meaning → List X → Result Strand Fault → Type 0
Begins c m buffer (Ok s) = Reaches c m [] [] (state s buffer)
Begins c m buffer (Err f) = Unit {0}

-- the accepted workings after one more, which answered r
abbrev pub grown : List Working → Working → Result (Unit {0}) Fault → List Working
grown ws w (Ok u) = ws ++ w ∷ []
grown ws w (Err f) = ws

-- every history that led to s goes on, by the working w, to s'
abbrev pub Continues : {X : Type 0} → (X → Point) → Working → State X → State X → Result (Unit {0}) Fault → Type 0
Continues c w s s' r = (m : Meaning) (calls : List Call) (ws : List Working) → Reaches c m calls ws s → Reaches c m (calls ++ works w ∷ []) (grown ws w r) s'

-- An answer of a strand's point call: it is accurate for every source and every list of calls after its load that led to this strand and buffer, with the
-- pile of the accepted workings over whatever that source is piled up from.
abbrev pub AccurateAfter : {X : Type 0} → (X → Point) → ℕ → State X → Parameter → Result (Point × ℕ) Fault → Type 0
AccurateAfter c width s t r =
    (m : Meaning) (calls : List Call) (ws : List Working) → Reaches c m calls ws s →
    (bottom : Meaning) (vs : List Working) → m ≡ piled vs bottom → AccurateFor width bottom (vs ++ ws) t r
