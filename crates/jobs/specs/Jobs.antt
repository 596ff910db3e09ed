-- What a job comes to.
use Rattle.std.specs.Prelude.{◌≡◌, ℕ, ◌+◌, ◌<◌, ◌≤◌, max, List, ◌++◌, map, length, take, drop, Some, None, Ok, Err, Option, Result, IfOk, slice_index_or}
use Rattle.points.specs.declared.fault.Fault.{Fault}
use Rattle.points.specs.declared.fault.Refusal.TheVariants.{Short}
use Rattle.points.specs.declared.parameter.Parameter.{Parameter}
use Rattle.points.specs.Refusals.{refuse}
use Rattle.points.specs.Points.{Point}
use Rattle.workings.specs.declared.working.Working.{Working}
use Rattle.sources.specs.Meaning.{Meaning, fails, holds}
use Rattle.sources.specs.Piles.{piled}
use Rattle.sources.specs.Accuracy.{AccurateFor}
use Rattle.strands.specs.States.{State, state, load_of, rework_of, strand_point}
use Rattle.strands.specs.Histories.{works, Reaches, Keeps}
use Rattle.pathformat.specs.Reading.{Read, took, bad}
use Rattle.pathformat.specs.File.{File}
use Rattle.pathfiles.specs.Filed.{filed}
use Rattle.jobs.specs.declared.job.Job.{Job}

-- all workings were done, or the next one is refused by the strand as it stands
abbrev pub Stopped : {X : Type 0} → List Working → ℕ → Option Fault → State X → Type 0
Stopped ws n None s = n ≡ length ws
Stopped ws n (Some f) s = (n < length ws) × ((w : Working) → rework_of (slice_index_or ws n w) s ≡ Err f)

-- the places that a job may write: those up to the source's reach, and those of the polygon that it ends with
abbrev pub written : Meaning → ℕ → ℕ
written (fails f) degree = degree + 1
written (holds h) degree = max h.reach (degree + 1)

-- A point of the strand, at any parameter: it is accurate for the pile of the workings ws over whatever the source is piled up from.
abbrev pub AccurateStrand : {X : Type 0} → (X → Point) → ℕ → Meaning → List Working → State X → Type 0
AccurateStrand c width m ws s =
    (t : Parameter) (places : ℕ) (bottom : Meaning) (vs : List Working) → m ≡ piled vs bottom → AccurateFor width bottom (vs ++ ws) t (strand_point c t s places)

-- The first n of the workings ws were accepted by the strand that a source which means m was loaded into, one after another, and then it stopped; the
-- places of the buffer that were not written are as before.
pub record Ran {X : Type 0} (c : X → Point) (m : Meaning) (ws : List Working) (n : ℕ) (f : Option Fault) (before : List X) (s : State X) : Type 0 where
  pub done : Reaches c m (map works (take n ws)) (take n ws) s
  pub stopped : Stopped ws n f s
  pub untouched : drop (written m s.degree) s.buffer ≡ drop (written m s.degree) before

-- the answer of a job, and its buffer before and after
abbrev pub Answers : {X : Type 0} → (X → Point) → Meaning → List Working → List X → List X → Result Job Fault → Type 0
Answers c m ws before after (Ok j) = Ran c m ws j.done j.fault before (state j.strand after)
Answers c m ws before after (Err f) = (load_of m (length before) ≡ Err f) × (after ≡ before)

-- After the workings ws a strand has the degree, the allowance and the points of their pile over the source, and its points are accurate.
pub record Carries {X : Type 0} (c : X → Point) (width : ℕ) (m : Meaning) (ws : List Working) (s : State X) : Type 0 where
  pub keeps : Keeps c m ws s
  pub accurate : AccurateStrand c width m ws s

-- so does the strand of a job, after the workings that were done
abbrev pub CarriesDone : {X : Type 0} → (X → Point) → ℕ → Meaning → List Working → List X → Result Job Fault → Type 0
CarriesDone c width m ws after r = IfOk r (λ j. Carries c width m (take j.done ws) (state j.strand after))

-- The answer of a job on an opened file, by what reading it comes to: its workings over its points. A value that is no file is refused by the fault of
-- reading it, and one with more workings than a file can have by 2, with their number.
abbrev pub FileAnswers : {X : Type 0} → (X → Point) → ℕ → Read File → List X → List X → Result Job Fault → Type 0
FileAnswers c width (bad e) before after r = (r ≡ Err e) × (after ≡ before)
FileAnswers c width (took f rest) before after r =
    (length f.workings ≤ 256 → Answers c (filed (took f rest)) f.workings before after r × CarriesDone c width (filed (took f rest)) f.workings after r) × (256 < length f.workings → (r ≡ Err (refuse Short (length f.workings))) × (after ≡ before))
