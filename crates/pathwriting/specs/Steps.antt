-- The three steps in which a file is written.
use Rattle.std.specs.Prelude.{◌≡◌, ℕ, ◌+◌, cond, List, [], ◌∷◌, ◌++◌, map, length, take, ℤ, IfOk, Ok, Err, Result, MatchResult, nat_lt}
use Rattle.points.specs.declared.fault.Fault.{Fault}
use Rattle.points.specs.declared.fault.Refusal.TheVariants.{OffScale, Overlong}
use Rattle.points.specs.Refusals.{refuse}
use Rattle.points.specs.Points.{Point}
use Rattle.workings.specs.declared.working.Working.{Working}
use Rattle.workings.specs.Workings.{off_scale_in}
use Rattle.pathformat.specs.declared.kind.FileKind.{FileKind}
use Rattle.pathformat.specs.Writing.{bytes_each}
use Rattle.pathformat.specs.File.{listed, fields, point_bytes, head_bytes, name_bytes, FieldsOk}
use Rattle.pathwriting.specs.Puts.{put, room_for}

-- the bytes that beginning a file writes
abbrev pub begin_bytes : FileKind → ℕ → List ℕ → List ℕ
begin_bytes k a nm = head_bytes k a ++ name_bytes nm

-- points as the lists of their axis values
abbrev pub axis_values : {X : Type 0} → ℕ → (X → Point) → List X → List (List ℤ)
axis_values width coord ps = map (λ p. listed width (coord p)) ps

-- the bytes of a point, and of points after their count
abbrev pub bytes_of_point : {X : Type 0} → FileKind → ℕ → (X → Point) → X → List ℕ
bytes_of_point k width coord p = point_bytes k (listed width (coord p))

abbrev pub bytes_of_points : {X : Type 0} → FileKind → ℕ → (X → Point) → List X → List ℕ
bytes_of_points k width coord ps = bytes_each (point_bytes k) (axis_values width coord ps)

-- a point can be filed
abbrev pub FileablePoint : {X : Type 0} → FileKind → ℕ → (X → Point) → X → Type 0
FileablePoint k width coord p = FieldsOk (fields k) (listed width (coord p))

-- there are at most so many items
abbrev pub most_test : {X : Type 0} → ℕ → List X → Result (Unit {0}) Fault
most_test most xs = cond (nat_lt most (length xs)) (Err (refuse Overlong (length xs))) (Ok tt)

-- a name has at most 64 bytes
abbrev pub name_test : List ℕ → Result (Unit {0}) Fault
name_test = most_test 64

-- the first parameter that is none is refused
abbrev pub parameters_test : List Working → Result (Unit {0}) Fault
parameters_test [] = Ok tt
parameters_test (w ∷ ws) = cond (off_scale_in w) (Err (refuse OffScale 0)) (parameters_test ws)

-- there are at most 256 workings
abbrev pub count_test : List Working → Result (Unit {0}) Fault
count_test = most_test 256

-- one test, then another
abbrev pub then_test : {T : Type 0} → Result (Unit {0}) Fault → Result T Fault → Result T Fault
then_test (Ok u) r = r
then_test (Err f) r = Err f

-- workings are tested for their number, then for their parameters
abbrev pub workings_test : List Working → Result (Unit {0}) Fault
workings_test ws = then_test (count_test ws) (parameters_test ws)

-- A step that is taken from the state s and writes bytes where the file ends so far. Accepted, it has passed its own test, the buffer has room up to the
-- new end of the file, and only its bytes were written. Refused by its own test, or else by 2 with the new end, it gives s back and has written nothing.
abbrev pub Step : {S T : Type 0} → Result (Unit {0}) Fault → ℕ → List ℕ → (T → ℕ) → S → List ℕ → List ℕ → Result T (S × Fault) → Type 0
Step own at bytes end s before after r =
    MatchResult r (λ t. (then_test own (room_for (at + length bytes) (length before)) ≡ Ok (end t)) × (after ≡ put at bytes before))
    (λ e. (then_test own (room_for (at + length bytes) (length before)) ≡ Err e.1) × (e.0 ≡ s) × (after ≡ before))

-- the file so far, which ends at a place, stands first on the buffer
abbrev pub SoFar : ℕ → List ℕ → List ℕ → Type 0
SoFar end bytes buffer = take end buffer ≡ bytes

-- whatever file there is so far, an accepted step that ends at a place has put bytes behind it
abbrev pub Continues : {T E : Type 0} → ℕ → List ℕ → (T → ℕ) → List ℕ → List ℕ → Result T E → Type 0
Continues at bytes end before after r = IfOk r (λ t. (sofar : List ℕ) → SoFar at sofar before → SoFar (end t) (sofar ++ bytes) after)
