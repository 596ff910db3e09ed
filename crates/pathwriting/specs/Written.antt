-- A file that was written whole.
use Rattle.std.specs.Prelude.{◌≡◌, ℕ, List, [], ◌++◌, length, take, drop, ℤ, IfOk, Result, MatchResult}
use Rattle.points.specs.declared.fault.Fault.{Fault}
use Rattle.polygons.specs.Buffers.{sized}
use Rattle.workings.specs.declared.working.Working.{Working}
use Rattle.pathformat.specs.declared.kind.FileKind.{FileKind}
use Rattle.pathformat.specs.Reading.{took}
use Rattle.pathformat.specs.Writing.{bytes_each, Bytes}
use Rattle.pathformat.specs.File.{File, IsFile, point_bytes, decode, encode}
use Rattle.pathwriting.specs.Puts.{room_for}
use Rattle.pathwriting.specs.Steps.{begin_bytes, name_test, parameters_test, count_test, then_test, SoFar}

abbrev pub file_of : FileKind → ℕ → List ℕ → List (List ℤ) → List Working → File
file_of k a nm ps ws = record { kind = k; allowance = a; name = nm; points = ps; workings = ws }

-- An accepted close leaves the whole file, if the one so far was begun with a kind, an allowance and a name, and then given its points.
abbrev pub Ends : {E : Type 0} → ℕ → List Working → List ℕ → List ℕ → Result ℕ E → Type 0
Ends at ws before after r = IfOk r (λ n. (k : FileKind) (a : ℕ) (nm : List ℕ) (ps : List (List ℤ)) → SoFar at (begin_bytes k a nm ++ bytes_each (point_bytes k) ps) before → SoFar n (encode (file_of k a nm ps ws)) after)

-- the length of a file on a buffer of so many places, or refusal 1, 12 for the name, 12 for the workings, 3, then 2
abbrev pub write_test : File → ℕ → Result ℕ Fault
write_test f places =
    then_test (parameters_test f.workings) (then_test (name_test f.name) (then_test (count_test f.workings)
    (then_test (sized (length f.points)) (room_for (length (encode f)) places))))

-- The first n bytes of the buffer are those of the file f, and the others as before. So opening them gives f back; and bytes that opened to f are those.
pub record WroteFile (f : File) (before after : List ℕ) (n : ℕ) : Type 0 where
  pub file : IsFile f.kind (take n after) f
  pub rest : drop n after ≡ drop n before
  pub opens : decode f.kind (take n after) ≡ took f []
  pub rewrites : (bs : List ℕ) → Bytes bs → decode f.kind bs ≡ took f [] → take n after ≡ bs

abbrev pub WritesFile : File → List ℕ → List ℕ → Result ℕ Fault → Type 0
WritesFile f before after r = MatchResult r (WroteFile f before after) (λ _. after ≡ before)
