-- What an opened file says.
use Rattle.std.specs.Prelude.{◌≡◌, ℕ, List, [], ℤ, Result, MatchResult}
use Rattle.points.specs.declared.fault.Fault.{Fault}
use Rattle.workings.specs.declared.working.Working.{Working}
use Rattle.pathformat.specs.declared.kind.FileKind.{FileKind}
use Rattle.pathformat.specs.Reading.{Read, took, bad, after}
use Rattle.pathformat.specs.File.{File, IsFile, point_at, working_at}
use Rattle.pathreading.specs.Sections.{items_of}
use Rattle.pathfiles.specs.declared.opened.Opened.{Opened}

-- its points and its workings, read from their places in the file
abbrev pub points_of : {K : Type 0} → FileKind → Opened K → Read (List (List ℤ))
points_of k o = items_of (point_at k) o.points

abbrev pub workings_of : {K : Type 0} → Opened K → Read (List Working)
workings_of o = items_of working_at o.workings

-- the file that it says, as a file of the kind k
abbrev pub says : {K : Type 0} → FileKind → Opened K → Read File
says k o =
    after (points_of k o) (λ ps _.
    after (workings_of o) (λ ws _.
    took (record { kind = k; allowance = o.allowance; name = o.name.now; points = ps; workings = ws }) []))

-- it says some file, and what holds of any file that it says
pub record Said {K : Type 0} (k : FileKind) (o : Opened K) : Type 0 where
  pub file : File
  pub said : says k o ≡ took file []

abbrev pub Says : {K : Type 0} → FileKind → Opened K → (File → Type 0) → Type 0
Says k o P = (f : File) → says k o ≡ took f [] → P f

-- reading came to one file, whole, and the opened file says that file
pub record Opens {K : Type 0} (q : Read File) (k : FileKind) (o : Opened K) : Type 0 where
  pub file : File
  pub read : q ≡ took file []
  pub said : says k o ≡ took file []

-- what opening answers: an opened file, or the fault that reading came to
abbrev pub OpensBy : {K : Type 0} → Read File → FileKind → Result (Opened K) Fault → Type 0
OpensBy q k r = MatchResult r (Opens q k) (λ e. q ≡ bad e)

-- the bytes are those of a file, and the opened file says that file
pub record Holds {K : Type 0} (k : FileKind) (bs : List ℕ) (o : Opened K) : Type 0 where
  pub file : File
  pub is : IsFile k bs file
  pub said : says k o ≡ took file []

-- the bytes are those of no file of the kind
abbrev pub NoFile : FileKind → List ℕ → Type 0
NoFile k bs = (f : File) → IsFile k bs f → ⊥
