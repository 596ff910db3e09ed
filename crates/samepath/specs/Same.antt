-- The same path.
use Rattle.std.specs.Prelude.{◌≡◌, ℕ, ◌*◌, ◌^◌, List, [], ◌∷◌}
use Rattle.points.specs.declared.parameter.Parameter.{Parameter}
use Rattle.workings.specs.declared.working.Working.{Working}
use Rattle.workings.specs.declared.working.Working.TheVariants.{Left, Right, Raise, Turn}
use Rattle.pathformat.specs.declared.kind.FileKind.{FileKind}
use Rattle.pathformat.specs.Reading.{took}
use Rattle.pathformat.specs.File.{File}
use Rattle.pathfiles.specs.declared.opened.Opened.{Opened}
use Rattle.pathfiles.specs.Opened.{says}

-- two parameters are the same number, a/2^k = b/2^l, multiplied out
abbrev pub SameNumber : Parameter → Parameter → Type 0
SameNumber s t = s.a * 2 ^ t.k ≡ t.a * 2 ^ s.k

-- the letter of a working, and its parameter; those without one are taken at 0/1
abbrev pub letter : Working → ℕ
letter (Left t) = 76
letter (Right t) = 82
letter Raise = 85
letter Turn = 84

abbrev pub parameter : Working → Parameter
parameter (Left t) = t
parameter (Right t) = t
parameter Raise = record { a = 0; k = 0 }
parameter Turn = record { a = 0; k = 0 }

-- two workings are the same: the same letter, at the same number
abbrev pub SameWorking : Working → Working → Type 0
SameWorking v w = (letter v ≡ letter w) × SameNumber (parameter v) (parameter w)

-- lists of the same length, one by one
abbrev pub Pairwise : {X : Type 0} → (X → X → Type 0) → List X → List X → Type 0
Pairwise R [] [] = Unit {0}
Pairwise R [] (y ∷ ys) = ⊥
Pairwise R (x ∷ xs) [] = ⊥
Pairwise R (x ∷ xs) (y ∷ ys) = R x y × Pairwise R xs ys

-- Two files are the same path if they agree in points and workings. Names and allowances do not count.
pub record SamePath (f g : File) : Type 0 where
  pub points : f.points ≡ g.points
  pub workings : Pairwise SameWorking f.workings g.workings

pub record Equivalence {X : Type 0} (R : X → X → Type 0) : Type 0 where
  pub reflexive : (x : X) → R x x
  pub symmetric : (x y : X) → R x y → R y x
  pub transitive : (x y z : X) → R x y → R y z → R x z

-- two opened files both say a file, and these are the same path
pub record SameSaid {K : Type 0} (k : FileKind) (a b : Opened K) : Type 0 where
  pub first : File
  pub second : File
  pub first_said : says k a ≡ took first []
  pub second_said : says k b ≡ took second []
  pub same : SamePath first second

-- what holds of the files that two opened files say
abbrev pub SayBoth : {K : Type 0} → FileKind → Opened K → Opened K → (File → File → Type 0) → Type 0
SayBoth k a b P = (f g : File) → says k a ≡ took f [] → says k b ≡ took g [] → P f g
