-- The steps of opening a file.
use Rattle.std.proofs.Common.{◌≡◌, ℕ, ◌<◌, ◌≤◌, List, [], ◌∷◌, length, Result, sym, refl, ap, ◌∙◌, arith, MatchResult}
use Rattle.std.proofs.lemmas.Result.{MatchResult-weaker}
use Rattle.std.proofs.lemmas.Bool.{cond-true, cond-false, lt-ltb, le-ltb}
use Rattle.points.specs.Refusals.{refuse}
use Rattle.points.specs.declared.fault.Fault.{Fault}
use Rattle.points.specs.declared.fault.Refusal.TheVariants.{Tail, Overlong}
use Rattle.pathformat.specs.declared.kind.FileKind.{FileKind}
use Rattle.pathformat.specs.Reading.{took, bad, fault}
use Rattle.pathformat.specs.Writing.{Bytes}
use Rattle.pathformat.specs.File.{File, sections, ended, decode, encode}
use Rattle.pathformat.proofs.Trip.{reads-back, is-file}
use Rattle.pathfiles.specs.declared.opened.Opened.{Opened}
use Rattle.pathfiles.specs.Opened.{OpensBy, Holds, NoFile}

pub ended_some : (f : File) (n : ℕ) (bs : List ℕ) → 0 < length bs → ended f n bs ≡ bad (fault Tail n bs)
ended_some f n [] h = absurd (omega arith)
ended_some f n (b ∷ bs) h = refl

-- a file over 65,535 bytes is refused, and any other is its sections
pub overlong : (k : FileKind) (bs : List ℕ) → 65535 < length bs → decode k bs ≡ bad (refuse Overlong 0)
overlong k bs h = cond-true _ _ _ (lt-ltb 65535 (length bs) h)

pub not-overlong : (k : FileKind) (bs : List ℕ) → length bs ≤ 65535 → decode k bs ≡ sections k (length bs) bs
not-overlong k bs h = cond-false _ _ _ (le-ltb 65535 (length bs) h)

-- bytes that do not read are no file, and bytes that read are the file that they say
pub no-file : (k : FileKind) (bs : List ℕ) (e : Fault) → decode k bs ≡ bad e → NoFile k bs
no-file k bs e h f is =
    let reads : decode k bs ≡ took f [] = ap (decode k) is.bytes ∙ ap (λ j. decode j (encode f)) (sym is.kind) ∙ reads-back f is.fileable in
    cc

pub exactly : {K : Type 0} (k : FileKind) (bs : List ℕ) → Bytes bs → (r : Result (Opened K) Fault) → OpensBy (decode k bs) k r → MatchResult r (Holds k bs) (λ _. NoFile k bs)
exactly k bs b r h = MatchResult-weaker r h (λ o t. record { file = t.file; is = is-file k bs t.file [] b t.read; said = t.said }) (no-file k bs)
