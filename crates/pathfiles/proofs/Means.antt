-- Survey and draw of an opened file.
use Rattle.std.proofs.Common.{◌≡◌, ℕ, ◌<◌, ◌≤◌, min, List, [], map, length, take, drop, pos, Ok, Err, sym, refl, ap, ◌∙◌, subst, arith}
use Rattle.std.proofs.lemmas.List.{length-map}
use Rattle.points.specs.declared.fault.Fault.{Fault}
use Rattle.points.specs.Points.{Point}
use Rattle.workings.specs.declared.survey.Survey.{Survey}
use Rattle.workings.proofs.Tests.{err-ok}
use Rattle.sources.specs.Meaning.{Held, holds, told, survey_of, draw_of, Laid}
use Rattle.sources.proofs.Meanings.{given, memory-surveyed, drawn-ok, laid_by}
use Rattle.pathformat.specs.declared.kind.FileKind.{FileKind}
use Rattle.pathformat.specs.Reading.{Read, took, bad, values}
use Rattle.pathformat.specs.File.{File, listed, point_of, point_at}
use Rattle.pathformat.proofs.Axes.{points-listed}
use Rattle.pathformat.proofs.Fields.{taken-after}
use Rattle.pathreading.specs.Outcomes.{placing}
use Rattle.pathreading.proofs.Sections.{placed-ok, placed-err}
use Rattle.pathfiles.specs.declared.opened.Opened.{Opened}
use Rattle.pathfiles.specs.Opened.{points_of, workings_of, says, Said}
use Rattle.pathfiles.specs.Filed.{filed}
use Rattle.pathfiles.proofs.Says.{parts, points-read, point-count-said}

-- a survey that went through
module _ {K : Type 0} (k : FileKind) (o : Opened K) (s : Survey) (q : Ok s ≡ survey_of (filed (says k o))) where
  -- a file is said
  said : Said k o
  said = by (says k o) refl
    where
      by : (v : Read File) → says k o ≡ v → Said k o
      by (took f r) p =
          let t = taken-after (points_of k o) _ f r p in
          let w = taken-after (workings_of o) _ f r t.3 in
          let whole : r ≡ [] = let h = w.3 in cc in
          record { file = f; said = p ∙ ap (took f) whole }
      by (bad f) p = err-ok f s (sym (q ∙ ap (λ v. survey_of (filed v)) p))

  abbrev file : File
  file = said.file

  abbrev points : List Point
  points = map point_of file.points

  abbrev held : Held
  held = given points (min file.allowance 65535) (length file.points)

  counted : length points ≡ length file.points
  counted = length-map file.points point_of

  many : o.points.count ≡ length file.points
  many = point-count-said k o file said.said

  -- what it tells
  surveyed : (filed (says k o) ≡ holds held) × (s ≡ told held) × (s.reach ≡ length file.points)
  surveyed =
      let m = memory-surveyed points (min file.allowance 65535) (length file.points) s counted (q ∙ ap (λ v. survey_of (filed v)) said.said) in
      (ap filed said.said ∙ m.0, m.1, m.2)

  -- a buffer that has its reach is long enough for the points
  pub points-fit : (f : Fault) (places : ℕ) → s.reach ≤ places → Err f ≡ placing (points_of k o) o.points.count places → ⊥
  points-fit f places room e =
      let short = (placed-err (point_at k) o.points (points-read k o file said.said) places f e).0 in
      let reach = surveyed.2 in
      omega (arith, many)

  -- the points that went onto a buffer are drawn there
  pub points-drawn : {X : Type 0} (width : ℕ) (coord : X → Point) → ((x : X) (a : ℕ) → width ≤ a → coord x a ≡ pos 0) → (before now : List X) (n : ℕ) → Ok n ≡ placing (points_of k o) o.points.count (length before) → (map (λ x. listed width (coord x)) (take n now) ≡ values (points_of k o)) × (drop n now ≡ drop n before) → (Ok s ≡ draw_of (filed (says k o)) (length before)) × Laid coord (filed (says k o)) before now
  points-drawn width coord lacks before now n answer put =
      let p = placed-ok (point_at k) o.points (points-read k o file said.said) (length before) n answer in
      let room : length file.points ≤ length before = omega (arith, many) in
      let en : n ≡ length file.points = p.1 ∙ many in
      let first : map coord (take n now) ≡ points = sym (points-listed width coord lacks (take n now)) ∙ ap (map point_of) (put.0 ∙ ap values (parts k o file said.said).points) in (
        drawn-ok held (length before) s _ surveyed.0 surveyed.1 room,
        laid_by coord _ _ before now surveyed.0 (
          (λ (l : length before < length file.points). absurd (omega arith)),
          (λ _. (ap (λ j. map coord (take j now)) (counted ∙ sym en) ∙ first, subst (λ j. drop j now ≡ drop j before) en put.1)),
        ),
      )
