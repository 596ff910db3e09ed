-- What is put on the buffer by what the opened file says.
use Rattle.std.proofs.Common.{◌≡◌, ℕ, ◌<◌, ◌≤◌, true, List, map, length, take, drop, ℤ, Ok, Err, sym, ap, ◌∙◌, subst, arith}
use Rattle.std.proofs.lemmas.Bool.{cond-true, cond-false, lt-ltb, le-ltb}
use Rattle.points.specs.declared.fault.Fault.{Fault}
use Rattle.points.specs.declared.fault.Refusal.TheVariants.{Short}
use Rattle.points.specs.declared.planar.Planar.{Planar}
use Rattle.points.specs.Refusals.{refuse}
use Rattle.points.specs.Points.{planar}
use Rattle.pathformat.specs.declared.kind.FileKind.TheVariants.{Planar as PlanarFile}
use Rattle.pathformat.specs.Reading.{Read, values}
use Rattle.pathformat.specs.File.{File, listed, point_at}
use Rattle.pathfiles.specs.declared.opened.Opened.{Opened}
use Rattle.pathfiles.specs.Opened.{points_of, Opens}
use Rattle.pathreading.specs.Outcomes.{placing, Placed}
use Rattle.pathreading.specs.Sections.{all_read}
use Rattle.pathreading.proofs.Sections.{placed-ok, placed-err}
use Rattle.pathfiles.proofs.Says.{parts, points-read, point-count-said}
use Rattle.native.specs.Files.{no_numbers, numbers_of, file_answer_of, FiledOn}

abbrev pub axes : Planar → List ℤ
axes p = listed 2 (planar p)

module _ (q : Read File) (o : Opened Planar) (opens : Opens q PlanarFile o) (before after : List Planar) where
  count : o.points.count ≡ length opens.file.points
  count = point-count-said PlanarFile o opens.file opens.said

  read : all_read (point_at PlanarFile) o.points ≡ true
  read = points-read PlanarFile o opens.file opens.said

  held : values (points_of PlanarFile o) ≡ opens.file.points
  held = ap values (parts PlanarFile o opens.file opens.said).points

  -- the buffer was long enough
  pub filed : (n : ℕ) → Ok n ≡ placing (points_of PlanarFile o) o.points.count (length before) → Placed axes (values (points_of PlanarFile o)) before after (Ok n) → (file_answer_of q (length before) ≡ numbers_of opens.file) × FiledOn q before after
  filed n e d =
      let p = placed-ok (point_at PlanarFile) o.points read (length before) n e in
      let on = subst (λ k. (map axes (take k after) ≡ values (points_of PlanarFile o)) × (drop k after ≡ drop k before)) (p.1 ∙ count) d in
      let fits : length opens.file.points ≤ length before = omega (arith, p.0, count) in (
        ap (λ z. file_answer_of z (length before)) opens.read ∙ cond-false _ _ _ (le-ltb (length before) (length opens.file.points) fits),
        subst (λ z. FiledOn z before after) (sym opens.read) ((λ s. absurd (omega (arith, fits))), (λ _. (on.0 ∙ held, on.1))),
      )

  -- it was too short
  pub unfiled : (f : Fault) → Err f ≡ placing (points_of PlanarFile o) o.points.count (length before) → after ≡ before → (no_numbers f ≡ file_answer_of q (length before)) × FiledOn q before after
  unfiled f e d =
      let p = placed-err (point_at PlanarFile) o.points read (length before) f e in
      let short : length before < length opens.file.points = omega (arith, p.0, count) in (
        ap no_numbers (p.1 ∙ ap (refuse Short) count) ∙ sym (ap (λ z. file_answer_of z (length before)) opens.read ∙ cond-true _ _ _ (lt-ltb (length before) (length opens.file.points) short)),
        subst (λ z. FiledOn z before after) (sym opens.read) ((λ _. d), (λ l. absurd (omega (arith, short)))),
      )
