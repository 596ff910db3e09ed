-- A job on an opened file.
use Rattle.std.proofs.Common.{◌≡◌, ℕ, ◌≤◌, List, length, Err, sym, ap, ◌∙◌, subst, arith}
use Rattle.points.specs.declared.fault.Fault.{Fault}
use Rattle.points.specs.declared.fault.Refusal.TheVariants.{Short}
use Rattle.points.specs.Refusals.{refuse}
use Rattle.points.specs.Points.{Point}
use Rattle.pathformat.specs.declared.kind.FileKind.{FileKind}
use Rattle.pathformat.specs.File.{working_at}
use Rattle.pathreading.specs.Outcomes.{placing}
use Rattle.pathreading.proofs.Sections.{placed-err}
use Rattle.pathfiles.specs.declared.opened.Opened.{Opened}
use Rattle.pathfiles.specs.Opened.{workings_of, says, Said}
use Rattle.pathfiles.proofs.Says.{workings-read, working-count-said}
use Rattle.jobs.specs.Jobs.{FileAnswers}

module _ {K : Type 0} (k : FileKind) (o : Opened K) (t : Said k o) {X : Type 0} (c : X → Point) (width : ℕ) (before after : List X) where
  -- the workings are more than there are places for
  pub too_many : (x : Fault) → Err x ≡ placing (workings_of o) o.workings.count 256 → after ≡ before → FileAnswers c width (says k o) before after (Err x)
  too_many x refused stays =
      let many = working-count-said k o t.file t.said in
      let p = placed-err working_at o.workings (workings-read k o t.file t.said) 256 x refused in
      let is = ap Err (p.1 ∙ ap (refuse Short) many) in
      subst (λ q. FileAnswers c width q before after (Err x)) (sym t.said) ((λ (m : length t.file.workings ≤ 256). absurd (omega (arith, many))), (λ _. (is, stays)))
