use Rattle.std.proofs.Common.{arith}
use Rattle.std.proofs.lemmas.Grind.{common_steps}
use Rattle.pathformat.specs.declared.kind.FileKind.TheVariants.{Planar as PlanarFile}
use Rattle.pathformat.specs.File.{decode}
use Rattle.native.proofs.Files.{filed, unfiled}
use Rattle.native.proofs.opening.opened.Goals as goal

pub returns-in_err-points-clause-answer : goal.returns-in_err-points-clause-answer
returns-in_err-points-clause-answer c =
    let v = unfiled (decode PlanarFile c.args.file.now) c.in_ok-o.o c.in_ok-o.ensures.answer c.args.buffer.now c.points.new.buffer c.in_err-points.field-0.0 c.in_err-points.ensures.answer c.in_err-points.ensures.buffer in
    let is = v.0 in grind (arith, common_steps, is)

pub returns-in_err-points-clause-points : goal.returns-in_err-points-clause-points
returns-in_err-points-clause-points c = (unfiled (decode PlanarFile c.args.file.now) c.in_ok-o.o c.in_ok-o.ensures.answer c.args.buffer.now c.points.new.buffer c.in_err-points.field-0.0 c.in_err-points.ensures.answer c.in_err-points.ensures.buffer).1

pub returns-clause-points : goal.returns-clause-points
returns-clause-points c = (filed (decode PlanarFile c.args.file.now) c.in_ok-o.o c.in_ok-o.ensures.answer c.args.buffer.now c.points.new.buffer c.in_ok-points.field-0 c.in_ok-points.ensures.answer c.in_ok-points.ensures.buffer).1
