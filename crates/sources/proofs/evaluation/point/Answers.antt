use Rattle.std.proofs.Common.{◌+◌, length, take, ◌∙◌, arith}
use Rattle.std.proofs.lemmas.List.{length-take-le}
use Rattle.workings.proofs.Tests.{err-ok}
use Rattle.workings.proofs.Shapes.{scaled-ok}
use Rattle.sources.proofs.Pointing.{point-work, surveyed-fit, drawn-room}
use Rattle.sources.proofs.Accuracy.{accurate-by}
use Rattle.sources.proofs.evaluation.point.Goals as goal

-- the polygon drawn is one, so its right part is never refused
pub returns-in_err-right : goal.returns-in_err-right
returns-in_err-right g c =
    let s = c.in_ok-s.s in
    let m = g.S.Source.means c.args.source.now in
    let r = drawn-room m s c.in_ok-draw.field-0 (length c.args.buffer.now) (g.S.Source.sound c.args.source.now) c.in_ok-s.ensures c.in_ok-draw.ensures.answer in
    let f = surveyed-fit m s (g.S.Source.sound c.args.source.now) c.in_ok-s.ensures in
    let l = length-take-le (s.degree + 1) c.draw.new.buffer (omega arith) in
    err-ok _ _ (c.in_err-right.ensures.answer ∙ scaled-ok c.args.t (length (take (s.degree + 1) c.draw.new.buffer)) c.in_ok-weight.ensures.2 (omega (arith, f)) (omega (arith, f)))

pub returns : goal.returns
returns g c =
    let s = c.in_ok-s.s in
    let m = g.S.Source.means c.args.source.now in
    let h = g.S.Source.sound c.args.source.now in
    let p = point-work g.S.K.Kind.coord c.args.t m s c.in_ok-draw.field-0 (s.degree + 1) c.args.buffer.now c.draw.new.buffer c.right.new.polygon c.index-buffer-0.result h c.in_ok-s.ensures c.in_ok-weight.ensures.2 c.in_ok-draw.ensures.answer c.draw.auto.buffer c.draw.ensures.laid (omega arith) c.right.auto.polygon c.in_ok-right.ensures.right c.index-buffer-0.is in
    rw c.from.ensures (record { answer = p.0; laid = p.1; accurate = accurate-by g.S.K.Kind.width m c.args.t _ _ h p.0 })
