use Rattle.std.proofs.Common.{◌≤◌, length, arith}
use Rattle.pathfiles.proofs.Means.{points-fit, points-drawn}
use Rattle.pathfiles.proofs.source.OpenedSource.draw.Goals as goal

pub returns-in_err-points : goal.returns-in_err-points
returns-in_err-points g c =
    let room : c.in_ok-survey.field-0.reach ≤ length c.args.buffer.now = grind (arith, c.in_ok-s.ensures) in
    absurd (points-fit g.K.Filed.kind c.args.self.now c.in_ok-survey.field-0 c.in_ok-survey.ensures _ _ room c.in_err-points.ensures.answer)

pub returns-clause-laid : goal.returns-clause-laid
returns-clause-laid g c =
    (points-drawn g.K.Filed.kind c.args.self.now c.in_ok-survey.field-0 c.in_ok-survey.ensures g.K.Kind.width g.K.Kind.coord g.met.K.Kind.lacks c.args.buffer.now c.points.new.buffer c.in_ok-points.field-0 c.in_ok-points.ensures.answer c.in_ok-points.ensures.buffer).1
