use Rattle.points.specs.Points.{height}
use Rattle.points.proofs.Equal.{same-answer, height-decides}
use Rattle.points.proofs.height.HeightPartialEq.eq.Goals as goal

pub returns-clause-eq : goal.returns-clause-eq
returns-clause-eq c = same-answer (height c.args.self.now) (height c.args.other.now) _ _ c.same.ensures (height-decides c.args.self.now c.args.other.now)
