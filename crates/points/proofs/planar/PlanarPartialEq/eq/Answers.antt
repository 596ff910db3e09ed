use Rattle.points.specs.Points.{planar}
use Rattle.points.proofs.Equal.{same-answer, planar-decides}
use Rattle.points.proofs.planar.PlanarPartialEq.eq.Goals as goal

pub returns-clause-eq : goal.returns-clause-eq
returns-clause-eq c = same-answer (planar c.args.self.now) (planar c.args.other.now) _ _ c.same.ensures (planar-decides c.args.self.now c.args.other.now)
