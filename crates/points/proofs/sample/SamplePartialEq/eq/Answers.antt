use Rattle.points.specs.Points.{sample}
use Rattle.points.proofs.Equal.{same-answer, sample-decides}
use Rattle.points.proofs.sample.SamplePartialEq.eq.Goals as goal

pub returns-clause-eq : goal.returns-clause-eq
returns-clause-eq c = same-answer (sample c.args.self.now) (sample c.args.other.now) _ _ c.same.ensures (sample-decides c.args.self.now c.args.other.now)
