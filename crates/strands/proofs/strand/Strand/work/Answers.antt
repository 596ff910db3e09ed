use Rattle.std.proofs.Common.{rules}
use Rattle.strands.specs.States.{state}
use Rattle.strands.specs.Histories.{accepted}
use Rattle.strands.proofs.Histories.{continues}
use Rattle.strands.proofs.strand.Strand.work.Goals as goal

pub returns-in_err-above-clause-continues : goal.returns-in_err-above-clause-continues
returns-in_err-above-clause-continues g c = continues g.K.Kind.coord c.args.working (state c.args.self.now c.args.buffer.now) (state c.args.self.now c.args.buffer.now) c.from_residual.result (search rules)

pub returns-in_err-apply-clause-continues : goal.returns-in_err-apply-clause-continues
returns-in_err-apply-clause-continues g c = continues g.K.Kind.coord c.args.working (state c.args.self.now c.args.buffer.now) _ c.from_residual-in_err-apply.result (search rules)

pub returns-clause-continues : goal.returns-clause-continues
returns-clause-continues g c m calls ws h = accepted c.args.working h (search rules)
