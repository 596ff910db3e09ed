use Rattle.std.proofs.Common.{◌≤◌}
use Rattle.strands.specs.States.{state}
use Rattle.jobs.proofs.Runs.{Done}
use Rattle.jobs.proofs.job.run.Given as goal

abbrev pub invariant-loop-done : goal.invariant-loop-done
invariant-loop-done g l = Done g.S.K.Kind.coord (g.S.Source.means l.source) l.workings l.done l.initial.buffer (state l.strand l.buffer) × (l.initial.strand.degree ≤ l.strand.degree)
