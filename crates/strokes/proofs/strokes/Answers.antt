use Rattle.std.proofs.Common.{arith}
use Rattle.std.proofs.lemmas.Grind.{common_steps}
use Rattle.strokes.proofs.strokes.Goals as goal

pub loop-i-preserved : goal.loop-i-preserved
loop-i-preserved c = record { each = λ k h v s. grind (arith, common_steps, c.loop-i.invariant.each k); rest = grind (arith, common_steps) }
