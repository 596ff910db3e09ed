use Rattle.std.proofs.Common.{arith}
use Rattle.std.proofs.lemmas.Bool.{eqb-true}
use Rattle.samepath.proofs.Shifts.{far-zero, far-other}
use Rattle.samepath.proofs.numbers.is_shifted.Goals as goal

pub returns-then-a-eq0 : goal.returns-then-a-eq0
returns-then-a-eq0 c = far-zero c.args.a c.args.b c.args.d (omega arith) c.if-d-ge-BITS.true c.if-a-eq0.true

pub returns-else-a-eq0 : goal.returns-else-a-eq0
returns-else-a-eq0 c = far-other c.args.a c.args.b c.args.d _ (omega arith) c.if-d-ge-BITS.true c.if-a-eq0.false (eqb-true c.args.a 0)
