use Rattle.std.proofs.Common.{◌-◌, arith}
use Rattle.samepath.proofs.Shifts.{shifted, turned}
use Rattle.samepath.proofs.numbers.same_number.Goals as goal

pub returns-then-s-t : goal.returns-then-s-t
returns-then-s-t c = shifted c.args.s.a c.args.t.a c.args.t.k (c.args.s.k - c.args.t.k) c.args.s.k c.is_shifted.result (omega arith) c.is_shifted.ensures

pub returns-else-s-t : goal.returns-else-s-t
returns-else-s-t c = turned c.is_shifted-else-s-t.result (shifted c.args.t.a c.args.s.a c.args.s.k (c.args.t.k - c.args.s.k) c.args.t.k c.is_shifted-else-s-t.result (omega arith) c.is_shifted-else-s-t.ensures)
