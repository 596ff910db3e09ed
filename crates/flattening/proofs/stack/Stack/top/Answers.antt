use Rattle.std.proofs.Common.{◌-◌}
use Rattle.std.proofs.lemmas.Slice.{between_is}
use Rattle.flattening.proofs.stack.Stack.top.Goals as goal

pub returns : goal.returns
returns g c = between_is c.args.self.now.buffer.now (c.args.self.now.used - c.args.self.now.size) c.args.self.now.used
