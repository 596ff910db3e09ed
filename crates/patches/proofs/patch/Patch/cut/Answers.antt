use Rattle.patches.specs.Nets.{net_of}
use Rattle.patches.proofs.Stands.{cut_stands}
use Rattle.patches.proofs.patch.Patch.cut.Goals as goal

pub returns-clause-stands : goal.returns-clause-stands
returns-clause-stands g c = cut_stands g.K.Kind.width (net_of g.K.Kind.coord c.args.self.now) c.args.s
