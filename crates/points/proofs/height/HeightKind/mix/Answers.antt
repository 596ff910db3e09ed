use Rattle.std.proofs.Common.{arith}
use Rattle.std.proofs.lemmas.Int.{to_z-of_z}
use Rattle.points.proofs.Mixes.{height-mixed}
use Rattle.points.proofs.height.HeightKind.mix.Goals as goal

pub returns : goal.returns
returns c = height-mixed c.args.w.num c.args.w.den c.args.p c.args.q _ c.args.w.weighs.0 (grind (arith, to_z-of_z))
