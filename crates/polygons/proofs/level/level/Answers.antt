use Rattle.std.proofs.Common.{◌-◌, length, arith}
use Rattle.polygons.proofs.Puts.{puts_level}
use Rattle.polygons.proofs.level.level.Goals as goal

pub returns-clause-level : goal.returns-clause-level
returns-clause-level g c =
    let t = c.in_ok-w.ensures in
    let w = c.in_ok-w.w in
    let xs = c.args.polygon.now in
    puts_level g.K.Kind.coord c.args.t w.num w.den xs c.mix_level.new.p (length xs - 1) t.0 t.1 (omega arith) c.mix_level.auto.p c.mix_level.ensures.passes c.mix_level.ensures.rest
