use Rattle.std.proofs.Common.{◌≡◌, ◌-◌, ◌*◌, nat_lt, length, sym, arith}
use Rattle.std.proofs.lemmas.Int.{ints, to_z-of_z}
use Rattle.polygons.specs.Flatness.{off_by}
use Rattle.polygons.proofs.Offs.{off-here}
use Rattle.polygons.proofs.flatness.is_off.Goals as goal

pub overflow_sub-scaled : goal.overflow_sub-scaled
overflow_sub-scaled g c = omega (arith, ints)

pub returns : goal.returns
unfolding off_by
returns g c =
    let n = length c.args.p.now - 1 in
    let e : nat_lt (n * c.from.result) c.unsigned_abs-gap.result ≡ off_by n c.args.i c.args.q c.axis.result c.axis-3.result c.axis-2.result = grind (arith, ints, to_z-of_z) in
    sym (off-here g.K.Kind.coord c.args.p.now (λ _. c.args.q) c.args.i c.args.a c.index-p-0.result c.index-p-i.result c.index-p-n.result _ _ _ _ c.requires.0 c.index-p-0.is c.index-p-i.is c.index-p-n.is c.axis.ensures c.axis-3.ensures c.axis-2.ensures e)
