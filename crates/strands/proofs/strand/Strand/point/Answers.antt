use Rattle.std.proofs.Common.{◌+◌, arith}
use Rattle.strands.specs.States.{state}
use Rattle.strands.proofs.Steps.{point-work}
use Rattle.strands.proofs.Histories.{accurate-after}
use Rattle.strands.proofs.strand.Strand.point.Goals as goal

pub returns : goal.returns
returns g c =
    let s = state c.args.self.now c.args.buffer.now in
    let p = point-work g.K.Kind.coord c.args.t s (c.args.self.now.degree + 1) c.args.second.now c.copy_from_slice.new.self c.right.new.polygon c.index-second-0.result c.in_ok-weight.ensures.2 (omega (arith, c.in_ok-test_places.ensures.fits, c.min.ensures)) (omega (arith, c.in_ok-test_places.ensures.fits, c.min.ensures)) (omega (arith, c.in_ok-test_places.ensures.fits, c.min.ensures)) c.copy_from_slice.ensures.after c.right.auto.polygon c.in_ok-right.ensures.right c.index-second-0.is in
    rw c.from.ensures (record { answer = p.0; second = p.1; accurate = accurate-after g.K.Kind.coord g.K.Kind.width s c.args.t _ _ p.0 })
