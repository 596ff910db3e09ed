use Rattle.std.proofs.Common.{◌≡◌, false, map, refl, subst, arith, below_more}
use Rattle.polygons.specs.Flatness.{off_at}
use Rattle.polygons.proofs.Offs.{off-none, first_on, flat-all}
use Rattle.polygons.proofs.flatness.first_off.Goals as goal

pub points-init : goal.points-init
points-init g c = (refl, λ j h b. subst (λ k. off_at (map g.K.Kind.coord c.args.p.now) (λ _. c.args.q) k b ≡ false) (let z : 0 ≡ j = omega arith in z) (first_on (map g.K.Kind.coord c.args.p.now) (λ _. c.args.q) b))

pub points-preserved : goal.points-preserved
points-preserved g c =
    (c.loop-a.invariant.0, below_more _ _ c.points.invariant.1 (off-none g.K.Kind.coord g.K.Kind.width g.met.K.Kind.lacks c.args.p.now (λ _. c.args.q) c.points.i (λ b h. c.loop-a.invariant.1 b (omega arith))))

pub returns-after-points : goal.returns-after-points
returns-after-points g c = flat-all g.K.Kind.coord c.args.p.now (λ _. c.args.q) c.points.i _ c.points.invariant.0 c.points-test.false c.points.invariant.1
