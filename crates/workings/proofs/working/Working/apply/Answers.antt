use Rattle.std.proofs.Common.{refl, arith}
use Rattle.workings.specs.declared.working.Working.TheVariants.{Left, Right}
use Rattle.workings.proofs.Shapes.{worked-part}
use Rattle.workings.proofs.working.Working.apply.Goals as goal

pub returns-in-Left-clause-worked : goal.returns-in-Left-clause-worked
returns-in-Left-clause-worked g c = worked-part g.K.Kind.coord c.args.self (Left c.in-Left.t) c.args.degree _ _ _ _ c.in-Left.is refl c.in_ok-after.ensures (omega (arith, c.in_ok-test_places.ensures.fits)) c.left.auto.polygon c.left.ensures.left

pub returns-in-Right-clause-worked : goal.returns-in-Right-clause-worked
returns-in-Right-clause-worked g c = worked-part g.K.Kind.coord c.args.self (Right c.in-Right.t) c.args.degree _ _ _ _ c.in-Right.is refl c.in_ok-after.ensures (omega (arith, c.in_ok-test_places.ensures.fits)) c.right.auto.polygon c.right.ensures.right
