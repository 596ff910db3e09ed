use Rattle.std.proofs.Common.{◌-◌, length, arith}
use Rattle.std.proofs.lemmas.List.{length-map}
use Rattle.polygons.proofs.Levels.{right-next, right-all}
use Rattle.polygons.proofs.subdivision.right_part.Goals as goal

pub loop-n-preserved : goal.loop-n-preserved
loop-n-preserved g c = right-next _ _ _ _ (length c.loop-n.p - c.loop-n.n) _ (c.loop-n.n - 1) (omega arith) (simp length-map (omega arith)) c.loop-n.invariant c.mix_level.ensures.passes

pub returns : goal.returns
returns g c = right-all _ _ _ (length c.loop-n.p - c.loop-n.n) (simp length-map (omega arith)) (simp length-map (omega arith)) c.loop-n.invariant
