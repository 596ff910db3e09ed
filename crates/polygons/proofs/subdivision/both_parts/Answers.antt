use Rattle.std.proofs.Common.{◌-◌, length, arith}
use Rattle.std.proofs.lemmas.List.{length-map, length-set}
use Rattle.polygons.proofs.Levels.{right-all}
use Rattle.polygons.proofs.Splits.{both-none, both-next, both-left}
use Rattle.polygons.proofs.subdivision.both_parts.Goals as goal

pub loop-n-init : goal.loop-n-init
loop-n-init g c = both-none g.K.Kind.coord _ c.args.polygon.now c.args.left.now c.index-polygon-0.result _ (omega arith) (omega arith) (omega arith) c.index-polygon-0.is

pub loop-n-preserved : goal.loop-n-preserved
loop-n-preserved g c =
    let n = length c.args.polygon.now in
    let set_long = length-set c.args.left.now 0 c.index-polygon-0.result in
    both-next g.K.Kind.coord _ _ _ c.mix_level.new.p _ _ (n - c.loop-n.n) _ (c.loop-n.n - 1) (omega arith) (simp length-map (omega arith)) (simp length-map (omega arith)) (simp length-map (omega arith)) (omega arith) c.loop-n.invariant c.mix_level.ensures.passes c.index-polygon-0-in-loop-n.is

pub returns-clause-right : goal.returns-clause-right
returns-clause-right g c = right-all _ _ _ (length c.args.polygon.now - c.loop-n.n) (simp length-map (omega arith)) (simp length-map (omega arith)) c.loop-n.invariant.done

pub returns-clause-left : goal.returns-clause-left
returns-clause-left g c =
    let set_long = length-set c.args.left.now 0 c.index-polygon-0.result in
    both-left _ _ _ _ (length c.args.polygon.now - c.loop-n.n) (simp length-map (omega arith)) (simp length-map (omega arith)) c.loop-n.invariant
