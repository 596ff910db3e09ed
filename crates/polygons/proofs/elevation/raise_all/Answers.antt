use Rattle.std.proofs.Common.{◌≡◌, ◌-◌, length, ◌∙◌, arith}
use Rattle.std.proofs.lemmas.List.{length-map, length-set}
use Rattle.polygons.proofs.Writes.{read_is}
use Rattle.polygons.proofs.Raises.{raising, top-more, raised_all}
use Rattle.polygons.proofs.elevation.raise_all.Goals as goal

pub loop-i-preserved : goal.loop-i-preserved
loop-i-preserved g c =
    let co = g.K.Kind.coord in
    let p = c.loop-i.p in
    let i = c.loop-i.i in
    let d = length c.args.p.now - 1 in
    let long : length p ≡ length c.args.p.now = c.loop-i.auto.p ∙ length-set _ _ _ in
    let b = c.index-p-i in
    let a = c.index-p-i-in-loop-i in
    (omega arith, top-more co (raising d) d _ p (i - 1) c.raised_point.result a.result b.result i (omega arith) (omega arith) (omega arith) c.loop-i.invariant.1 (read_is co p (i - 1 - 1) a.result (omega arith) a.is) (read_is co p (i - 1) b.result (omega arith) b.is) c.raised_point.ensures)

pub returns : goal.returns
returns g c =
    let n = c.args.p.now in
    let long : length c.loop-i.p ≡ length n = c.loop-i.auto.p ∙ length-set _ _ _ in
    raised_all g.K.Kind.coord n c.index-p-d.result (length n - 1) c.loop-i.i _ (omega arith) (omega arith) (simp length-map (omega arith)) c.index-p-d.is (omega arith) c.loop-i.invariant.1
