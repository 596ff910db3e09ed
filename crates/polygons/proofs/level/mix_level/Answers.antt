use Rattle.std.proofs.Common.{◌+◌, ◌∙◌, arith}
use Rattle.std.proofs.lemmas.List.{drop-set-lt}
use Rattle.polygons.proofs.Writes.{read_is, pass-more}
use Rattle.polygons.proofs.level.mix_level.Goals as goal

pub loop-i-preserved : goal.loop-i-preserved
loop-i-preserved g c =
    let co = g.K.Kind.coord in
    let p = c.loop-i.p in
    let i = c.loop-i.i in
    let a = c.index-p-i in
    let b = c.index-p-i-in-loop-i in (
      pass-more co _ _ p i c.mix.result a.result b.result (omega arith) c.loop-i.invariant.0 (read_is co p i a.result (omega arith) a.is) (read_is co p (i + 1) b.result (omega arith) b.is) c.mix.ensures,
      drop-set-lt c.args.n p i c.mix.result c.loop-i-test.true ∙ c.loop-i.invariant.1,
    )
