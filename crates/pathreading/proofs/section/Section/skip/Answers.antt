use Rattle.std.proofs.Common.{sym, ap, ◌∙◌}
use Rattle.std.proofs.lemmas.Result.{err_from_is_err_and}
use Rattle.pathreading.proofs.Many.{many-fails, ends_more}
use Rattle.pathreading.proofs.section.Section.skip.Goals as goal

pub returns-in_err-rest : goal.returns-in_err-rest
returns-in_err-rest g c =
    let s = c.args.self in
    let p = err_from_is_err_and c.from_residual.result c.from_residual.ensures.1 in
    let here = ap (λ n. g.I.Item.reads n c.loop.rest.rest.now) (sym c.loop.invariant.1) ∙ c.in_err-rest.ensures in
    rw (p.1, p.2) (many-fails g.I.Item.reads s.items.total c.loop.counter s.count s.items.rest.now _ _ _ c.loop-test.true c.loop.invariant.0 here)

pub loop-preserved : goal.loop-preserved
loop-preserved g c =
    let s = c.args.self in
    let here = ap (λ n. g.I.Item.reads n c.loop.rest.rest.now) (sym c.loop.invariant.1) ∙ c.in_ok-rest.ensures.0 in
    (ends_more g.I.Item.reads s.items.total c.loop.counter s.items.rest.now _ _ _ c.loop.invariant.0 here, c.in_ok-rest.ensures.1 ∙ c.loop.invariant.1)
