use Rattle.std.proofs.Common.{◌≡◌, ◌≢◌, sym, refl, ◌∙◌, arith, rules}
use Rattle.std.proofs.lemmas.Iterator.{cases_from_all, YieldsList-from_range}
use Rattle.points.proofs.Equal.{same-on}
use Rattle.points.proofs.kind.same.Goals as goal

pub returns : goal.returns
returns g c =
    let p = g.K.Kind.coord c.args.p.now in
    let q = g.K.Kind.coord c.args.q.now in
    let lacks = g.met.K.Kind.lacks in
    let n = c.axes.result in
    same-on p q n _ (λ a l. lacks _ a (omega arith) ∙ sym (lacks _ a (omega arith))) (cases_from_all _ _ _ (λ a. p a ≡ q a) (λ a. p a ≢ q a) c.all.ensures.ran (YieldsList-from_range 0 n _ refl (omega arith)) (λ a f k. search rules) (λ a f k. search rules))
