use Rattle.std.proofs.Common.{◌≡◌, refl, ◌∙◌, rules, arith}
use Rattle.std.proofs.lemmas.Grind.{common_steps}
use Rattle.std.proofs.lemmas.Iterator.{cases_from_all, YieldsList-from_range}
use Rattle.pathformat.proofs.Axes.{listed_same}
use Rattle.samepath.proofs.Pairs.{AgreeAt, DifferAt, pairs-tried, pairs-uneven}
use Rattle.samepath.proofs.paths.same_points.Goals as goal

pub returns-then-n-point_count : goal.returns-then-n-point_count
returns-then-n-point_count g c = λ f h ef eh.
    let n = c.point_count-n.result in
    pairs-tried (λ x y. x ≡ y) c.all.result f.points h.points n (c.point_count-n.ensures.said f ef) (c.if-n-point_count.true ∙ c.point_count.ensures.said h eh)
    (cases_from_all _ _ c.all.result (AgreeAt (λ x y. x ≡ y) f.points h.points) (DifferAt (λ x y. x ≡ y) f.points h.points) c.all.ensures.ran (YieldsList-from_range 0 n n refl (omega arith)) (λ i q k. (search rules, λ x y p r. search rules)) (λ i q k x y p r e. let same = listed_same g.K.Kind.width g.K.Kind.coord g.met.K.Kind.lacks in grind (arith, common_steps, k, same)))

pub returns-else-n-point_count : goal.returns-else-n-point_count
returns-else-n-point_count g c = λ f h ef eh.
    pairs-uneven (λ x y. x ≡ y) f.points h.points c.point_count-n.result c.point_count.result (c.point_count-n.ensures.said f ef) (c.point_count.ensures.said h eh) c.if-n-point_count.false
