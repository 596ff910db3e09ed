use Rattle.std.proofs.Common.{refl, ◌∙◌, rules, arith}
use Rattle.std.proofs.lemmas.Grind.{common_steps}
use Rattle.std.proofs.lemmas.Iterator.{cases_from_all, YieldsList-from_range}
use Rattle.samepath.specs.Same.{SameWorking}
use Rattle.samepath.proofs.Pairs.{AgreeAt, DifferAt, pairs-tried, pairs-uneven}
use Rattle.samepath.proofs.paths.same_workings.Goals as goal

pub returns-then-n-working_count : goal.returns-then-n-working_count
returns-then-n-working_count g c = λ f h ef eh.
    let n = c.working_count-n.result in
    pairs-tried SameWorking c.all.result f.workings h.workings n (c.working_count-n.ensures.said f ef) (c.if-n-working_count.true ∙ c.working_count.ensures.said h eh)
    (cases_from_all _ _ c.all.result (AgreeAt SameWorking f.workings h.workings) (DifferAt SameWorking f.workings h.workings) c.all.ensures.ran (YieldsList-from_range 0 n n refl (omega arith)) (λ i q k. (search rules, λ x y p r. grind (arith, common_steps, k))) (λ i q k x y p r e. grind (arith, common_steps, k)))

pub returns-else-n-working_count : goal.returns-else-n-working_count
returns-else-n-working_count g c = λ f h ef eh.
    pairs-uneven SameWorking f.workings h.workings c.working_count-n.result c.working_count.result (c.working_count-n.ensures.said f ef) (c.working_count.ensures.said h eh) c.if-n-working_count.false
