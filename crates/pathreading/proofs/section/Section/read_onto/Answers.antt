use Rattle.std.proofs.Common.{◌<◌, map, length, sym, ap, ◌∙◌, add-one, arith}
use Rattle.std.proofs.lemmas.List.{take_more_set, map_push}
use Rattle.pathformat.specs.Reading.{many, took}
use Rattle.pathreading.proofs.Many.{many_more, none-fails}
use Rattle.pathreading.proofs.section.Section.read_onto.Goals as goal

pub returns-in_err-place : goal.returns-in_err-place
returns-in_err-place g c =
    let s = c.args.self in
    let here = ap (λ n. g.I.Item.reads n c.loop-place.rest.rest.now) (sym c.loop-place.invariant.1) ∙ c.in_err-place.ensures in
    absurd (none-fails g.I.Item.reads s.items.total c.loop-place.place-index s.count s.items.rest.now _ _ _ _ (omega arith) c.in_ok-skip.ensures.0 c.loop-place.invariant.0 here)

pub loop-place-preserved : goal.loop-place-preserved
loop-place-preserved g c =
    let i = c.loop-place.place-index in
    let b = c.loop-place.place-items in
    let x = c.in_ok-place.field-0-0 in
    let s = c.args.self.items in
    let rd = g.I.Item.reads in
    let value = g.I.Item.value in
    let lt : i < length b = omega arith in
    let here = ap (λ n. rd n c.loop-place.rest.rest.now) (sym c.loop-place.invariant.1) ∙ c.in_ok-place.ensures.0 in
    let one = many_more rd s.total i s.rest.now _ _ _ _ c.loop-place.invariant.0 here in
    let front = ap (map value) (take_more_set b i x lt) ∙ map_push value _ x in (
      ap (λ m. many rd m s.total s.rest.now) (add-one i) ∙ one ∙ ap (λ ys. took ys c.in_ok-place.field-0-1.rest.now) (sym front),
      c.in_ok-place.ensures.1 ∙ c.loop-place.invariant.1,
    )
