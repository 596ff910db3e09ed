use Rattle.std.proofs.Common.{◌-◌, map, ap, ◌∙◌, arith}
use Rattle.std.proofs.lemmas.List.{length-take-le}
use Rattle.exact.specs.Polygon.{left, right}
use Rattle.points.specs.Points.{mix_point}
use Rattle.polygons.proofs.Splits.{puts-both}
use Rattle.polygons.proofs.subdivision.split.Goals as goal

pub returns-clause-split : goal.returns-clause-split
returns-clause-split g c =
    let co = g.K.Kind.coord in
    let t = c.in_ok-w.ensures in
    let w = c.in_ok-w.w in
    let n = c.args.points in
    let f = mix_point w.num w.den in
    let cut = c.split_at_mut-polygon.ensures in
    let rest = c.split_at_mut-polygon.result.1.now in
    puts-both co c.args.t w.num w.den n _ c.args.buffer.now rest c.both_parts.new.polygon c.both_parts.new.left t.0 t.1
    (c.both_parts.auto.polygon ∙ cut.front_len) (c.both_parts.auto.left ∙ length-take-le (n - 0) rest (omega (arith, c.in_ok-test_places.ensures.fits)) ∙ omega arith) (omega (arith, c.in_ok-test_places.ensures.fits)) cut.back
    (c.both_parts.ensures.right ∙ ap (λ xs. right f (map co xs)) cut.front) (c.both_parts.ensures.left ∙ ap (λ xs. left f (map co xs)) cut.front)
