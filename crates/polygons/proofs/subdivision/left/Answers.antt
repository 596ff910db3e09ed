use Rattle.std.proofs.Common.{◌≡◌, map, reverse, length, ap, ◌∙◌}
use Rattle.exact.specs.Polygon.{right}
use Rattle.points.specs.Points.{mix_point}
use Rattle.polygons.proofs.Puts.{puts-left}
use Rattle.polygons.proofs.subdivision.left.Goals as goal

pub returns-clause-left : goal.returns-clause-left
returns-clause-left g c =
    let co = g.K.Kind.coord in
    let t = c.in_ok-w.ensures in
    let w = c.in_ok-w.w in
    let v = c.complement.result in
    let back : map co c.right_part.new.p ≡ right (mix_point v.num v.den) (map co (reverse c.args.polygon.now)) = c.right_part.ensures ∙ ap (λ xs. right (mix_point v.num v.den) (map co xs)) c.reverse.ensures.after in
    let long : length c.reverse-2.new.self ≡ length c.args.polygon.now = c.reverse-2.auto.self ∙ c.right_part.auto.p ∙ c.reverse.auto.self in
    puts-left co c.args.t w.num w.den v.num v.den c.args.polygon.now c.right_part.new.p c.reverse-2.new.self w.weighs.2 t.0 t.1 c.complement.ensures.0 c.complement.ensures.1 long back c.reverse-2.ensures.after
