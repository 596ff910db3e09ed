use Rattle.std.proofs.Common.{◌≡◌, ℕ, ◌+◌, ◌-◌, map, length, drop, ◌∙◌, arith}
use Rattle.std.proofs.lemmas.List.{length-take-le, length-drop}
use Rattle.std.proofs.lemmas.Slice.{drop-put_mid}
use Rattle.points.specs.Points.{origin}
use Rattle.sources.specs.Points.{point_at}
use Rattle.patches.specs.Nets.{column}
use Rattle.patches.proofs.Laying.{laid_more, cut_all}
use Rattle.patches.proofs.columns.Grid.draw.Goals as goal

pub loop-j-preserved : goal.loop-j-preserved
loop-j-preserved g c =
    let co = g.K.Kind.coord in
    let p = c.args.self.now in
    let j : ℕ = c.loop-j.j in
    let k : ℕ = j + p.m + 1 - j in
    let xs = c.loop-j.buffer in
    let ys = c.column_point.new.room in
    let long : length ys ≡ k = c.column_point.auto.room ∙ length-take-le k (drop j xs) (omega (arith, length-drop j xs)) in (
      laid_more co (λ i. point_at c.args.s (column origin p.m p.n (map co p.points.now) i)) j k xs ys long (omega arith) (omega arith) c.loop-j.invariant.0 c.column_point.ensures,
      drop-put_mid j k xs ys (p.n + 1 + p.m) (omega arith) (omega arith) long ∙ c.loop-j.invariant.1,
    )

pub returns-clause-cut : goal.returns-clause-cut
returns-clause-cut g c =
    let p = c.args.self.now in
    cut_all g.K.Kind.coord c.args.s p.m p.n (map g.K.Kind.coord p.points.now) c.loop-j.buffer (omega arith) (λ i l. c.loop-j.invariant.0 i (omega arith))
