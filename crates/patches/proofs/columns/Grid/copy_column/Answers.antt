use Rattle.std.proofs.Common.{ℕ, ◌∙◌, arith, rules}
use Rattle.std.specs.Iterator.Adapters.{enumerate_count}
use Rattle.patches.proofs.Laying.{rows-all, row_copied, copied_all}
use Rattle.patches.proofs.columns.Grid.copy_column.Goals as goal

pub loop-i-preserved : goal.loop-i-preserved
loop-i-preserved g c =
    let p = c.args.self.now in
    let came = c.in-Some.ensures.steps in
    let inv = c.loop-i.invariant in
    let v = row_copied g.K.Kind.coord p.m p.n c.args.j _ p.points.now c.loop-i.room _ c.in-Some.row.now _ c.index-row-j.result p.gridded c.requires.column_in (omega arith) inv.rest came.0.1.0 (came.0.1.1 ∙ inv.size) c.index-row-j.is inv.copied in
    record { can_next = search rules; is_finite = search rules; size = cc; rest = rw came.2 v.0; copied = rw (came.1, came.2) v.1 }

pub returns : goal.returns
returns g c =
    let p = c.args.self.now in
    let i : ℕ = enumerate_count c.loop-i.i-iterator in
    let all = rows-all p.m p.n i p.points.now p.gridded (rw (← c.loop-i.invariant.rest) (omega (arith, c.in-None.ensures.steps))) in
    copied_all g.K.Kind.coord p.m p.n c.args.j p.points.now c.loop-i.room (omega arith) (λ k h. c.loop-i.invariant.copied k (omega arith))
