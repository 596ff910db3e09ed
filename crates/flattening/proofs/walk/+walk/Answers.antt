use Rattle.std.proofs.Common.{Err, ap, ◌∙◌, arith}
use Rattle.std.proofs.lemmas.Result.{err_from_is_err_and}
use Rattle.flattening.proofs.Walks.{walk_kept, walk-bent, walk-broken, walk-joined, ready₂, tested}
use Rattle.flattening.proofs.walk.+walk.Goals as goal

pub returns-then-branch-clause-walk : goal.returns-then-branch-clause-walk
returns-then-branch-clause-walk g t c =
    walk_kept _ _ c.args.halvings c.args.start c.args.stack.now c.args.vertices.now c.pop.new.self c.pop.result c.span.result c.push.new.self (tested c.in_ok-top_is_flat.ensures c.if-branch.true) c.pop.ensures.popped c.pop.ensures.last c.span.ensures c.push.ensures.count c.push.ensures.points c.push.ensures.parameters

pub returns-then-halvings-eq0-clause-walk : goal.returns-then-halvings-eq0-clause-walk
returns-then-halvings-eq0-clause-walk g t c = rw (c.new.ensures, c.from.ensures) (walk-bent _ _ _ _ _ _ (tested c.in_ok-top_is_flat.ensures c.if-branch.false) c.if-halvings-eq0.true)

pub returns-in_err-walk-clause-walk : goal.returns-in_err-walk-clause-walk
returns-in_err-walk-clause-walk g t c =
    walk-broken _ _ _ _ _ _ _ c.requires (omega arith) (tested c.in_ok-top_is_flat.ensures c.if-branch.false) c.halve.ensures.halved _ _ _ c.walk.ensures.walk c.in_err-walk.field-0.0 c.in_err-walk.was _ (let p = err_from_is_err_and c.from_residual-in_err-walk.result c.from_residual-in_err-walk.ensures.1 in p.1 ∙ ap Err p.2)

pub walk-requires-2 : goal.walk-requires-2
walk-requires-2 g t c κs within =
    (omega arith, (within, ready₂ _ _ _ _ _ _ _ c.requires (omega arith) (tested c.in_ok-top_is_flat.ensures c.if-branch.false) c.halve.ensures.halved _ _ _ c.walk.ensures.walk c.in_ok-walk.field-0 c.in_ok-walk.was c.span-2.result c.span-2.ensures))

pub returns-clause-walk : goal.returns-clause-walk
returns-clause-walk g t c =
    walk-joined _ _ _ _ _ _ _ c.requires (omega arith) (tested c.in_ok-top_is_flat.ensures c.if-branch.false) c.halve.ensures.halved _ _ _ c.walk.ensures.walk c.in_ok-walk.field-0 c.in_ok-walk.was c.span-2.result c.span-2.ensures _ _ _ c.walk-2.ensures.walk
