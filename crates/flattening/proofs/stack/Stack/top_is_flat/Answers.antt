use Rattle.std.proofs.Common.{not, Ok, sym, ap, ◌∙◌}
use Rattle.std.proofs.Math.Bool.{not-not}
use Rattle.flattening.proofs.Flats.{flat-when}
use Rattle.flattening.proofs.stack.Stack.top_is_flat.Goals as goal

pub returns : goal.returns
returns g c = let e = flat-when g.K.Kind.coord g.K.Kind.width g.met.K.Kind.lacks (λ _. c.args.tolerance) c.top.result.now _ c.in_ok-flat_test.ensures.1 in rw (← c.top.ensures) (ap Ok (sym (e ∙ ap not c.is_none.ensures ∙ not-not c.is_none.result)))
