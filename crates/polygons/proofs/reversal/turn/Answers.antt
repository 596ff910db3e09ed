use Rattle.polygons.proofs.Puts.{puts-turn}
use Rattle.polygons.proofs.reversal.turn.Goals as goal

pub returns-clause-turned : goal.returns-clause-turned
returns-clause-turned g c = puts-turn g.K.Kind.coord c.args.polygon.now _ c.reverse.auto.self c.reverse.ensures.after
