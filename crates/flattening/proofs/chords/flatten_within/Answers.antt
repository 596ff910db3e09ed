use Rattle.std.proofs.Common.{refl, arith}
use Rattle.flattening.proofs.Flattening.{stackable, added_points, added_parameters, copied_points, copied_parameters}
use Rattle.flattening.proofs.chords.flatten_within.Goals as goal

pub returns-then-has_places-clause-points : goal.returns-then-has_places-clause-points
returns-then-has_places-clause-points g c =
    let w = c.in_ok-draw_and_walk.ensures.vertices in
    copied_points g.S.K.Kind.coord _ _ _ c.draw_and_walk.new.vertices _ refl w (omega (arith, w.count)) c.args.vertices.now c.copy_from.new.self (c.if-has_places.ensures.0 refl).0 c.copy_from.ensures.points

pub returns-then-has_places-clause-parameters : goal.returns-then-has_places-clause-parameters
returns-then-has_places-clause-parameters g c =
    let w = c.in_ok-draw_and_walk.ensures.vertices in
    copied_parameters g.S.K.Kind.coord _ _ _ c.draw_and_walk.new.vertices _ refl w (omega (arith, w.count)) c.args.vertices.now c.copy_from.new.self (c.if-has_places.ensures.0 refl).1 c.copy_from.ensures.parameters

pub draw_and_walk-requires-2 : goal.draw_and_walk-requires-2
draw_and_walk-requires-2 g c =
    stackable (g.S.Source.means c.args.source.now) c.args.survey _ c.draw_and_walk.new.buffer _ (g.S.Source.sound c.args.source.now) c.requires.0 (omega (arith, c.max-enough.ensures, c.draw_and_walk.auto.buffer, c.split_at_mut-stack.ensures.front_len)) c.requires.2

pub returns-clause-points : goal.returns-clause-points
returns-clause-points g c =
    let w = c.in_ok-draw_and_walk.ensures.vertices in
    added_points g.S.K.Kind.coord _ _ c.args.vertices.now c.draw_and_walk-2.new.vertices _ c.requires.2 c.in_ok-draw_and_walk-2.ensures.vertices (omega (arith, w.count)) (c.if-not-has_places.ensures.0 refl).0

pub returns-clause-parameters : goal.returns-clause-parameters
returns-clause-parameters g c =
    let w = c.in_ok-draw_and_walk.ensures.vertices in
    added_parameters g.S.K.Kind.coord _ _ c.args.vertices.now c.draw_and_walk-2.new.vertices _ c.requires.2 c.in_ok-draw_and_walk-2.ensures.vertices (omega (arith, w.count)) (c.if-not-has_places.ensures.0 refl).1
