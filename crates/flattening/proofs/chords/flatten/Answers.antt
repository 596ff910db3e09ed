use Rattle.std.proofs.Common.{map, rules}
use Rattle.flattening.specs.Chords.{ChordBound}
use Rattle.flattening.proofs.Flattening.{chorded}
use Rattle.flattening.proofs.chords.flatten.Goals as goal

pub returns-clause-chords : goal.returns-clause-chords
returns-clause-chords g c =
    let m = g.S.Source.means c.args.source.now in
    let r = c.flatten_within in
    let w = r.new.vertices in
    let chords : ChordBound g.S.K.Kind.width (λ _. c.args.tolerance) m r.result (map g.S.K.Kind.coord w.points.now) w.parameters.now = chorded g.S.K.Kind.coord g.S.K.Kind.width (λ _. c.args.tolerance) c.args.points.now w.points.now c.args.parameters.now w.parameters.now m r.result (g.S.Source.sound c.args.source.now) r.ensures.answer r.ensures.points r.ensures.parameters in
    search rules
