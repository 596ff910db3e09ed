use Rattle.std.proofs.Common.{refl, ◌∙◌, rules}
use Rattle.flattening.specs.Flattening.{PastNeeded}
use Rattle.flattening.proofs.Flattening.{ran}
use Rattle.flattening.proofs.chords.draw_and_walk.Goals as goal

pub returns : goal.returns
returns g c =
    let m = g.S.Source.means c.args.source.now in
    let v = c.push.ensures in
    let w = c.walk.ensures in
    let r = ran g.S.K.Kind.coord g.S.K.Kind.width (λ _. c.args.tolerance) c.in_ok-size.field-0 c.args.buffer.now c.draw.new.buffer c.args.vertices.now c.push.new.self c.walk.new.vertices c.index-buffer-0.result _ c.walk.new.stack c.walk.result m (g.S.Source.sound c.args.source.now) c.requires.0 c.in_ok-size.ensures.answer c.draw.ensures.laid c.draw.auto.buffer c.index-buffer-0.is v.count v.points v.parameters refl refl refl w.walk in
    let f : PastNeeded m c.args.buffer.now c.walk.new.stack.buffer.now = r.past in
    record { answer = r.answer; past = search rules; vertices = r.vertices; same_points = w.same_points ∙ v.same_points; same_parameters = w.same_parameters ∙ v.same_parameters }
