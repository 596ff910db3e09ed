use Rattle.std.proofs.Common.{sym, ap, ◌∙◌, arith, rules}
use Rattle.sources.specs.Piles.{climbing}
use Rattle.sources.proofs.Draws.{draw-work}
use Rattle.sources.proofs.worked.WorkedSource.draw.Goals as goal

pub returns : goal.returns
returns g c =
    let below = c.args.self.now.below in
    let d = draw-work g.S.K.Kind.coord c.args.self.now.working (g.S.Source.means below) c.in_ok-s.s c.in_ok-t.t c.args.buffer.now _ c.apply.new.buffer (g.S.Source.sound below) (c.in_ok-s.ensures ∙ ap climbing c.survey.ensures) (sym c.in_ok-t.ensures) (grind (arith, c.in_ok-fitting.ensures)) c.in_ok-apply.ensures.worked (search rules) in
    record { answer = d.0; laid = d.1 }
