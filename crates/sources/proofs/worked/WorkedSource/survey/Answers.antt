use Rattle.std.proofs.Common.{ap, ◌∙◌}
use Rattle.sources.specs.Piles.{climbing}
use Rattle.sources.proofs.Draws.{survey-work}
use Rattle.sources.proofs.worked.WorkedSource.survey.Goals as goal

pub returns : goal.returns
returns g c = c.after.ensures ∙ survey-work c.args.self.now.working (g.S.Source.means c.args.self.now.below) c.in_ok-s.s (g.S.Source.sound c.args.self.now.below) (c.in_ok-s.ensures ∙ ap climbing c.survey.ensures)
