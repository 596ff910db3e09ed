use Rattle.std.proofs.Common.{rules, length}
use Rattle.std.proofs.lemmas.List.{length-map}
use Rattle.patches.specs.Nets.{net_of}
use Rattle.patches.proofs.Cuts.{surveyed}
use Rattle.patches.proofs.cut.CutSource.survey.Goals as goal

pub returns : goal.returns
returns g c =
    let p = c.args.self.now.patch in
    surveyed c.args.self.now.at (net_of g.K.Kind.coord p) _ (length p.points.now) (length-map _ _) (search rules)
