use Rattle.std.proofs.Common.{◌∙◌}
use Rattle.pathfiles.proofs.Says.{point-said}
use Rattle.pathfiles.proofs.opened.Opened.point.Goals as goal

pub returns-clause-said : goal.returns-clause-said
returns-clause-said g c = λ f e. c.item.ensures ∙ point-said g.K.Filed.kind c.args.self.now c.args.i f e
