use Rattle.pathfiles.proofs.Says.{point-count-said}
use Rattle.pathfiles.proofs.opened.Opened.point_count.Goals as goal

pub returns-clause-said : goal.returns-clause-said
returns-clause-said g c = point-count-said g.K.Filed.kind c.args.self.now
