use Rattle.pathfiles.proofs.Says.{working-count-said}
use Rattle.pathfiles.proofs.opened.Opened.working_count.Goals as goal

pub returns-clause-said : goal.returns-clause-said
returns-clause-said g c = working-count-said g.K.Filed.kind c.args.self.now
