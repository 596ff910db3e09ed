use Rattle.pathfiles.proofs.Says.{both_read}
use Rattle.pathfiles.proofs.opened.Opened.check.Goals as goal

pub returns : goal.returns
returns g c = record { file = _; said = both_read g.K.Filed.kind c.args.self.now _ _ c.in_ok-skip.ensures.0 c.in_ok-skip-2.ensures.0 }
