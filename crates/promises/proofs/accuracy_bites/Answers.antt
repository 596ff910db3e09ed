use Rattle.promises.proofs.Bites.{bites}
use Rattle.promises.proofs.accuracy_bites.Goals as goal

pub returns : goal.returns
returns c = bites
