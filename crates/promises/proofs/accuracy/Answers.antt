use Rattle.promises.proofs.Whole.{accuracy}
use Rattle.promises.proofs.accuracy.Goals as goal

pub returns : goal.returns
returns g c = accuracy g.K.Kind.coord g.K.Kind.width
