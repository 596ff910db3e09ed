use Rattle.exact.proofs.Pile.{accurate, enclosed}
use Rattle.exact.proofs.laws.Goals as goal

pub returns : goal.returns
returns c = record { accurate = accurate; enclosed = enclosed }
