use Rattle.std.proofs.Common.{refl}
use Rattle.points.specs.Points.{mixed}
use Rattle.flattening.proofs.Values.{flatten-values}
use Rattle.promises.proofs.worked_values.Goals as goal

pub returns : goal.returns
unfolding mixed
returns c = record { flattened = flatten-values; up = refl; not_away = refl; ends = refl; point = refl; raise = refl }
