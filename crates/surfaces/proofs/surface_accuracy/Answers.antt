use Rattle.surfaces.proofs.Bounds.{surface-accuracy}
use Rattle.surfaces.proofs.surface_accuracy.Goals as goal

pub returns : goal.returns
returns g c = surface-accuracy g.K.Kind.width
