use Rattle.surfaces.proofs.Refutations.{surface-refutations}
use Rattle.surfaces.proofs.surface_refutations.Goals as goal

pub returns : goal.returns
returns c = surface-refutations
