-- The worked values, by computing them.
use Rattle.std.proofs.Common.{refl}
use Rattle.points.specs.Points.{mixed}
use Rattle.polygons.specs.Flatness.{off_by}
use Rattle.flattening.specs.Pieces.{left_half, right_half, pieces}
use Rattle.flattening.specs.Flat.{all_below, flat?}
use Rattle.flattening.specs.Values.{FlattenValues}

pub flatten-values : FlattenValues
unfolding mixed off_by left_half right_half pieces all_below flat?
flatten-values = record {
  bump_count = refl;
  bump_heights = refl;
  bump_parameters = refl;
  bump_bent = refl;
  bow_count = refl;
  bow_x = refl;
  bow_y = refl;
  bow_parameters = refl;
}
