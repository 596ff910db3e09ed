-- What the steps write.
use Rattle.std.proofs.Common.{◌≡◌, ℕ, List, ◌++◌, length, ap, ◌∙◌}
use Rattle.std.specs.List.{flat_map}
use Rattle.std.proofs.lemmas.List.{length-map}
use Rattle.std.proofs.lemmas.List.Folds.{flat_map-map}
use Rattle.points.specs.Points.{Point}
use Rattle.pathformat.specs.declared.kind.FileKind.{FileKind}
use Rattle.pathformat.specs.Writing.{bytes2, bytes_each}
use Rattle.pathformat.specs.File.{listed, point_bytes}
use Rattle.pathwriting.specs.Steps.{axis_values, bytes_of_point, bytes_of_points}

-- the bytes of points are those of each point after their count
pub bytes_of_points-each : {X : Type 0} (k : FileKind) (width : ℕ) (coord : X → Point) (ps : List X) → bytes_of_points k width coord ps ≡ bytes_each (bytes_of_point k width coord) ps
bytes_of_points-each k width coord ps = ap (λ n. bytes2 n ++ flat_map (point_bytes k) (axis_values width coord ps)) (length-map ps (λ p. listed width (coord p))) ∙ ap (λ t. bytes2 (length ps) ++ t) (flat_map-map (point_bytes k) (λ p. listed width (coord p)) ps)
