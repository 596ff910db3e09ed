use Rattle.std.proofs.Common.{◌-◌, map}
use Rattle.points.specs.Points.{mix_point}
use Rattle.polygons.proofs.Splits.{BothDone}
use Rattle.polygons.proofs.subdivision.both_parts.Given as goal

abbrev pub invariant-loop-n : goal.invariant-loop-n
invariant-loop-n g l = BothDone (mix_point l.w.num l.w.den) (map g.K.Kind.coord l.initial.polygon) (map g.K.Kind.coord l.polygon) (map g.K.Kind.coord l.left) (l.len - l.n)
