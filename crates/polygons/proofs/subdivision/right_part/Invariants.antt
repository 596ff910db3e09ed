use Rattle.std.proofs.Common.{◌-◌, map, length}
use Rattle.points.specs.Points.{mix_point}
use Rattle.polygons.proofs.Levels.{RightDone}
use Rattle.polygons.proofs.subdivision.right_part.Given as goal

abbrev pub invariant-loop-n : goal.invariant-loop-n
invariant-loop-n g l = RightDone (mix_point l.w.num l.w.den) (map g.K.Kind.coord l.initial.p) (map g.K.Kind.coord l.p) (length l.p - l.n)
