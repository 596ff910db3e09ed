use Rattle.std.proofs.Common.{◌≡◌, map, drop}
use Rattle.points.specs.Points.{mix_point}
use Rattle.polygons.specs.Constructions.{Passed}
use Rattle.polygons.proofs.level.mix_level.Given as goal

abbrev pub invariant-loop-i : goal.invariant-loop-i
invariant-loop-i g l = (Passed (mix_point l.w.num l.w.den) (map g.K.Kind.coord l.initial.p) (map g.K.Kind.coord l.p) l.i) × (drop l.n l.p ≡ drop l.n l.initial.p)
