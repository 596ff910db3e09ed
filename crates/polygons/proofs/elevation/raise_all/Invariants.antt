use Rattle.std.proofs.Common.{◌≤◌, map}
use Rattle.polygons.proofs.Raises.{FromTop, raising}
use Rattle.polygons.proofs.elevation.raise_all.Given as goal

abbrev pub invariant-loop-i : goal.invariant-loop-i
invariant-loop-i g l = (1 ≤ l.i) × (FromTop (raising l.d) (map g.K.Kind.coord l.initial.p) (map g.K.Kind.coord l.p) l.i l.d)
