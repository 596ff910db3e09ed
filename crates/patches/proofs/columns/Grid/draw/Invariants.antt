use Rattle.std.proofs.Common.{◌≡◌, ℕ, ◌+◌, ◌<◌, map, get_or, drop}
use Rattle.points.specs.Points.{origin}
use Rattle.sources.specs.Points.{point_at}
use Rattle.patches.specs.Nets.{column}
use Rattle.patches.proofs.columns.Grid.draw.Given as goal

abbrev pub invariant-loop-j : goal.invariant-loop-j
invariant-loop-j g l =
    ((k : ℕ) → k < l.j → get_or (map g.K.Kind.coord l.buffer) k origin ≡ point_at l.s (column origin l.self.m l.self.n (map g.K.Kind.coord l.self.points.now) k))
    × (drop (l.self.n + 1 + l.self.m) l.buffer ≡ drop (l.self.n + 1 + l.self.m) l.initial.buffer)
