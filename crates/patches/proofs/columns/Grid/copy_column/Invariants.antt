use Rattle.std.proofs.Common.{◌≡◌, ℕ, ◌+◌, ◌*◌, ◌<◌, map, get_or, drop}
use Rattle.std.specs.Iterator.Adapters.{enumerate_source, enumerate_count}
use Rattle.std.specs.Slice.Iter.{chunks_exact_rest, chunks_exact_size}
use Rattle.points.specs.Points.{origin}
use Rattle.patches.specs.Nets.{place_of}
use Rattle.patches.proofs.columns.Grid.copy_column.Given as goal

abbrev pub invariant-loop-i : goal.invariant-loop-i
invariant-loop-i g l =
    record {
      can_next : (goal.iterator-loop-i g).can_next l.i-iterator;
      is_finite : (goal.iterator-loop-i g).is_finite l.i-iterator;
      size : chunks_exact_size (enumerate_source l.i-iterator) ≡ l.self.n + 1;
      rest : chunks_exact_rest (enumerate_source l.i-iterator) ≡ drop (enumerate_count l.i-iterator * (l.self.n + 1)) l.self.points.now;
      copied : (k : ℕ) → k < enumerate_count l.i-iterator → get_or (map g.K.Kind.coord l.room) k origin ≡ get_or (map g.K.Kind.coord l.self.points.now) (place_of l.self.m l.self.n k l.j) origin;
    }
