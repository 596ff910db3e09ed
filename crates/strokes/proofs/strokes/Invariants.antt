use Rattle.std.proofs.Common.{◌≡◌, ℕ, ◌<◌, length, get_or, drop}
use Rattle.points.specs.declared.planar.Planar.{Planar}
use Rattle.strokes.specs.declared.Stroke.{Stroke}
use Rattle.strokes.specs.Strokes.{StrokeTo}
use Rattle.strokes.proofs.strokes.Given as goal

abbrev pub invariant-loop-i : goal.invariant-loop-i
invariant-loop-i l = record {
  each : (k : ℕ) → k < l.i → (v : Planar) (s : Stroke) → StrokeTo k (get_or l.vertices k v) (get_or l.buffer k s);
  rest : drop (length l.vertices) l.buffer ≡ drop (length l.vertices) l.initial.buffer;
}
