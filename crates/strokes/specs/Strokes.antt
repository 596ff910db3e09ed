-- Strokes, and what the call that makes them answers and leaves.
use Rattle.std.specs.Prelude.{◌≡◌, ℕ, zero, suc, ◌<◌, true, false, cond, List, length, drop, ℤ, pos, negsuc, Ok, Err, Result, nat_lt, slice_index_or, Float}
use Rattle.std.specs.Float.Ieee.Exact.{HasValue}
use Rattle.points.specs.declared.fault.Fault.{Fault}
use Rattle.points.specs.declared.fault.Refusal.TheVariants.{Short}
use Rattle.points.specs.declared.planar.Planar.{Planar}
use Rattle.points.specs.Refusals.{refuse}
use Rattle.strokes.specs.declared.Stroke.{Stroke}
use Rattle.strokes.specs.declared.Stroke.TheVariants.{Start, Line}

-- the float y is finite, and exactly z/256
abbrev pub InMillimetres : ℤ → Float → Type 0
InMillimetres (pos n) y = HasValue y false n 256
InMillimetres (negsuc n) y = HasValue y true (suc n) 256

-- the stroke to a vertex with so many before it: the first is a start, the others are lines
abbrev pub StrokeTo : ℕ → Planar → Stroke → Type 0
StrokeTo zero v (Start x y) = InMillimetres v.x x × InMillimetres v.y y
StrokeTo zero v (Line x y) = ⊥
StrokeTo (suc i) v (Start x y) = ⊥
StrokeTo (suc i) v (Line x y) = InMillimetres v.x x × InMillimetres v.y y

-- the answer for so many vertices on a buffer of so many places
abbrev pub strokes_of : ℕ → ℕ → Result ℕ Fault
strokes_of vertices places = cond (nat_lt places vertices) (Err (refuse Short vertices)) (Ok vertices)

-- Every vertex has its stroke at its place, and the places past them stay. (What a list holds past its end, v and s, does not matter.)
pub record Strokes (vs : List Planar) (before after : List Stroke) : Type 0 where
  pub each : (i : ℕ) → i < length vs → (v : Planar) (s : Stroke) → StrokeTo i (slice_index_or vs i v) (slice_index_or after i s)
  pub rest : drop (length vs) after ≡ drop (length vs) before

-- an accepted call leaves the strokes, a refused one all as found
abbrev pub Stroked : List Planar → Result ℕ Fault → List Stroke → List Stroke → Type 0
Stroked vs (Ok n) before after = Strokes vs before after
Stroked vs (Err f) before after = after ≡ before
