-- The chords of a flattened source against the exact curve.
use Rattle.std.specs.Prelude.{◌≡◌, ℕ, suc, ◌+◌, ◌-◌, ◌*◌, ◌^◌, ◌<◌, ◌≤◌, List, length, get_or, Ok, Err, Result, slice_index, slice_index_or}
use Rattle.exact.specs.Fractions.{Fraction, HalfApart}
use Rattle.exact.specs.Curve.{exact}
use Rattle.exact.specs.Workings.{carried}
use Rattle.exact.specs.Spans.{mark, ◌≼◌, evenly}
use Rattle.points.specs.declared.fault.Fault.{Fault}
use Rattle.points.specs.Points.{Point, origin}
use Rattle.workings.specs.declared.working.Working.{Working}
use Rattle.workings.specs.Workings.{steps}
use Rattle.sources.specs.Meaning.{Meaning, fails, holds, Held}
use Rattle.sources.specs.Piles.{piled}
use Rattle.sources.specs.Accuracy.{Drawing, along, Stands}

-- the allowance of a piece at depth k: what is held has one, and each halving charges the degree
abbrev pub piece_allowance : Held → ℕ → ℕ
piece_allowance h k = h.allowance + (length h.points - 1) * k

-- The chord between two neighbouring vertices of what is held, p at s/4,096 and p' at s'/4,096. It has a depth k, with s' − s = 4,096/2^k.
-- For every pile of workings over every bottom that makes up what is held, and every drawing that the bottom stands for, on every axis and at every fraction x
-- from s/4,096 to s'/4,096, both counted, the chord, evenly in the parameter, is off the exact curve at x carried back by at most the tolerance and half of the piece's allowance.
pub record Chord (width : ℕ) (tol : ℕ → ℕ) (h : Held) (s s' : ℕ) (p p' : Point) : Type 0 where
  pub depth : ℕ
  pub few : depth ≤ 12
  pub spans : s' ≡ s + 2 ^ (12 - depth)
  pub near : (bottom : Meaning) (ws : List Working) → holds h ≡ piled ws bottom → (D : Drawing) → Stands width bottom D → (a : ℕ) → a < width →
      (x : Fraction) → mark s ≼ x → x ≼ mark s' → HalfApart (2 * tol a + piece_allowance h depth) (evenly s (12 - depth) (p a) (p' a) x) (exact (along a D) (carried (steps ws) x))

-- The first `count` of the vertices vs and of the parameters ts: the parameters begin at 0, rise from each vertex to the next and end at 4,096, and each two neighbours have their chord.
pub record Chords (width : ℕ) (tol : ℕ → ℕ) (h : Held) (count : ℕ) (vs : List Point) (ts : List ℕ) : Type 0 where
  pub many : 2 ≤ count
  pub points : count ≤ length vs
  pub parameters : count ≤ length ts
  pub begins : get_or ts 0 0 ≡ 0
  pub ends : get_or ts (count - 1) 0 ≡ 4096
  pub rises : (i : ℕ) → suc i < count → slice_index ts i < slice_index ts (suc i)
  pub each : (i : ℕ) → suc i < count → Chord width tol h (slice_index ts i) (slice_index ts (suc i)) (slice_index_or vs i origin) (slice_index_or vs (suc i) origin)

-- the chord bound of an answer of flattening on a source that means m, with the vertices and the parameters that it leaves
abbrev pub ChordBound : ℕ → (ℕ → ℕ) → Meaning → Result ℕ Fault → List Point → List ℕ → Type 0
ChordBound width tol m (Err f) vs ts = Unit {0}
ChordBound width tol (fails f) (Ok count) vs ts = ⊥
ChordBound width tol (holds h) (Ok count) vs ts = Chords width tol h count vs ts
