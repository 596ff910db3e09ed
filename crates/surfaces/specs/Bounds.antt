-- Points and chords against exact surfaces.
use Rattle.std.specs.Prelude.{◌≡◌, ℕ, suc, ◌+◌, ◌-◌, ◌*◌, ◌^◌, ◌<◌, ◌≤◌, List, Ok, Err, Result, slice_index, slice_index_or}
use Rattle.exact.specs.Fractions.{Fraction, WithinHalf, HalfApart}
use Rattle.exact.specs.Workings.{carried}
use Rattle.exact.specs.Spans.{mark, ◌≼◌, evenly}
use Rattle.points.specs.declared.fault.Fault.{Fault}
use Rattle.points.specs.declared.parameter.Parameter.{Parameter}
use Rattle.points.specs.Points.{Point, origin}
use Rattle.workings.specs.declared.working.Working.{Working}
use Rattle.workings.specs.Workings.{steps}
use Rattle.sources.specs.Meaning.{holds, Held}
use Rattle.sources.specs.Piles.{piled}
use Rattle.sources.specs.Accuracy.{carried_back, AccurateFor}
use Rattle.flattening.specs.Chords.{piece_allowance, Chord}
use Rattle.patches.specs.Nets.{Net, cut_of}
use Rattle.patches.specs.Surfaces.{PatchDrawing, surface_at, Follows, value_of}

-- A point that is answered at t of the isoparametric curve at s: on every axis it is within half of its allowance of the surface at s and t, for every patch drawing that follows the patch.
abbrev pub OnSurface : ℕ → Net → Parameter → Parameter → Result (Point × ℕ) Fault → Type 0
OnSurface width P s t (Err f) = Unit {0}
OnSurface width P s t (Ok x) = (E : PatchDrawing) → Follows width P E → (a : ℕ) → a < width → WithinHalf x.1 (x.0 a) (surface_at P.m P.n E (value_of s) (value_of t) a)

-- The chord between two neighbouring vertices of the isoparametric curve at s, p at u/4,096 and p' at u'/4,096. It has a depth k, with u' − u = 4,096/2^k. For every patch drawing that
-- follows the patch, on every axis and at every fraction x from u/4,096 to u'/4,096, both counted, the chord, evenly in the parameter, is off the surface at s and x by at most the tolerance
-- and half of (e + m + n·k), where e is the patch's allowance.
pub record SurfaceChord (width : ℕ) (tol : ℕ → ℕ) (P : Net) (s : Parameter) (u u' : ℕ) (p p' : Point) : Type 0 where
  pub depth : ℕ
  pub few : depth ≤ 12
  pub spans : u' ≡ u + 2 ^ (12 - depth)
  pub near : (E : PatchDrawing) → Follows width P E → (a : ℕ) → a < width → (x : Fraction) → mark u ≼ x → x ≼ mark u' →
      HalfApart (2 * tol a + (P.allowance + P.m + P.n * depth)) (evenly u (12 - depth) (p a) (p' a) x) (surface_at P.m P.n E (value_of s) x a)

-- each two neighbours among the vertices vs, with the parameters ts, of an accepted flattening have such a chord
abbrev pub ChordsOnSurface : ℕ → (ℕ → ℕ) → Net → Parameter → Result ℕ Fault → List Point → List ℕ → Type 0
ChordsOnSurface width tol P s (Err f) vs ts = Unit {0}
ChordsOnSurface width tol P s (Ok count) vs ts = (i : ℕ) → suc i < count → SurfaceChord width tol P s (slice_index ts i) (slice_index ts (suc i)) (slice_index_or vs i origin) (slice_index_or vs (suc i) origin)

-- The same over a pile of workings ws above the cut at s: t goes to where the pile carries it back, and so does x, on a chord of depth k of what the pile holds.
abbrev pub NearSurface : ℕ → Net → Parameter → List Working → Parameter → Result (Point × ℕ) Fault → Type 0
NearSurface width P s ws t (Err f) = Unit {0}
NearSurface width P s ws t (Ok x) = (E : PatchDrawing) → Follows width P E → (a : ℕ) → a < width → WithinHalf x.1 (x.0 a) (surface_at P.m P.n E (value_of s) (carried_back ws t) a)

abbrev pub ChordNearSurface : ℕ → (ℕ → ℕ) → Net → Parameter → List Working → Held → ℕ → ℕ → Point → Point → ℕ → Type 0
ChordNearSurface width tol P s ws h u u' p p' k = (E : PatchDrawing) → Follows width P E → (a : ℕ) → a < width → (x : Fraction) → mark u ≼ x → x ≼ mark u' →
    HalfApart (2 * tol a + piece_allowance h k) (evenly u (12 - k) (p a) (p' a) x) (surface_at P.m P.n E (value_of s) (carried (steps ws) x) a)

pub record SurfaceAccuracy (width : ℕ) : Type 0 where
  -- every answer that is accurate for a pile over a cut, as those of the point call and of strands are, is near every surface that follows the patch
  pub points : (P : Net) (s : Parameter) (ws : List Working) (t : Parameter) (r : Result (Point × ℕ) Fault) → AccurateFor width (cut_of s P) ws t r → NearSurface width P s ws t r
  -- so is every chord of what a pile over a cut holds
  pub chords : (P : Net) (s : Parameter) (tol : ℕ → ℕ) (ws : List Working) (h : Held) → holds h ≡ piled ws (cut_of s P) → (u u' : ℕ) (p p' : Point) (c : Chord width tol h u u' p p') → ChordNearSurface width tol P s ws h u u' p p' c.depth
