-- What is true of every drawing that a cut stands for is true of every surface that follows the patch.
use Rattle.std.proofs.Common.{◌≡◌, ℕ, ◌+◌, ◌-◌, ◌*◌, ◌<◌, List, [], length, Ok, Err, Result, sym, refl, ap, ap₂, ◌∙◌, subst, subst₂, arith}
use Rattle.exact.specs.Fractions.{Fraction, WithinHalf, HalfApart}
use Rattle.exact.specs.Workings.{carried}
use Rattle.exact.specs.Spans.{mark, ◌≼◌, evenly}
use Rattle.points.specs.declared.fault.Fault.{Fault}
use Rattle.points.specs.declared.parameter.Parameter.{Parameter}
use Rattle.points.specs.Points.{Point}
use Rattle.workings.specs.declared.working.Working.{Working}
use Rattle.workings.specs.Workings.{steps}
use Rattle.sources.specs.Meaning.{Meaning, fails, holds, Held, told, survey_of}
use Rattle.sources.specs.Piles.{piled}
use Rattle.sources.specs.Accuracy.{Drawing, Accurate, AccurateFor, AccurateOver}
use Rattle.sources.proofs.Piling.{over-fault}
use Rattle.flattening.specs.Chords.{piece_allowance, Chord, ChordBound}
use Rattle.patches.specs.Nets.{Net, cut_of}
use Rattle.patches.specs.Surfaces.{PatchDrawing, isoparametric, surface_at, value_of}
use Rattle.patches.proofs.Cuts.{held, length_cut, surveyed-held}
use Rattle.patches.proofs.Plain.{carried_none}
use Rattle.patches.proofs.Stands.{cut_stands}
use Rattle.surfaces.specs.Bounds.{NearSurface, OnSurface, ChordNearSurface, SurfaceChord, ChordsOnSurface, SurfaceAccuracy}

-- cuts of one net at one parameter, from what the cut call ensures
pub cut-is : (P Q : Net) (s at : Parameter) → (Q ≡ P) × (at ≡ s) → cut_of at Q ≡ cut_of s P
cut-is P Q s at e = ap₂ cut_of e.1 e.0

module _ (width : ℕ) (P : Net) (s : Parameter) where
  abbrev curve : PatchDrawing → Drawing
  curve E = isoparametric P.m P.n E (value_of s)

  -- a point over a cut, and over a pile of workings above it
  pub near-surface : (ws : List Working) (t : Parameter) (r : Result (Point × ℕ) Fault) → AccurateFor width (cut_of s P) ws t r → NearSurface width P s ws t r
  near-surface ws t (Err f) acc = tt
  near-surface ws t (Ok x) acc = λ E follows a l. by (cut_of s P) refl acc E follows a l
    where
      by : (m : Meaning) → cut_of s P ≡ m → Accurate width m ws t x.0 x.1 → NearSurface width P s ws t (Ok x)
      by (fails f) q w E follows a l = absurd w.boxed
      by (holds h) q w E follows a l = w.near (curve E) (cut_stands width P s h q E follows) a l

  pub on-surface : (t : Parameter) (r : Result (Point × ℕ) Fault) → AccurateOver width (cut_of s P) t r → OnSurface width P s t r
  on-surface t (Err f) acc = tt
  on-surface t (Ok x) acc = λ E follows a l.
      subst (λ (u : Fraction). WithinHalf x.1 (x.0 a) (surface_at P.m P.n E (value_of s) u a)) (carried_none (value_of t)) (near-surface [] t (Ok x) (acc (cut_of s P) [] refl) E follows a l)

  -- a chord over a pile of workings above a cut
  pub chord-near-surface : (tol : ℕ → ℕ) (ws : List Working) (h : Held) → holds h ≡ piled ws (cut_of s P) → (u u' : ℕ) (p p' : Point) (c : Chord width tol h u u' p p') → ChordNearSurface width tol P s ws h u u' p p' c.depth
  chord-near-surface tol ws h made u u' p p' c E follows = by (cut_of s P) refl
    where
      by : (m : Meaning) → cut_of s P ≡ m → (a : ℕ) → a < width → (x : Fraction) → mark u ≼ x → x ≼ mark u' → HalfApart (2 * tol a + piece_allowance h c.depth) (evenly u (12 - c.depth) (p a) (p' a) x) (surface_at P.m P.n E (value_of s) (carried (steps ws) x) a)
      by (fails f) q a l x low high = over-fault ws f h (ap (piled ws) (sym q) ∙ sym made)
      by (holds b) q a l x low high = c.near (holds b) ws (made ∙ ap (piled ws) q) (curve E) (cut_stands width P s b q E follows) a l x low high

  module _ (tol : ℕ → ℕ) (means : cut_of s P ≡ holds (held s P)) where
    degree-is : length (held s P).points - 1 ≡ P.n
    degree-is = omega (arith, length_cut s P)

    surface-chord : (u u' : ℕ) (p p' : Point) → Chord width tol (held s P) u u' p p' → SurfaceChord width tol P s u u' p p'
    surface-chord u u' p p' c = record {
      depth = c.depth;
      few = c.few;
      spans = c.spans;
      near = λ E follows a l x low high.
          subst₂ (λ (n : ℕ) (y : Fraction). HalfApart (2 * tol a + (P.allowance + P.m + n * c.depth)) (evenly u (12 - c.depth) (p a) (p' a) x) (surface_at P.m P.n E (value_of s) y a)) degree-is (carried_none x)
          (chord-near-surface tol [] (held s P) (sym means) u u' p p' c E follows a l x low high);
    }

  pub chords-on-surface : (tol : ℕ → ℕ) (r : Result ℕ Fault) (vs : List Point) (ts : List ℕ) → ChordBound width tol (cut_of s P) r vs ts → ChordsOnSurface width tol P s r vs ts
  chords-on-surface tol (Err f) vs ts b = tt
  chords-on-surface tol (Ok count) vs ts b = by (cut_of s P) refl b
    where
      by : (m : Meaning) → cut_of s P ≡ m → ChordBound width tol m (Ok count) vs ts → ChordsOnSurface width tol P s (Ok count) vs ts
      by (fails f) q c = absurd c
      by (holds h) q c = λ i l.
          let means : cut_of s P ≡ holds (held s P) = (surveyed-held s P (told h) (ap survey_of (sym q))).1 in
          surface-chord tol means _ _ _ _ ((subst (λ (m : Meaning). ChordBound width tol m (Ok count) vs ts) (sym q ∙ means) c).each i l)

pub surface-accuracy : (width : ℕ) → SurfaceAccuracy width
surface-accuracy width = record { points = near-surface width; chords = chord-near-surface width }
