-- The accuracy of the kernel, from the lemmas of the calls.
use Rattle.std.proofs.Common.{◌≡◌, ℕ, ◌+◌, ◌||◌, ltb, [], length, Ok, Err, sym, refl}
use Rattle.std.proofs.lemmas.Bool.{cond_both}
use Rattle.std.proofs.lemmas.List.{append-nil}
use Rattle.points.specs.declared.fault.Refusal.TheVariants.{Short}
use Rattle.points.specs.Refusals.{refuse}
use Rattle.points.specs.Points.{Point}
use Rattle.sources.specs.Meaning.{Meaning, fails, holds, Sound}
use Rattle.sources.proofs.Accuracy.{accurate-answer}
use Rattle.strands.proofs.Histories.{accurate-after}
use Rattle.flattening.specs.Pieces.{Outcome, bent, kept}
use Rattle.flattening.specs.Flat.{flat_pieces}
use Rattle.flattening.specs.Vertices.{vertices, parameters}
use Rattle.flattening.specs.Chords.{ChordBound}
use Rattle.flattening.specs.Flattening.{needed, judged, flatten_of, vertices_of, parameters_of}
use Rattle.flattening.proofs.Bound.{chords-kept}
use Rattle.promises.specs.Accuracy.{Accuracy}

chords : (width : ℕ) (tol : ℕ → ℕ) (m : Meaning) (w p q : ℕ) → Sound m → ChordBound width tol m (flatten_of width tol m w p q) (vertices_of width tol m) (parameters_of width tol m)
chords width tol (fails f) w p q s = tt
chords width tol (holds h) w p q s =
    cond_both (ltb w (needed h)) (Err (refuse Short (needed h))) (judged (flat_pieces width tol h.points) p q) (λ r. ChordBound width tol (holds h) r (vertices_of width tol (holds h)) (parameters_of width tol (holds h)))
    (λ _. tt)
    (λ _. by (flat_pieces width tol h.points) refl)
  where
    by : (o : Outcome) → flat_pieces width tol h.points ≡ o → ChordBound width tol (holds h) (judged o p q) (vertices h.points o) (parameters o)
    by (bent b) e = tt
    by (kept xs) e =
        cond_both (ltb p (1 + length xs) || ltb q (1 + length xs)) (Err (refuse Short (1 + length xs))) (Ok (1 + length xs)) (λ r. ChordBound width tol (holds h) r (vertices h.points (kept xs)) (parameters (kept xs)))
        (λ _. tt)
        (λ _. chords-kept width tol h s.some xs e [] [] _ _ (sym (append-nil _)) (sym (append-nil _)))

pub accuracy : {X : Type 0} (c : X → Point) (width : ℕ) → Accuracy c width
accuracy c width = record {
  point = accurate-answer width;
  chords = chords width;
  strand = λ s t n. accurate-after c width s t n _ refl;
}
