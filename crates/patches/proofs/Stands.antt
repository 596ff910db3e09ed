-- A cut stands for the isoparametric curve of every patch drawing that follows the patch.
use Rattle.std.proofs.Common.{◌≡◌, ℕ, ◌+◌, ◌-◌, ◌<◌, false, [], map, length, get_or, ℤ, pos, sym, refl, ap, ◌∙◌, subst, subst₂, arith}
use Rattle.std.specs.List.{range_with_len}
use Rattle.std.proofs.lemmas.List.FromFn.{length-map-range_with_len, get_or-map-range_with_len}
use Rattle.std.proofs.lemmas.List.{length-map, get_or-map}
use Rattle.exact.specs.Fractions.{Fraction, whole, WithinHalf}
use Rattle.exact.specs.Curve.{exact}
use Rattle.exact.specs.Accuracy.{StandsFor}
use Rattle.points.specs.declared.parameter.Parameter.{Parameter}
use Rattle.points.specs.Parameters.{off_scale}
use Rattle.points.specs.Points.{Point, origin}
use Rattle.sources.specs.Meaning.{Meaning, holds, Held, told, survey_of}
use Rattle.sources.specs.Points.{point_at}
use Rattle.sources.specs.Accuracy.{along, Stands}
use Rattle.sources.proofs.Accuracy.{accurate-bottom}
use Rattle.patches.specs.Nets.{Net, place_of, column}
use Rattle.patches.specs.Surfaces.{PatchDrawing, column_of, isoparametric, Follows, value_of, CutStands}
use Rattle.patches.proofs.Cuts.{held, surveyed-held}
use Rattle.patches.proofs.Plain.{carried_none}

-- a list made from a function of the index, on one axis
module _ {V : Type 0} (a n : ℕ) (f : ℕ → ℕ → V) where
  along-length : length (along a (map f (range_with_len 0 n))) ≡ n
  along-length = length-map (map f (range_with_len 0 n)) (λ x. x a) ∙ length-map-range_with_len f 0 n

  along-at : (i : ℕ) (d : V) → i < n → get_or (along a (map f (range_with_len 0 n))) i d ≡ f i a
  along-at i d l = get_or-map (λ (x : ℕ → V). x a) (map f (range_with_len 0 n)) i (λ _. d) d (omega (arith, length-map-range_with_len f 0 n)) ∙ ap (λ (x : ℕ → V). x a) (get_or-map-range_with_len f 0 n i i (λ _. d) l (omega arith))

-- one list stands for another, where the two are near by places
stands_by : (a n e : ℕ) (f : ℕ → Point) (g : ℕ → ℕ → Fraction) → ((i : ℕ) → i < n → WithinHalf e (f i a) (g i a)) → StandsFor (along a (map f (range_with_len 0 n))) e (along a (map g (range_with_len 0 n)))
stands_by a n e f g near = record {
  equally_many = along-length a n g ∙ sym (along-length a n f);
  each_near = λ i l. (let k : i < n = omega (arith, along-length a n f) in
      subst₂ (λ (x : ℤ) (y : Fraction). WithinHalf e x y) (sym (along-at a n f i (pos 0) k)) (sym (along-at a n g i (whole (pos 0)) k)) (near i k));
}

module _ (width : ℕ) (P : Net) (s : Parameter) (E : PatchDrawing) (follows : Follows width P E) (ok : off_scale s ≡ false) where
  -- column j, as a source of its own
  abbrev column_held : ℕ → Held
  column_held j = record { points = column origin P.m P.n P.points j; allowance = P.allowance; reach = 0 }

  column-stands : (j : ℕ) → j < P.n + 1 → Stands width (holds (column_held j)) (column_of P.m E j)
  column-stands j k b l = stands_by b (P.m + 1) P.allowance (λ i. get_or P.points (place_of P.m P.n i j) origin) (λ i. E i j) (λ i q. follows i j b (omega arith) (omega arith) l)

  -- the accuracy of a point with no working, on the column
  column-near : (j a : ℕ) → j < P.n + 1 → a < width → WithinHalf (P.allowance + P.m) (point_at s (column origin P.m P.n P.points j) a) (exact (along a (column_of P.m E j)) (value_of s))
  column-near j a k l =
      let long : length (column origin P.m P.n P.points j) ≡ P.m + 1 = length-map-range_with_len (λ i. get_or P.points (place_of P.m P.n i j) origin) 0 (P.m + 1) in
      let w = accurate-bottom width (holds (column_held j)) (column_held j) [] s (omega arith) ok refl in
      subst₂ (λ (e : ℕ) (u : Fraction). WithinHalf e (point_at s (column origin P.m P.n P.points j) a) (exact (along a (column_of P.m E j)) u))
      (let z : P.allowance + (length (column origin P.m P.n P.points j) - 1) ≡ P.allowance + P.m = omega arith in z) (carried_none (value_of s))
      (w.near (column_of P.m E j) (column-stands j k) a l)

  held-stands : Stands width (holds (held s P)) (isoparametric P.m P.n E (value_of s))
  held-stands a l = stands_by a (P.n + 1) (P.allowance + P.m) (λ j. point_at s (column origin P.m P.n P.points j)) (λ j b. exact (along b (column_of P.m E j)) (value_of s)) (λ j k. column-near j a k l)

pub cut_stands : (width : ℕ) (P : Net) (s : Parameter) → CutStands width P s
cut_stands width P s h means E follows =
    let a = surveyed-held s P (told h) (ap survey_of (sym means)) in
    subst (λ (m : Meaning). Stands width m (isoparametric P.m P.n E (value_of s))) (sym a.1 ∙ means) (held-stands width P s E follows a.0.scale)
