-- Lazy answers, refuted on small polygons.
use Rattle.std.proofs.Common.{◌≡◌, ℕ, zero, suc, List, [], ◌∷◌, get_or, pos, Ok, sym, refl, ◌∙◌, subst, arith}
use borrow.Author.Differences.{ints}
use Rattle.std.proofs.lemmas.List.{length-map}
use Rattle.exact.specs.Fractions.{whole, WithinHalf}
use Rattle.exact.specs.Curve.{exact, control}
use Rattle.exact.specs.Workings.{carried}
use Rattle.points.specs.Points.{Point}
use Rattle.workings.specs.declared.working.Working.TheVariants.{Left}
use Rattle.sources.specs.Meaning.{holds, Held}
use Rattle.sources.specs.Accuracy.{along, Stands, AccurateOver, AccurateFor}
use Rattle.flattening.proofs.Bites.{close, chords-bite}
use Rattle.promises.specs.Bites.{itself, height, half, one, rise, step, Bites}

itself-at : (a : ℕ) (ps : List Point) (i : ℕ) → control (along a (itself ps)) i ≡ whole (get_or (along a ps) i (pos 0))
itself-at a [] i = refl
itself-at a (p ∷ ps) zero = refl
itself-at a (p ∷ ps) (suc i) = itself-at a ps i

stands : (width : ℕ) (h : Held) → Stands width (holds h) (itself h.points)
stands width h a _ = record {
  equally_many = length-map (itself h.points) (λ x. x a) ∙ length-map h.points (λ p b. whole (p b)) ∙ sym (length-map h.points (λ x. x a));
  each_near = λ i l. subst (WithinHalf h.allowance (get_or (along a h.points) i (pos 0))) (sym (itself-at a h.points i)) (close h.allowance (get_or (along a h.points) i (pos 0)));
}

not_the_first : AccurateOver 1 rise half (Ok (height 0, 1)) → ⊥
unfolding exact carried
not_the_first h =
    let b = ((h rise [] refl).near (itself (height 0 ∷ (height 100 ∷ []))) (stands 1 (record { points = height 0 ∷ (height 100 ∷ []); allowance = 0; reach = 2 })) 0 (omega arith)).half in
    absurd (omega arith)

not_without_degree : AccurateOver 1 step half (Ok (height 1, 0)) → ⊥
unfolding exact carried
not_without_degree h =
    let b = ((h step [] refl).near (itself (height 0 ∷ (height 0 ∷ (height 0 ∷ (height 1 ∷ []))))) (stands 1 (record { points = height 0 ∷ (height 0 ∷ (height 0 ∷ (height 1 ∷ []))); allowance = 0; reach = 4 })) 0 (omega arith)).half in
    absurd (omega arith)

not_untrimmed : AccurateFor 1 rise (Left half ∷ []) one (Ok (height 100, 2)) → ⊥
unfolding exact carried
not_untrimmed h =
    let b = (h.near (itself (height 0 ∷ (height 100 ∷ []))) (stands 1 (record { points = height 0 ∷ (height 100 ∷ []); allowance = 0; reach = 2 })) 0 (omega arith)).half in
    absurd (omega arith)

not_pretended : AccurateFor 1 rise (Left half ∷ (Left half ∷ [])) one (Ok (height 50, 3)) → ⊥
unfolding exact carried
not_pretended h =
    let b = (h.near (itself (height 0 ∷ (height 100 ∷ []))) (stands 1 (record { points = height 0 ∷ (height 100 ∷ []); allowance = 0; reach = 2 })) 0 (omega arith)).half in
    absurd (omega arith)

not_from_elsewhere : AccurateFor 1 rise [] half (Ok (height 101, 65535)) → ⊥
not_from_elsewhere h =
    let b = (h.boxed 0 (omega arith)).1 in
    absurd (omega (arith, ints))

pub bites : Bites
bites = record {
  chords = chords-bite;
  stands = stands;
  not_the_first = not_the_first;
  not_without_degree = not_without_degree;
  not_untrimmed = not_untrimmed;
  not_pretended = not_pretended;
  not_from_elsewhere = not_from_elsewhere;
}
