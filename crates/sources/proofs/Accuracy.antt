-- The accuracy of points that piles give, from the accuracy on one axis.
use Rattle.std.proofs.Common.{◌≡◌, ℕ, pred, ◌+◌, ◌-◌, ◌<◌, false, cond, ltb, List, [], ◌∷◌, length, get_or, ℤ, Ok, Err, Result, sym, refl, ap, ◌∙◌, subst, subst₂, sub-one, arith}
use Rattle.std.proofs.lemmas.Bool.{cond_both}
use Rattle.std.proofs.lemmas.List.{length-map}
use Rattle.exact.specs.Mixing.{mix}
use Rattle.exact.specs.Polygon.{degree, levels, IsPoint}
use Rattle.exact.specs.Fractions.{Fraction, WithinHalf}
use Rattle.exact.specs.Curve.{exact}
use Rattle.exact.specs.Accuracy.{StandsFor}
use Rattle.exact.specs.Workings as exact
use Rattle.exact.proofs.Lists.{length-levels}
use Rattle.exact.proofs.Anywhere.{accurate-on, enclosed-on}
use Rattle.points.specs.declared.fault.Fault.{Fault}
use Rattle.points.specs.declared.fault.Refusal.TheVariants.{OffScale, Short}
use Rattle.points.specs.declared.parameter.Parameter.{Parameter}
use Rattle.points.specs.Refusals.{refuse}
use Rattle.points.specs.Parameters.{off_scale}
use Rattle.points.specs.Points.{Point, origin, mixed, mix_point}
use Rattle.polygons.specs.Constructions.{mix_at}
use Rattle.workings.specs.declared.working.Working.{Working}
use Rattle.workings.specs.Workings.{place, steps}
use Rattle.sources.specs.Meaning.{Meaning, fails, holds, Held, Sound}
use Rattle.sources.specs.Piles.{piled}
use Rattle.sources.specs.Points.{point_at, point_of}
use Rattle.sources.specs.Accuracy.{along, carried_back, Accurate, AccurateFor, AccurateOver}
use Rattle.sources.proofs.Piling.{over-fault, in-range, Over, over, over-some}

one_only : (xs : List Point) → length xs ≡ 1 → xs ≡ get_or xs 0 origin ∷ []
one_only [] h = absurd (omega arith)
one_only (x ∷ []) h = refl
one_only (x ∷ (y ∷ xs)) h = absurd (omega arith)

is-point : (t : Parameter) (qs : List Point) → 0 < length qs → IsPoint (mix_at t) qs (point_at t qs)
is-point t qs z = one_only (levels (mix_at t) (degree qs) qs) (length-levels (mix_at t) (degree qs) qs ∙ omega (arith, sub-one (length qs)))

mixed-is : (w d : ℕ) (p q : ℤ) → mixed w d p q ≡ mix w d p q
unfolding mixed
mixed-is w d p q = refl

module _ (width : ℕ) (h q : Held) (ws : List Working) (t : Parameter) (some : 0 < length q.points) (ok : off_scale t ≡ false) (e : piled ws (holds h) ≡ holds q) where
  z : 0 < length h.points
  z = over-some ws h q some e

  o : Over ws h.points h.allowance q.points q.allowance
  o = over ws h q e z

  abbrev given : Point
  given = point_at t q.points

  point : IsPoint (exact.mix_by mix_point (place t)) (exact.pile mix_point (steps ws) h.points) given
  point = subst (λ ys. IsPoint (exact.mix_by mix_point (place t)) ys given) o.points (is-point t q.points some)

  near : (a : ℕ) (D : List Fraction) → StandsFor (along a h.points) h.allowance D → WithinHalf (q.allowance + (length q.points - 1)) (given a) (exact D (carried_back ws t))
  near a D s =
      let n : degree (along a h.points) ≡ degree h.points = ap pred (length-map h.points (λ x. x a)) in
      let w = accurate-on (λ (x : Point). x a) mix_point (λ w d _ _ x y. mixed-is w d (x a) (y a)) h.points (steps ws) (place t) given z o.valid (in-range t ok) point h.allowance D s in
      subst₂ (λ (x y : ℕ). WithinHalf (x + y) (given a) (exact D (carried_back ws t)))
      (ap (λ k. exact.allowance_over (steps ws) k h.allowance) n ∙ sym o.allowance)
      (ap (exact.degree_over (steps ws)) n ∙ sym o.numbers ∙ sym (sub-one (length q.points)))
      w

  accurate-held : Accurate width (holds h) ws t given (q.allowance + (length q.points - 1))
  accurate-held = record {
    near = λ D s a l. near a (along a D) (s a l);
    boxed = λ a _. enclosed-on (λ (x : Point). x a) mix_point (λ w d _ _ x y. mixed-is w d (x a) (y a)) h.points (steps ws) (place t) given z o.valid (in-range t ok) point;
  }

-- the point of whatever a pile holds, for whatever stands at its bottom
pub accurate-bottom : (width : ℕ) (bottom : Meaning) (q : Held) (ws : List Working) (t : Parameter) → 0 < length q.points → off_scale t ≡ false → piled ws bottom ≡ holds q → Accurate width bottom ws t (point_at t q.points) (q.allowance + (length q.points - 1))
accurate-bottom width (fails f) q ws t some ok e = over-fault ws f q e
accurate-bottom width (holds h) q ws t some ok e = accurate-held width h q ws t some ok e

pub accurate-answer : (width : ℕ) (m : Meaning) (t : Parameter) (n : ℕ) → Sound m → AccurateOver width m t (point_of t m n)
accurate-answer width (fails f) t n s bottom ws e = tt
accurate-answer width (holds q) t n s bottom ws e =
    cond_both (off_scale t) (Err (refuse OffScale 0)) (cond (ltb n q.reach) (Err (refuse Short q.reach)) (Ok (point_at t q.points, q.allowance + (length q.points - 1)))) (λ v. AccurateFor width bottom ws t v)
    (λ _. tt)
    (λ ok. cond_both (ltb n q.reach) (Err (refuse Short q.reach)) (Ok (point_at t q.points, q.allowance + (length q.points - 1))) (λ v. AccurateFor width bottom ws t v)
    (λ _. tt)
    (λ _. accurate-bottom width bottom q ws t (omega arith) ok (sym e)))

pub accurate-by : (width : ℕ) (m : Meaning) (t : Parameter) (n : ℕ) (v : Result (Point × ℕ) Fault) → Sound m → v ≡ point_of t m n → AccurateOver width m t v
accurate-by width m t n v s q = subst (AccurateOver width m t) (sym q) (accurate-answer width m t n s)
