-- Parameters compared as numbers.
use Rattle.std.proofs.Common.{◌≡◌, ℕ, zero, suc, ◌+◌, ◌*◌, ◌^◌, ◌<◌, ◌≤◌, Bool, true, eqb, Decides, sym, refl, ap, ◌∙◌, mul-le-mul_right, mul_assoc, mul_comm, arith, pow_pos, pow_mono, pow-add}
use native.Mathlib.Nat.{eq_of_mul-eq-mul_right}
use Rattle.std.proofs.lemmas.Bool.{eqb-true, eq-eqb}
use Rattle.points.specs.declared.parameter.Parameter.{Parameter}
use Rattle.samepath.specs.Same.{SameNumber}

-- 16 bits hold no b·2^d from d = 16 on, but 0
far : (a b d : ℕ) → a < 65536 → 16 ≤ d → a ≡ b * 2 ^ d → b ≡ 0
far a zero d h l e = refl
far a (suc b) d h l e =
    let p : 2 ^ 16 ≤ 2 ^ d = pow_mono l in
    let q : 1 * 2 ^ d ≤ suc b * 2 ^ d = mul-le-mul_right (2 ^ d) (let z : 1 ≤ suc b = omega arith in z) in
    absurd (omega arith)

none : (b d : ℕ) → b ≡ 0 → b * 2 ^ d ≡ 0
none b d e = ap (λ x. x * 2 ^ d) e ∙ omega arith

pub far-zero : (a b d : ℕ) → a < 65536 → 16 ≤ d → a ≡ 0 → Decides (eqb b 0) (a ≡ b * 2 ^ d)
far-zero a b d h l z = ((λ r. z ∙ sym (none b d (eqb-true b 0 r))), (λ e. eq-eqb b 0 (far a b d h l e)))

pub far-other : (a b d : ℕ) (r : Bool) → a < 65536 → 16 ≤ d → (a ≡ 0 → ⊥) → (r ≡ true → a ≡ 0) → Decides r (a ≡ b * 2 ^ d)
far-other a b d r h l z t = ((λ e. absurd (z (t e))), (λ e. absurd (z (e ∙ none b d (far a b d h l e)))))

-- multiplied out
out : (a b l d : ℕ) → a ≡ b * 2 ^ d → a * 2 ^ l ≡ b * 2 ^ (l + d)
out a b l d e =
    ap (λ x. x * 2 ^ l) e ∙ mul_assoc b (2 ^ d) (2 ^ l) ∙ ap (λ x. b * x) (mul_comm (2 ^ d) (2 ^ l) ∙ sym (pow-add 2 l d))

back : (a b l d : ℕ) → a * 2 ^ l ≡ b * 2 ^ (l + d) → a ≡ b * 2 ^ d
back a b l d e = eq_of_mul-eq-mul_right (2 ^ l) (pow_pos l) a (b * 2 ^ d) (e ∙ sym (out (b * 2 ^ d) b l d refl))

pub shifted : (a b l d k : ℕ) (r : Bool) → k ≡ l + d → Decides r (a ≡ b * 2 ^ d) → Decides r (a * 2 ^ l ≡ b * 2 ^ k)
shifted a b l d k r e h =
    let q : b * 2 ^ (l + d) ≡ b * 2 ^ k = ap (λ n. b * 2 ^ n) (sym e) in
    ((λ t. out a b l d (h.0 t) ∙ q), (λ s. h.1 (back a b l d (s ∙ sym q))))

pub turned : {A : Type 0} {x y : A} (r : Bool) → Decides r (x ≡ y) → Decides r (y ≡ x)
turned r h = ((λ t. sym (h.0 t)), (λ s. h.1 (sym s)))

pub number-trans : (s t u : Parameter) → SameNumber s t → SameNumber t u → SameNumber s u
number-trans s t u p q =
    eq_of_mul-eq-mul_right (2 ^ t.k) (pow_pos t.k) (s.a * 2 ^ u.k) (u.a * 2 ^ s.k)
    (swap s.a (2 ^ u.k) (2 ^ t.k) ∙ ap (λ x. x * 2 ^ u.k) p ∙ swap t.a (2 ^ s.k) (2 ^ u.k) ∙ ap (λ x. x * 2 ^ s.k) q ∙ swap u.a (2 ^ t.k) (2 ^ s.k))
  where
    swap : (a x y : ℕ) → a * x * y ≡ a * y * x
    swap a x y = mul_assoc a x y ∙ ap (λ z. a * z) (mul_comm x y) ∙ sym (mul_assoc a y x)
