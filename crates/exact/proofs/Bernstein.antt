-- The Bernstein sum of whole control values is de Casteljau's recursion.
use Rattle.std.proofs.Common.{◌≡◌, ℕ, zero, suc, ◌+◌, ◌-◌, ◌*◌, ◌^◌, ◌<◌, ◌≤◌, ℤ, pos, ◌+ℤ◌, ◌*ℤ◌, sym, refl, ap, ◌∙◌, ap₂, arith}
use native.Mathlib.Nat.{pow-zero, pow-succ'}
use native.Mathlib.Decide.{dec_lt}
use lib.IntN.{zero-*ℤ, +ℤ_idr, +ℤ_assoc}
use Rattle.exact.specs.Mixing.{blend}
use Rattle.exact.specs.Sums.{choose, sum_to}
use Rattle.exact.proofs.Ring.{ring, *ℤ-assoc}
use Rattle.exact.proofs.Curve.{C, one-*}

-- the weight C(n,i)·s^(n−i)·t^i
abbrev pub weight : ℕ → ℕ → ℕ → ℕ → ℕ
weight s t n i = choose n i * s ^ (n - i) * t ^ i

abbrev pub H : ℕ → ℕ → ℕ → (ℕ → ℤ) → ℤ
H s t n X = sum_to ◌+ℤ◌ n (λ i. pos (weight s t n i) *ℤ X i)

choose-past : (n i : ℕ) → n < i → choose n i ≡ 0
choose-past zero zero h = absurd (omega arith)
choose-past (suc n) zero h = absurd (omega arith)
choose-past zero (suc i) h = refl
choose-past (suc n) (suc i) h = omega (arith, choose-past n i (omega arith), choose-past n (suc i) (omega arith))

sum-front : (n : ℕ) (f : ℕ → ℤ) → sum_to ◌+ℤ◌ (suc n) f ≡ f 0 +ℤ sum_to ◌+ℤ◌ n (λ i. f (suc i))
sum-front zero f = refl
sum-front (suc n) f = ap (λ x. x +ℤ f (suc (suc n))) (sum-front n f) ∙ +ℤ_assoc (f 0) (sum_to ◌+ℤ◌ n (λ i. f (suc i))) (f (suc (suc n)))

pub sum-cong : (n : ℕ) (f g : ℕ → ℤ) → ((i : ℕ) → i ≤ n → f i ≡ g i) → sum_to ◌+ℤ◌ n f ≡ sum_to ◌+ℤ◌ n g
sum-cong zero f g h = h 0 (omega arith)
sum-cong (suc n) f g h = ap₂ ◌+ℤ◌ (sum-cong n f g (λ i k. h i (omega arith))) (h (suc n) (omega arith))

sum-blend : (u v n : ℕ) (f g : ℕ → ℤ) → sum_to ◌+ℤ◌ n (λ i. blend u v (f i) (g i)) ≡ blend u v (sum_to ◌+ℤ◌ n f) (sum_to ◌+ℤ◌ n g)
sum-blend u v zero f g = refl
sum-blend u v (suc n) f g = ap (λ x. x +ℤ blend u v (f (suc n)) (g (suc n))) (sum-blend u v n f g) ∙ simp ring

module _ (s t : ℕ) where
  weight-first : (n : ℕ) → weight s t (suc n) 0 ≡ s * weight s t n 0
  weight-first n =
      let e : s ^ (suc n - 0) ≡ s * s ^ (n - 0) = ap (λ k. s ^ k) (omega arith) ∙ pow-succ' s (n - 0) in
      rw e (omega arith)

  weight-next : (n i : ℕ) → weight s t (suc n) (suc i) ≡ s * weight s t n (suc i) + t * weight s t n i
  weight-next n i =
      let e : s ^ (suc n - suc i) ≡ s ^ (n - i) = ap (λ k. s ^ k) (omega arith) in
      elim (dec_lt i n) [
        | yes h ↦ (let f : s ^ (n - i) ≡ s * s ^ (n - suc i) = ap (λ k. s ^ k) (omega arith) ∙ pow-succ' s (n - suc i) in
            rw (e, f, pow-succ' t i) (inside (choose n i) (choose n (suc i)) (s ^ (n - suc i)) (t ^ i)))
        | no h ↦ rw (e, choose-past n (suc i) (omega arith), pow-succ' t i) (outside (choose n i) (s ^ (n - i)) (s ^ (n - suc i)) (t ^ i))
      ]
    where
      inside : (a b S T : ℕ) → (a + b) * (s * S) * (t * T) ≡ s * (b * S * (t * T)) + t * (a * (s * S) * T)
      inside a b S T = omega arith

      outside : (a S S' T : ℕ) → (a + 0) * S * (t * T) ≡ s * (0 * S' * (t * T)) + t * (a * S * T)
      outside a S S' T = omega arith

  H-step : (n : ℕ) (X : ℕ → ℤ) → H s t (suc n) X ≡ blend s t (H s t n X) (H s t n (λ i. X (suc i)))
  H-step n X =
      sum-front n (λ i. pos (weight s t (suc n) i) *ℤ X i)
      ∙ ap₂ ◌+ℤ◌
      (ap (λ k. pos k *ℤ X 0) (weight-first n) ∙ *ℤ-assoc (pos s) (pos (weight s t n 0)) (X 0))
      (sum-cong n _ (λ i. blend s t (g (suc i)) (pos (weight s t n i) *ℤ X (suc i))) (λ i h. ap (λ k. pos k *ℤ X (suc i)) (weight-next n i) ∙ apart (pos s) (pos (weight s t n (suc i))) (pos t) (pos (weight s t n i)) (X (suc i)))
      ∙ sum-blend s t n (λ i. g (suc i)) (λ i. pos (weight s t n i) *ℤ X (suc i)))
      ∙ gather (pos s) (g 0) (sum_to ◌+ℤ◌ n (λ i. g (suc i))) (pos t *ℤ H s t n (λ i. X (suc i)))
      ∙ ap (λ x. blend s t x (H s t n (λ i. X (suc i)))) (sym (sum-front n g) ∙ ap (λ k. H s t n X +ℤ pos k *ℤ X (suc n)) (past n) ∙ ap (λ x. H s t n X +ℤ x) (zero-*ℤ (X (suc n))) ∙ +ℤ_idr (H s t n X))
    where
      g : ℕ → ℤ
      g i = pos (weight s t n i) *ℤ X i

      apart : (s a t b x : ℤ) → (s *ℤ a +ℤ t *ℤ b) *ℤ x ≡ s *ℤ (a *ℤ x) +ℤ t *ℤ (b *ℤ x)
      apart s a t b x = simp ring

      gather : (s a b c : ℤ) → s *ℤ a +ℤ (s *ℤ b +ℤ c) ≡ s *ℤ (a +ℤ b) +ℤ c
      gather s a b c = simp ring

      past : (n : ℕ) → weight s t n (suc n) ≡ 0
      past n = rw (choose-past n (suc n) (omega arith)) (omega arith)

  pub H-is : (n : ℕ) (X : ℕ → ℤ) → H s t n X ≡ C s t n X
  H-is zero X = ap (λ k. pos k *ℤ X 0) (rw (pow-zero s, pow-zero t)) ∙ one-* (X 0)
  H-is (suc n) X = H-step n X ∙ ap₂ (blend s t) (H-is n X) (H-is n (λ i. X (suc i)))
