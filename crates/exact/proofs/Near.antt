-- Whole points P near the control values X over M: the accuracy of each working, with all denominators multiplied out.
use Rattle.std.proofs.Common.{◌≡◌, ℕ, zero, suc, ◌+◌, ◌-◌, ◌*◌, ◌^◌, ◌<◌, ◌≤◌, ℤ, pos, ◌+ℤ◌, ◌*ℤ◌, sym, refl, ap, ◌∙◌, subst₂, mul-le-mul_right, mul-le-mul_left, pow-suc, arith, pow-add}
use native.Mathlib.Nat.{pow-zero}
use native.Mathlib.Decide.{dec_le, dec_lt}
use borrow.Author.Differences.{ints}
use Rattle.exact.specs.Mixing.{blend}
use Rattle.exact.specs.Polygon.{level_at}
use Rattle.exact.proofs.Ring.{ring, gap, gap-*, gap-sum, gap-triangle, *ℤ-assoc}
use Rattle.exact.proofs.Curve.{left_x, right_x, raise_x, turn_x}

-- p differs from x/M by at most A/2
abbrev pub Close : ℕ → ℕ → ℤ → ℤ → Type 0
Close A M p x = 2 * gap (pos M *ℤ p) x ≤ A * M

abbrev pub Near : ℕ → ℕ → ℕ → (ℕ → ℤ) → (ℕ → ℤ) → Type 0
Near n A M P X = (i : ℕ) → i ≤ n → Close A M (P i) (X i)

pub close-scale : (k A M : ℕ) (p x : ℤ) → Close A M p x → Close A (k * M) p (pos k *ℤ x)
close-scale k A M p x h =
    let e : gap (pos (k * M) *ℤ p) (pos k *ℤ x) ≡ k * gap (pos M *ℤ p) x = ap (λ y. gap y (pos k *ℤ x)) (*ℤ-assoc (pos k) (pos M) p) ∙ gap-* k (pos M *ℤ p) x in
    rw e (times (gap (pos M *ℤ p) x) h)
  where
    times : (g : ℕ) → 2 * g ≤ A * M → 2 * (k * g) ≤ A * (k * M)
    times g l = omega (arith, mul-le-mul_left k l)

pub close_more : (A B M : ℕ) (p x : ℤ) → A ≤ B → Close A M p x → Close B M p x
close_more A B M p x h c = omega (arith, mul-le-mul_right M h)

-- one mix whose own error is at most e/2 adds e
pub close-mix : (A M e s t : ℕ) (p q x y m : ℤ) → Close e (s + t) m (blend s t p q) → Close A M p x → Close A M q y → Close (A + e) (M * (s + t)) m (blend s t x y)
close-mix A M e s t p q x y m c h k =
    bound (gap (pos (M * (s + t)) *ℤ m) (blend s t x y)) (gap (pos (s + t) *ℤ m) (blend s t p q)) (gap (pos M *ℤ p) x) (gap (pos M *ℤ q) y) c h k
    (omega (arith, gap-triangle (pos (M * (s + t)) *ℤ m) (pos M *ℤ blend s t p q) (blend s t x y), first, second))
  where
    first : gap (pos (M * (s + t)) *ℤ m) (pos M *ℤ blend s t p q) ≡ M * gap (pos (s + t) *ℤ m) (blend s t p q)
    first = ap (λ z. gap z (pos M *ℤ blend s t p q)) (*ℤ-assoc (pos M) (pos (s + t)) m) ∙ gap-* M (pos (s + t) *ℤ m) (blend s t p q)

    through : (M s t p q : ℤ) → M *ℤ (s *ℤ p +ℤ t *ℤ q) ≡ s *ℤ (M *ℤ p) +ℤ t *ℤ (M *ℤ q)
    through M s t p q = simp ring

    second : gap (pos M *ℤ blend s t p q) (blend s t x y) ≤ s * gap (pos M *ℤ p) x + t * gap (pos M *ℤ q) y
    second = rw through (omega (arith, gap-sum (pos s *ℤ (pos M *ℤ p)) (pos t *ℤ (pos M *ℤ q)) (pos s *ℤ x) (pos t *ℤ y), gap-* s (pos M *ℤ p) x, gap-* t (pos M *ℤ q) y))

    bound : (g g0 g1 g2 : ℕ) → 2 * g0 ≤ e * (s + t) → 2 * g1 ≤ A * M → 2 * g2 ≤ A * M → g ≤ M * g0 + (s * g1 + t * g2) → 2 * g ≤ (A + e) * (M * (s + t))
    bound g g0 g1 g2 c h k l = omega (arith, mul-le-mul_left M c, mul-le-mul_left s h, mul-le-mul_left t k)

-- the sum of the charges of the levels below r
abbrev pub total : (ℕ → ℕ) → ℕ → ℕ
total e zero = 0
total e (suc r) = total e r + e r

pub total-ones : (r : ℕ) → total (λ _. 1) r ≡ r
total-ones zero = refl
total-ones (suc r) = omega (arith, total-ones r)

pub total_mono : (e : ℕ → ℕ) (r n : ℕ) → r ≤ n → total e r ≤ total e n
total_mono e r zero h =
    let z : r ≡ 0 = omega arith in
    rw z (omega arith)
total_mono e r (suc n) h = elim (dec_le r n) [ yes l ↦ omega (arith, total_mono e r n l) | no l ↦ (let z : r ≡ suc n = omega arith in rw z (omega arith)) ]

-- the same statement with its two numbers written otherwise
pub close-as : {A B M N : ℕ} (p x : ℤ) → A ≡ B → M ≡ N → Close A M p x → Close B N p x
close-as p x e f = subst₂ (λ A M. Close A M p x) e f

module _ (m : ℤ → ℤ → ℤ) (s t n A M : ℕ) (e : ℕ → ℕ) (P X : ℕ → ℤ) (near : Near n A M P X)
    (fair : (r i : ℕ) → r + i < n → Close (e r) (s + t) (level_at m P (suc r) i) (blend s t (level_at m P r i) (level_at m P r (suc i)))) where
  -- every level is near the exact one
  pub near-level : (r i : ℕ) → r + i ≤ n → Close (A + total e r) (M * (s + t) ^ r) (level_at m P r i) (level_at (blend s t) X r i)
  near-level zero i h = close-as (P i) (X i) (omega arith) (rw pow-zero (omega arith)) (near i (omega arith))
  near-level (suc r) i h =
      close-as (level_at m P (suc r) i) (level_at (blend s t) X (suc r) i) (omega arith) (rw pow-suc (omega arith))
      (close-mix (A + total e r) (M * (s + t) ^ r) (e r) s t (level_at m P r i) (level_at m P r (suc i)) (level_at (blend s t) X r i) (level_at (blend s t) X r (suc i)) (level_at m P (suc r) i)
      (fair r i (omega arith)) (near-level r i (omega arith)) (near-level r (suc i) (omega arith)))

  powers : (i j : ℕ) → i + j ≡ n → (s + t) ^ j * (M * (s + t) ^ i) ≡ M * (s + t) ^ n
  powers i j q = sym (rw (sym q, pow-add) (omega arith))

  pub near-left : Near n (A + total e n) (M * (s + t) ^ n) (λ i. level_at m P i 0) (left_x s t n X)
  near-left i h =
      close_more (A + total e i) (A + total e n) (M * (s + t) ^ n) (level_at m P i 0) (left_x s t n X i) (omega (arith, total_mono e i n h))
      (close-as (level_at m P i 0) (left_x s t n X i) refl (powers i (n - i) (omega arith))
      (close-scale ((s + t) ^ (n - i)) (A + total e i) (M * (s + t) ^ i) (level_at m P i 0) (level_at (blend s t) X i 0) (near-level i 0 (omega arith))))

  pub near-right : Near n (A + total e n) (M * (s + t) ^ n) (λ i. level_at m P (n - i) i) (right_x s t n X)
  near-right i h =
      close_more (A + total e (n - i)) (A + total e n) (M * (s + t) ^ n) (level_at m P (n - i) i) (right_x s t n X i) (omega (arith, total_mono e (n - i) n (omega arith)))
      (close-as (level_at m P (n - i) i) (right_x s t n X i) refl (powers (n - i) i (omega arith))
      (close-scale ((s + t) ^ i) (A + total e (n - i)) (M * (s + t) ^ (n - i)) (level_at m P (n - i) i) (level_at (blend s t) X (n - i) i) (near-level (n - i) i (omega arith))))

-- the raised points, over M·(n+1)
module _ (n A M e : ℕ) (P P' X : ℕ → ℤ) (near : Near n A M P X) (first : P' 0 ≡ P 0) (last : P' (suc n) ≡ P n)
    (fair : (i : ℕ) → i < n → Close e (suc n) (P' (suc i)) (blend (n - i) (suc i) (P (suc i)) (P i))) where
  kept : (p p' x y : ℤ) → p' ≡ p → y ≡ pos (suc n) *ℤ x → Close A M p x → Close (A + e) (M * suc n) p' y
  kept p p' x y a b c = rw (a, b) (close_more A (A + e) (M * suc n) p (pos (suc n) *ℤ x) (omega arith) (close-as p (pos (suc n) *ℤ x) refl (omega arith) (close-scale (suc n) A M p x c)))

  pub near-raise : Near (suc n) (A + e) (M * suc n) P' (raise_x n X)
  near-raise zero h = kept (P 0) (P' 0) (X 0) _ first (ends (suc n - 0) (suc n) (X 0) (omega arith)) (near 0 (omega arith))
    where
      ends : (a b : ℕ) (x : ℤ) → a ≡ b → pos a *ℤ x +ℤ pos 0 *ℤ x ≡ pos b *ℤ x
      ends a b x q = rw q (omega (arith, ints))
  near-raise (suc i) h = elim (dec_lt i n) [
    | yes l ↦ (let q : n - i + suc i ≡ suc n = omega arith in
        let c : Close (A + e) (M * (n - i + suc i)) (P' (suc i)) (blend (n - i) (suc i) (X (suc i)) (X i)) = close-mix A M e (n - i) (suc i) (P (suc i)) (P i) (X (suc i)) (X i) (P' (suc i)) (rw q (fair i l)) (near (suc i) (omega arith)) (near i (omega arith)) in
        subst₂ (λ j k. Close (A + e) (M * j) (P' (suc i)) (blend k (suc i) (X (suc i)) (X i))) q (omega arith) c)
    | no l ↦ (let q : i ≡ n = omega arith in rw q (kept (P n) (P' (suc n)) (X n) _ last (ends (suc n - suc n) (X (suc n)) (X n) (omega arith)) (near n (omega arith))))
  ]
    where
      ends : (a : ℕ) (x y : ℤ) → a ≡ 0 → pos a *ℤ x +ℤ pos (suc n) *ℤ y ≡ pos (suc n) *ℤ y
      ends a x y q = rw q (omega (arith, ints))

pub near-turn : (n A M : ℕ) (P X : ℕ → ℤ) → Near n A M P X → Near n A M (λ i. P (n - i)) (turn_x n X)
near-turn n A M P X near i h = near (n - i) (omega arith)

-- what mixing keeps, every level keeps
pub level_all : {A : Type 0} (m : A → A → A) (Q : A → Type 0) → ((p q : A) → Q p → Q q → Q (m p q)) → (n : ℕ) (P : ℕ → A) → ((i : ℕ) → i ≤ n → Q (P i)) → (r i : ℕ) → r + i ≤ n → Q (level_at m P r i)
level_all m Q k n P a zero i h = a i (omega arith)
level_all m Q k n P a (suc r) i h = k _ _ (level_all m Q k n P a r i (omega arith)) (level_all m Q k n P a r (suc i) (omega arith))
