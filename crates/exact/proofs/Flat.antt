-- The chord of a flat polygon is near the exact curve.
use Rattle.std.proofs.Common.{◌≡◌, ℕ, zero, suc, pred, ◌+◌, ◌-◌, ◌*◌, ◌^◌, ◌<◌, ◌≤◌, List, ℤ, pos, negsuc, ◌+ℤ◌, ◌*ℤ◌, sym, refl, ap, ◌∙◌, subst, ap₂, subst₂, mul-le-mul_left, mul-pos, pow-suc, arith}
use native.Mathlib.Nat.{pow-zero, pow-succ', le_of_mul-le-mul_left, one-le-pow}
use borrow.Author.Differences.{ints}
use lib.IntN.{zero-*ℤ, *ℤ-zero}
use Rattle.exact.specs.Mixing.{blend}
use Rattle.exact.specs.Polygon.{degree}
use Rattle.exact.specs.Fractions.{Fraction, whole, ◌⊖◌, ◌⊗◌, Unit01, HalfApart}
use Rattle.exact.specs.Curve.{exact}
use Rattle.exact.specs.Flat.{Flat, chord}
use Rattle.exact.proofs.Ring.{ring, gap, gap-*, gap-sum, gap-triangle, gap-sym, *ℤ-left-comm}
use Rattle.exact.proofs.Curve.{C, C-cong, C-sum, C-scale, one-*}
use Rattle.exact.proofs.Near.{Near}
use Rattle.exact.proofs.Fractions.{Is, is-as, is_sum, is-product, is-rest, is-own}
use Rattle.exact.proofs.Carry.{Share, both}
use Rattle.exact.proofs.Pile.{at, Holds}

module _ (s t : ℕ) where
  -- points near each other give curves near each other
  pub C-gap : (n K : ℕ) (X Y : ℕ → ℤ) → ((i : ℕ) → i ≤ n → gap (X i) (Y i) ≤ K) → gap (C s t n X) (C s t n Y) ≤ K * (s + t) ^ n
  C-gap zero K X Y h = rw pow-zero (omega (arith, h 0 (omega arith)))
  C-gap (suc n) K X Y h =
      rw pow-suc (bound _ _ _ ((s + t) ^ n)
      (gap-sum (pos s *ℤ C s t n X) (pos t *ℤ C s t n (λ i. X (suc i))) (pos s *ℤ C s t n Y) (pos t *ℤ C s t n (λ i. Y (suc i))))
      (gap-* s (C s t n X) (C s t n Y)) (gap-* t (C s t n (λ i. X (suc i))) (C s t n (λ i. Y (suc i))))
      (C-gap n K X Y (λ i l. h i (omega arith))) (C-gap n K (λ i. X (suc i)) (λ i. Y (suc i)) (λ i l. h (suc i) (omega arith))))
    where
      bound : (g g1 g2 B : ℕ) {h1 h2 : ℕ} → g ≤ h1 + h2 → h1 ≡ s * g1 → h2 ≡ t * g2 → g1 ≤ K * B → g2 ≤ K * B → g ≤ K * (B * (s + t))
      bound g g1 g2 B l e f a b = omega (arith, mul-le-mul_left s a, mul-le-mul_left t b)

  pub C-const : (n : ℕ) (p : ℤ) → C s t n (λ _. p) ≡ pos ((s + t) ^ n) *ℤ p
  C-const zero p = sym (ap (λ k. pos k *ℤ p) (pow-zero (s + t)) ∙ one-* p)
  C-const (suc n) p = ap₂ (blend s t) (C-const n p) (C-const n p) ∙ join (pos s) (pos t) (pos ((s + t) ^ n)) p ∙ ap (λ k. pos k *ℤ p) (sym (pow-succ' (s + t) n))
    where
      join : (s t b p : ℤ) → s *ℤ (b *ℤ p) +ℤ t *ℤ (b *ℤ p) ≡ (s +ℤ t) *ℤ b *ℤ p
      join s t b p = simp ring

  -- the curve of evenly spaced points, times s + t
  pub C-line : (n : ℕ) (p q : ℤ) → pos (s + t) *ℤ C s t n (λ i. blend (n - i) i p q) ≡ pos (n * (s + t) ^ n) *ℤ blend s t p q
  C-line zero p q = zeros (pos (s + t)) (blend s t p q) p q (0 * (s + t) ^ 0) (omega arith)
    where
      zeros : (b c p q : ℤ) (k : ℕ) → k ≡ 0 → b *ℤ (pos 0 *ℤ p +ℤ pos 0 *ℤ q) ≡ pos k *ℤ c
      zeros b c p q k e = rw (e, zero-*ℤ p, zero-*ℤ q, zero-*ℤ c) (*ℤ-zero b)
  C-line (suc n) p q =
      ap (λ x. pos (s + t) *ℤ x) (ap₂ (blend s t) first second ∙ gather (pos s) (pos t) U (pos ((s + t) ^ n)) p q)
      ∙ ap (λ x. pos (s + t) *ℤ (x +ℤ pos ((s + t) ^ n) *ℤ blend s t p q)) (C-line n p q)
      ∙ close (pos (s + t)) (pos (n * (s + t) ^ n)) (pos ((s + t) ^ n)) (blend s t p q)
      ∙ ap (λ k. pos k *ℤ blend s t p q) (rw pow-succ' (omega arith))
    where
      U : ℤ
      U = C s t n (λ i. blend (n - i) i p q)

      here : (i r : ℕ) → suc n - i ≡ suc r → blend (suc n - i) i p q ≡ blend r i p q +ℤ p
      here i r e = rw e (omega (arith, ints))

      there : (i r : ℕ) → suc n - suc i ≡ r → blend (suc n - suc i) (suc i) p q ≡ blend r i p q +ℤ q
      there i r e = rw e (omega (arith, ints))

      first : C s t n (λ i. blend (suc n - i) i p q) ≡ U +ℤ pos ((s + t) ^ n) *ℤ p
      first = C-cong s t n _ (λ i. blend (n - i) i p q +ℤ p) (λ i l. here i (n - i) (omega arith)) ∙ C-sum s t n (λ i. blend (n - i) i p q) (λ _. p) ∙ ap (λ x. U +ℤ x) (C-const n p)

      second : C s t n (λ i. blend (suc n - suc i) (suc i) p q) ≡ U +ℤ pos ((s + t) ^ n) *ℤ q
      second = C-cong s t n _ (λ i. blend (n - i) i p q +ℤ q) (λ i l. there i (n - i) (omega arith)) ∙ C-sum s t n (λ i. blend (n - i) i p q) (λ _. q) ∙ ap (λ x. U +ℤ x) (C-const n q)

      gather : (s t U B p q : ℤ) → s *ℤ (U +ℤ B *ℤ p) +ℤ t *ℤ (U +ℤ B *ℤ q) ≡ (s +ℤ t) *ℤ U +ℤ B *ℤ (s *ℤ p +ℤ t *ℤ q)
      gather s t U B p q = simp ring

      close : (b k B W : ℤ) → b *ℤ (k *ℤ W +ℤ B *ℤ W) ≡ b *ℤ (k +ℤ B) *ℤ W
      close b k B W = simp ring

  -- the chord of flat points near X over M: 2·|M·b^n·chord − b·curve| ≤ (2q + a)·M·b^n·b, where b = s + t
  pub chord-close : (n q a M : ℕ) (P X : ℕ → ℤ) → 0 < n → Near n a M P X → ((i : ℕ) → i ≤ n → gap (pos n *ℤ P i) (blend (n - i) i (P 0) (P n)) ≤ n * q) → 2 * gap (pos (M * (s + t) ^ n) *ℤ blend s t (P 0) (P n)) (pos (s + t) *ℤ C s t n X) ≤ (2 * q + a) * ((s + t) * (M * (s + t) ^ n))
  chord-close n q a M P X z near flat =
      le_of_mul-le-mul_left {k = n} (bound (gap (pos (M * (s + t) ^ n) *ℤ blend s t (P 0) (P n)) (pos (s + t) *ℤ C s t n X)) (gap (pos (2 * M) *ℤ C s t n L) (pos (2 * n) *ℤ C s t n X)) ((s + t) ^ n) scaled whole-gap) z
    where
      L : ℕ → ℤ
      L i = blend (n - i) i (P 0) (P n)

      point : (i : ℕ) → i ≤ n → gap (pos (2 * M) *ℤ L i) (pos (2 * n) *ℤ X i) ≤ n * M * (2 * q + a)
      point i l = sum (gap (pos (2 * M) *ℤ L i) (pos (2 * n) *ℤ X i)) (gap (pos n *ℤ P i) (L i)) (gap (pos M *ℤ P i) (X i))
          (omega (arith, gap-triangle (pos (2 * M) *ℤ L i) (pos (2 * M) *ℤ (pos n *ℤ P i)) (pos (2 * n) *ℤ X i), gap-* (2 * M) (L i) (pos n *ℤ P i), gap-sym (L i) (pos n *ℤ P i), ap (λ x. 2 * M * x) (gap-sym (L i) (pos n *ℤ P i)), ap (λ x. gap x (pos (2 * n) *ℤ X i)) (swap (pos 2) (pos M) (pos n) (P i)), gap-* (2 * n) (pos M *ℤ P i) (X i)))
          (flat i l) (near i l)
        where
          swap : (k m n p : ℤ) → k *ℤ m *ℤ (n *ℤ p) ≡ k *ℤ n *ℤ (m *ℤ p)
          swap k m n p = simp ring

          sum : (g g1 g2 : ℕ) → g ≤ 2 * M * g1 + 2 * n * g2 → g1 ≤ n * q → 2 * g2 ≤ a * M → g ≤ n * M * (2 * q + a)
          sum g g1 g2 l f c = omega (arith, mul-le-mul_left (2 * M) f, mul-le-mul_left n c)

      whole-gap : gap (pos (2 * M) *ℤ C s t n L) (pos (2 * n) *ℤ C s t n X) ≤ n * M * (2 * q + a) * (s + t) ^ n
      whole-gap = subst₂ (λ (x y : ℤ). gap x y ≤ n * M * (2 * q + a) * (s + t) ^ n) (C-scale s t (2 * M) n L) (C-scale s t (2 * n) n X) (C-gap n (n * M * (2 * q + a)) (λ i. pos (2 * M) *ℤ L i) (λ i. pos (2 * n) *ℤ X i) point)

      scaled : (s + t) * gap (pos (2 * M) *ℤ C s t n L) (pos (2 * n) *ℤ C s t n X) ≡ 2 * n * gap (pos (M * (s + t) ^ n) *ℤ blend s t (P 0) (P n)) (pos (s + t) *ℤ C s t n X)
      scaled = sym (gap-* (s + t) (pos (2 * M) *ℤ C s t n L) (pos (2 * n) *ℤ C s t n X))
          ∙ ap₂ gap (*ℤ-left-comm (pos (s + t)) (pos (2 * M)) (C s t n L) ∙ ap (λ x. pos (2 * M) *ℤ x) (C-line n (P 0) (P n)) ∙ turn-over (pos 2) (pos M) (pos n) (pos ((s + t) ^ n)) (blend s t (P 0) (P n))) (*ℤ-left-comm (pos (s + t)) (pos (2 * n)) (C s t n X))
          ∙ gap-* (2 * n) (pos (M * (s + t) ^ n) *ℤ blend s t (P 0) (P n)) (pos (s + t) *ℤ C s t n X)
        where
          turn-over : (k m n b w : ℤ) → k *ℤ m *ℤ (n *ℤ b *ℤ w) ≡ k *ℤ n *ℤ (m *ℤ b *ℤ w)
          turn-over k m n b w = simp ring

      bound : (G g B : ℕ) → (s + t) * g ≡ 2 * n * G → g ≤ n * M * (2 * q + a) * B → n * (2 * G) ≤ n * ((2 * q + a) * ((s + t) * (M * B)))
      bound G g B e l = omega (arith, mul-le-mul_left (s + t) l)

-- fractions written otherwise
half-apart : (A m k : ℕ) (x y : ℤ) (f g : Fraction) → 0 < m → 0 < k → Is f x m → Is g y k → 2 * gap (pos k *ℤ x) (pos m *ℤ y) ≤ A * (m * k) → HalfApart A f g
half-apart A m k x y f g z w h j c =
    record { half = le_of_mul-le-mul_left {k = m * k} (bound (gap (f.num *ℤ pos g.den) (g.num *ℤ pos f.den)) (gap (pos k *ℤ x) (pos m *ℤ y)) scaled c) (mul-pos z w) }
  where
    one_side : (m k d n : ℤ) → m *ℤ k *ℤ (n *ℤ d) ≡ n *ℤ m *ℤ (k *ℤ d)
    one_side m k d n = simp ring

    other : (x d k e : ℤ) → x *ℤ d *ℤ (k *ℤ e) ≡ d *ℤ e *ℤ (k *ℤ x)
    other x d k e = simp ring

    one-side' : (m k d n : ℤ) → m *ℤ k *ℤ (n *ℤ d) ≡ n *ℤ k *ℤ (m *ℤ d)
    one-side' m k d n = simp ring

    other' : (x d k e : ℤ) → x *ℤ d *ℤ (k *ℤ e) ≡ e *ℤ d *ℤ (k *ℤ x)
    other' x d k e = simp ring

    scaled : m * k * gap (f.num *ℤ pos g.den) (g.num *ℤ pos f.den) ≡ f.den * g.den * gap (pos k *ℤ x) (pos m *ℤ y)
    scaled = sym (gap-* (m * k) (f.num *ℤ pos g.den) (g.num *ℤ pos f.den))
        ∙ ap₂ gap
        (one_side (pos m) (pos k) (pos g.den) f.num ∙ ap (λ z. z *ℤ (pos k *ℤ pos g.den)) h.same ∙ other x (pos f.den) (pos k) (pos g.den))
        (one-side' (pos m) (pos k) (pos f.den) g.num ∙ ap (λ z. z *ℤ (pos m *ℤ pos f.den)) j.same ∙ other' y (pos g.den) (pos m) (pos f.den))
        ∙ gap-* (f.den * g.den) (pos k *ℤ x) (pos m *ℤ y)

    bound : (G g0 : ℕ) → m * k * G ≡ f.den * g.den * g0 → 2 * g0 ≤ A * (m * k) → m * k * (2 * G) ≤ m * k * (A * (f.den * g.den))
    bound G g0 e l = omega (arith, mul-le-mul_left (f.den * g.den) l)

-- a fraction from 0 to 1 as a share
pub record Shared (t : Fraction) : Type 0 where
  pub share : Share
  pub is : Is t (pos share.part) (both share)
  pub some : 0 < both share

pub shared : (t : Fraction) → Unit01 t → Shared t
shared t u = go t.num refl
  where
    go : (z : ℤ) → t.num ≡ z → Shared t
    go (pos k) e =
        let l : k ≤ t.den = omega (arith, ints, u.high, e) in
        let d : t.den - k + k ≡ t.den = omega arith in
        record { share = record { rest = t.den - k; part = k }; is = is-as e (sym d) (is-own t); some = omega (arith, t.positive) }
    go (negsuc k) e = absurd (omega (arith, ints, u.low, e))

chord-is : (Q : List ℤ) (n : ℕ) (t : Fraction) (u : Share) → degree Q ≡ n → Is t (pos u.part) (both u) → Is (chord Q t) (blend u.rest u.part (at Q 0) (at Q n)) (both u)
unfolding chord
chord-is Q n t u e h =
    subst (λ k. Is (chord Q t) (blend u.rest u.part (at Q 0) (at Q k)) (both u)) e
    (is_sum ((whole (pos 1) ⊖ t) ⊗ whole (at Q 0)) (t ⊗ whole (at Q (degree Q))) (pos u.rest *ℤ at Q 0) (pos u.part *ℤ at Q (degree Q)) (both u)
    (is-as refl (omega arith) (is-product (whole (pos 1) ⊖ t) (whole (at Q 0)) (pos u.rest) (at Q 0) (both u) 1 (is-rest t u.rest u.part h) (is-own (whole (at Q 0)))))
    (is-as refl (omega arith) (is-product t (whole (at Q (degree Q))) (pos u.part) (at Q (degree Q)) (both u) 1 h (is-own (whole (at Q (degree Q)))))))

pub chord-holds : (D : List Fraction) (n a q : ℕ) (Q : List ℤ) (g : Share → Share) (h : Holds D n a Q g) (t f : Fraction) (s : Shared t) → 0 < n → Flat q Q → Is f (pos (g s.share).part) (both (g s.share)) → HalfApart (2 * q + a) (chord Q t) (exact D f)
chord-holds D n a q Q g h t f s z flat k =
    let e : degree Q ≡ n = ap pred h.count in
    half-apart (2 * q + a) (both s.share) (h.over * both s.share ^ n) (blend s.share.rest s.share.part (at Q 0) (at Q n)) (C s.share.rest s.share.part n h.tops) (chord Q t) (exact D f)
    s.some (mul-pos h.positive (one-le-pow n (both s.share) s.some))
    (chord-is Q n t s.share e s.is) (h.curve s.share f k)
    (chord-close s.share.rest s.share.part n q a h.over (at Q) h.tops z h.near
    (subst (λ k. (i : ℕ) → i ≤ k → gap (pos k *ℤ at Q i) (blend (k - i) i (at Q 0) (at Q k)) ≤ k * q) e flat))
