-- Fractions as whole numbers over a denominator of one's own choice, and the exact curve so.
use Rattle.std.proofs.Common.{◌≡◌, ℕ, zero, suc, ◌+◌, ◌-◌, ◌*◌, ◌^◌, ◌<◌, ◌≤◌, List, [], ◌∷◌, length, ℤ, pos, ◌+ℤ◌, ◌-ℤ◌, ◌*ℤ◌, neg_ℤ, sym, refl, ap, ◌∙◌, ap₂, subst₂, mul-le-mul_left, mul-pos, pow-suc, arith, pow-add}
use native.Mathlib.Nat.{pow-zero, le_of_mul-le-mul_left}
use borrow.Author.Differences.{ints}
use lib.IntN.{*ℤ_comm, +ℤ-neg_ℤ_cancel}
use Rattle.exact.specs.Sums.{choose, sum_to}
use Rattle.exact.specs.Fractions.{Fraction, whole, ◌⊕◌, ◌⊖◌, ◌⊗◌, power, WithinHalf}
use Rattle.exact.specs.Polygon.{degree}
use Rattle.exact.specs.Curve.{control, exact}
use Rattle.exact.proofs.Ring.{ring, gap, gap-*, *ℤ-assoc, *ℤ-distrib-r, *ℤ-neg, *ℤ-left-comm}
use Rattle.exact.proofs.Curve.{C}
use Rattle.exact.proofs.Bernstein.{H-is, weight}
use Rattle.exact.proofs.Near.{Close}

-- f is x / M
pub record Is (f : Fraction) (x : ℤ) (M : ℕ) : Type 0 where
  pub same : f.num *ℤ pos M ≡ x *ℤ pos f.den

pub is-own : (f : Fraction) → Is f f.num f.den
is-own f = record { same = refl }

pub is-scale : (k : ℕ) (f : Fraction) (x : ℤ) (M : ℕ) → Is f x M → Is f (pos k *ℤ x) (k * M)
is-scale k f x M h = record { same = out (pos k) f.num (pos M) x (pos f.den) h.same }
  where
    out : (k n m x d : ℤ) → n *ℤ m ≡ x *ℤ d → n *ℤ (k *ℤ m) ≡ k *ℤ x *ℤ d
    out k n m x d e = *ℤ-left-comm n k m ∙ ap (λ y. k *ℤ y) e ∙ sym (*ℤ-assoc k x d)

pub is_sum : (f g : Fraction) (x y : ℤ) (M : ℕ) → Is f x M → Is g y M → Is (f ⊕ g) (x +ℤ y) M
is_sum f g x y M h k = record { same = out f.num (pos f.den) g.num (pos g.den) (pos M) x y h.same k.same }
  where
    out : (a b c d m x y : ℤ) → a *ℤ m ≡ x *ℤ b → c *ℤ m ≡ y *ℤ d → (a *ℤ d +ℤ c *ℤ b) *ℤ m ≡ (x +ℤ y) *ℤ (b *ℤ d)
    out a b c d m x y e f = pull a b c d m ∙ ap₂ (λ u v. u *ℤ d +ℤ v *ℤ b) e f ∙ simp ring
      where
        pull : (a b c d m : ℤ) → (a *ℤ d +ℤ c *ℤ b) *ℤ m ≡ a *ℤ m *ℤ d +ℤ c *ℤ m *ℤ b
        pull a b c d m = simp ring

pub is-product : (f g : Fraction) (x y : ℤ) (M N : ℕ) → Is f x M → Is g y N → Is (f ⊗ g) (x *ℤ y) (M * N)
is-product f g x y M N h k = record { same = out f.num (pos f.den) g.num (pos g.den) (pos M) (pos N) x y h.same k.same }
  where
    pull : (a c m n : ℤ) → a *ℤ c *ℤ (m *ℤ n) ≡ a *ℤ m *ℤ (c *ℤ n)
    pull a c m n = simp ring

    out : (a b c d m n x y : ℤ) → a *ℤ m ≡ x *ℤ b → c *ℤ n ≡ y *ℤ d → a *ℤ c *ℤ (m *ℤ n) ≡ x *ℤ y *ℤ (b *ℤ d)
    out a b c d m n x y e f = pull a c m n ∙ ap₂ ◌*ℤ◌ e f ∙ sym (pull x y b d)

pub is-power : (f : Fraction) (x M k : ℕ) → Is f (pos x) M → Is (power f k) (pos (x ^ k)) (M ^ k)
is-power f x M zero h = rw (pow-zero x, pow-zero M) (record { same = refl })
is-power f x M (suc k) h = rw (pow-suc x k, pow-suc M k) (is-product (power f k) f (pos (x ^ k)) (pos x) (M ^ k) M (is-power f x M k h) h)

pub is-rest : (f : Fraction) (s t : ℕ) → Is f (pos t) (s + t) → Is (whole (pos 1) ⊖ f) (pos s) (s + t)
is-rest f s t h = record { same = rw (one-mul f.den, mul-one f.num) (out (pos f.den) f.num (pos s) (pos t) h.same) }
  where
    one-mul : (d : ℕ) → 1 * d ≡ d
    one-mul d = omega arith

    mul-one : (n : ℤ) → n *ℤ pos 1 ≡ n
    mul-one n = omega (arith, ints)

    both : (d s t : ℤ) → d *ℤ (s +ℤ t) ≡ s *ℤ d +ℤ t *ℤ d
    both d s t = simp ring

    out : (d n s t : ℤ) → n *ℤ (s +ℤ t) ≡ t *ℤ d → (d -ℤ n) *ℤ (s +ℤ t) ≡ s *ℤ d
    out d n s t e =
        *ℤ-distrib-r d (neg_ℤ n) (s +ℤ t)
        ∙ ap₂ ◌+ℤ◌ (both d s t) (*ℤ_comm (neg_ℤ n) (s +ℤ t) ∙ *ℤ-neg (s +ℤ t) n ∙ ap neg_ℤ (*ℤ_comm (s +ℤ t) n ∙ e))
        ∙ +ℤ-neg_ℤ_cancel (s *ℤ d) (t *ℤ d)

pub is-as : {f : Fraction} {x y : ℤ} {M N : ℕ} → x ≡ y → M ≡ N → Is f x M → Is f y N
is-as {f} e g = subst₂ (λ x M. Is f x M) e g

-- the exact point, by the homogeneous sum
pub exact-is : (D : List Fraction) (M : ℕ) (X : ℕ → ℤ) (s t : ℕ) (u : Fraction) → ((i : ℕ) → i ≤ degree D → Is (control D i) (X i) M) → Is u (pos t) (s + t) → Is (exact D u) (C s t (degree D) X) (M * (s + t) ^ degree D)
unfolding exact
exact-is D M X s t u h k = is-as (H-is s t (degree D) X) refl (sums (degree D) (λ i l. l))
  where
    term : ℕ → Fraction
    term i = whole (pos (choose (degree D) i)) ⊗ power (whole (pos 1) ⊖ u) (degree D - i) ⊗ power u i ⊗ control D i

    powers : (i j : ℕ) → j + i ≡ degree D → 1 * (s + t) ^ j * (s + t) ^ i * M ≡ M * (s + t) ^ degree D
    powers i j e = sym (rw (sym e, pow-add (s + t) j i) (omega arith))

    part : (i : ℕ) → i ≤ degree D → Is (term i) (pos (weight s t (degree D) i) *ℤ X i) (M * (s + t) ^ degree D)
    part i l = is-as refl (powers i (degree D - i) (omega arith))
        (is-product _ (control D i) (pos (weight s t (degree D) i)) (X i) (1 * (s + t) ^ (degree D - i) * (s + t) ^ i) M
        (is-product _ (power u i) (pos (choose (degree D) i * s ^ (degree D - i))) (pos (t ^ i)) (1 * (s + t) ^ (degree D - i)) ((s + t) ^ i)
        (is-product (whole (pos (choose (degree D) i))) (power (whole (pos 1) ⊖ u) (degree D - i)) (pos (choose (degree D) i)) (pos (s ^ (degree D - i))) 1 ((s + t) ^ (degree D - i)) (record { same = refl }) (is-power (whole (pos 1) ⊖ u) s (s + t) (degree D - i) (is-rest u s t k)))
        (is-power u t (s + t) i k))
        (h i l))

    sums : (n : ℕ) → ((i : ℕ) → i ≤ n → i ≤ degree D) → Is (sum_to ◌⊕◌ n term) (sum_to ◌+ℤ◌ n (λ i. pos (weight s t (degree D) i) *ℤ X i)) (M * (s + t) ^ degree D)
    sums zero l = part 0 (omega arith)
    sums (suc n) l = is_sum _ _ _ _ _ (sums n (λ i q. l i (omega arith))) (part (suc n) (l (suc n) (omega arith)))

-- near in one form is near in the other
close-move : (A M d : ℕ) (p x n : ℤ) → 0 < M → n *ℤ pos M ≡ x *ℤ pos d → Close A M p x → Close A d p n
close-move A M d p x n z e c = le_of_mul-le-mul_left {k = M} (bound (gap (pos d *ℤ p) n) (gap (pos M *ℤ p) x) both c) z
  where
    both : M * gap (pos d *ℤ p) n ≡ d * gap (pos M *ℤ p) x
    both = sym (gap-* M (pos d *ℤ p) n) ∙ ap₂ gap (*ℤ-left-comm (pos M) (pos d) p) (*ℤ_comm (pos M) n ∙ e ∙ *ℤ_comm x (pos d)) ∙ gap-* d (pos M *ℤ p) x

    bound : (g h : ℕ) → M * g ≡ d * h → 2 * h ≤ A * M → M * (2 * g) ≤ M * (A * d)
    bound g h q l = omega (arith, mul-le-mul_left d l)

pub close-out : (A M : ℕ) (p x : ℤ) (f : Fraction) → 0 < M → Is f x M → Close A M p x → WithinHalf A p f
close-out A M p x f z h c = record { half = close-move A M f.den p x f.num z h.same c }

pub close-in : (A M : ℕ) (p x : ℤ) (f : Fraction) → Is f x M → WithinHalf A p f → Close A M p x
close-in A M p x f h c = close-move A f.den M p f.num x f.positive (sym h.same) c.half

-- a common denominator
abbrev before : ℤ → (ℕ → ℤ) → ℕ → ℤ
before x f zero = x
before x f (suc i) = f i

pub record Common (D : List Fraction) : Type 0 where
  pub over : ℕ
  pub positive : 0 < over
  pub tops : ℕ → ℤ
  pub each : (i : ℕ) → i < length D → Is (control D i) (tops i) over

pub common : (D : List Fraction) → Common D
common [] = record { over = 1; positive = omega arith; tops = λ _. pos 0; each = λ i h. absurd (omega arith) }
common (f ∷ D) =
    let c : Common D = common D in
    record {
      over = f.den * c.over;
      positive = mul-pos f.positive c.positive;
      tops = before (pos c.over *ℤ f.num) (λ i. pos f.den *ℤ c.tops i);
      each = cases f D c;
    }
  where
    cases : (f : Fraction) (D : List Fraction) (c : Common D) (i : ℕ) → i < length (f ∷ D) → Is (control (f ∷ D) i) (before (pos c.over *ℤ f.num) (λ j. pos f.den *ℤ c.tops j) i) (f.den * c.over)
    cases f D c zero h = is-as refl (omega arith) (is-scale c.over f f.num f.den (is-own f))
    cases f D c (suc i) h = is-scale f.den (control D i) (c.tops i) c.over (c.each i (omega arith))
