-- The ring laws of ℤ that the library lacks, and `ring`, by which `simp` proves identities of sums and products.
use Rattle.std.proofs.Common.{◌≡◌, ℕ, ◌+◌, ◌*◌, ◌<◌, ◌≤◌, ℤ, pos, ◌+ℤ◌, ◌-ℤ◌, ◌*ℤ◌, neg_ℤ, nat_abs, ◌≤ℤ◌, ◌<ℤ◌, sym, refl, ap, ◌∙◌, mul-le-mul_left, arith}
use borrow.Author.Differences.{ints, up, down, sum_is_lem, product_is, same_in, neg_is}
use lib.IntN.{+ℤ_assoc, +ℤ_comm, *ℤ_comm}
use borrow.Author.Differences.{at_most_in, below_in, le_out, lt_out}
use native.Mathlib.Nat.{le_of_mul-le-mul_left}
use native.Mathlib.Decide.{dec_lt}
use Rattle.std.proofs.lemmas.Int.{unsigned_abs-mul}

up-* : (a b : ℤ) → up (a *ℤ b) ≡ up a * up b + down a * down b
up-* a b = (product_is a b).0

down-* : (a b : ℤ) → down (a *ℤ b) ≡ up a * down b + down a * up b
down-* a b = (product_is a b).1

pub +ℤ-left-comm : (a b c : ℤ) → a +ℤ (b +ℤ c) ≡ b +ℤ (a +ℤ c)
+ℤ-left-comm a b c = omega (arith, ints)

pub *ℤ-assoc : (a b c : ℤ) → (a *ℤ b) *ℤ c ≡ a *ℤ (b *ℤ c)
*ℤ-assoc a b c = same_in _ _ (simp (up-*, down-*) (omega arith))

pub *ℤ-distrib-l : (a b c : ℤ) → a *ℤ (b +ℤ c) ≡ a *ℤ b +ℤ a *ℤ c
*ℤ-distrib-l a b c =
    same_in _ _ (omega (arith, up-* a (b +ℤ c), down-* a (b +ℤ c), product_is a b, product_is a c, sum_is_lem (a *ℤ b) (a *ℤ c), ap (λ x. up a * x) (sum_is_lem b c), ap (λ x. down a * x) (sum_is_lem b c)))

pub *ℤ-distrib-r : (a b c : ℤ) → (a +ℤ b) *ℤ c ≡ a *ℤ c +ℤ b *ℤ c
*ℤ-distrib-r a b c = *ℤ_comm (a +ℤ b) c ∙ *ℤ-distrib-l c a b ∙ simp *ℤ_comm

pub *ℤ-left-comm : (a b c : ℤ) → a *ℤ (b *ℤ c) ≡ b *ℤ (a *ℤ c)
*ℤ-left-comm a b c = sym (*ℤ-assoc a b c) ∙ ap (λ (x : ℤ). x *ℤ c) (*ℤ_comm a b) ∙ *ℤ-assoc b a c

pub ruleset ring = (*ℤ-distrib-l, *ℤ-distrib-r, *ℤ-assoc, *ℤ_comm, *ℤ-left-comm, +ℤ_assoc, +ℤ_comm, +ℤ-left-comm)

-- a natural as a factor
pub pos-+ : (m n : ℕ) → pos (m + n) ≡ pos m +ℤ pos n
pos-+ m n = refl

pub pos-* : (m n : ℕ) → pos (m * n) ≡ pos m *ℤ pos n
pos-* m n = refl

-- the distance of two whole numbers
abbrev pub gap : ℤ → ℤ → ℕ
gap a b = nat_abs (a -ℤ b)

pub gap_same : (a : ℤ) → gap a a ≡ 0
gap_same a = omega (arith, ints)

pub gap-sym : (a b : ℤ) → gap a b ≡ gap b a
gap-sym a b = omega (arith, ints)

pub gap-triangle : (a b c : ℤ) → gap a c ≤ gap a b + gap b c
gap-triangle a b c = omega (arith, ints)

pub gap-sum : (a b c d : ℤ) → gap (a +ℤ b) (c +ℤ d) ≤ gap a c + gap b d
gap-sum a b c d = omega (arith, ints)

pub abs-pos-* : (k : ℕ) (a : ℤ) → nat_abs (pos k *ℤ a) ≡ k * nat_abs a
abs-pos-* k a = unsigned_abs-mul (pos k) a

pub *ℤ-neg : (a b : ℤ) → a *ℤ neg_ℤ b ≡ neg_ℤ (a *ℤ b)
*ℤ-neg a b = same_in _ _ (omega (arith, product_is a (neg_ℤ b), neg_is b, neg_is (a *ℤ b), product_is a b, ap (λ x. up a * x) (neg_is b).0, ap (λ x. up a * x) (neg_is b).1, ap (λ x. down a * x) (neg_is b).0, ap (λ x. down a * x) (neg_is b).1))

pub gap-* : (k : ℕ) (a b : ℤ) → gap (pos k *ℤ a) (pos k *ℤ b) ≡ k * gap a b
gap-* k a b = ap nat_abs (ap (λ x. pos k *ℤ a +ℤ x) (sym (*ℤ-neg (pos k) b)) ∙ sym (*ℤ-distrib-l (pos k) a (neg_ℤ b))) ∙ abs-pos-* k (a -ℤ b)

-- order under a natural factor
pub *ℤ-mono : (k : ℕ) (a b : ℤ) → a ≤ℤ b → (pos k *ℤ a) ≤ℤ (pos k *ℤ b)
*ℤ-mono k a b h = at_most_in _ _ (omega (arith, product_is (pos k) a, product_is (pos k) b, mul-le-mul_left k (le_out a b h)))

pub *ℤ-cancel : (k : ℕ) (a b : ℤ) → 0 < k → (pos k *ℤ a) ≤ℤ (pos k *ℤ b) → a ≤ℤ b
*ℤ-cancel k a b z h = at_most_in _ _ (le_of_mul-le-mul_left {k = k} (omega (arith, product_is (pos k) a, product_is (pos k) b, le_out _ _ h)) z)

pub *ℤ-cancel-lt : (k : ℕ) (a b : ℤ) → (pos k *ℤ a) <ℤ (pos k *ℤ b) → a <ℤ b
*ℤ-cancel-lt k a b h = below_in _ _ (lt-of-mul-lt-mul k (up a + down b) (up b + down a) (omega (arith, product_is (pos k) a, product_is (pos k) b, lt_out _ _ h)))
  where
    lt-of-mul-lt-mul : (k x y : ℕ) → k * x < k * y → x < y
    lt-of-mul-lt-mul k x y l = elim (dec_lt x y) [ yes h ↦ h | no n ↦ (let g : y ≤ x = omega arith in absurd (omega (arith, mul-le-mul_left k g))) ]

pub ≤ℤ-trans : (a b c : ℤ) → a ≤ℤ b → b ≤ℤ c → a ≤ℤ c
≤ℤ-trans a b c h k = omega (arith, ints)

pub ≤ℤ-antisym : (a b : ℤ) → a ≤ℤ b → b ≤ℤ a → a ≡ b
≤ℤ-antisym a b h k = omega (arith, ints)
