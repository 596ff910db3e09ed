-- The exact curve of whole control values, homogeneous: its parameter is s : t, that is t/(s+t), and its value is the point's times (s+t)^n.
use Rattle.std.proofs.Common.{◌≡◌, ℕ, zero, suc, pred, ◌+◌, ◌-◌, ◌*◌, ◌^◌, ◌≤◌, ℤ, pos, ◌+ℤ◌, ◌*ℤ◌, sym, refl, ap, ◌∙◌, ap₂, arith}
use native.Mathlib.Nat.{pow-zero, pow-succ'}
use borrow.Author.Differences.{ints}
use lib.IntN.{zero-*ℤ, +ℤ_comm, +ℤ_idl, +ℤ_idr, +ℤ_assoc}
use Rattle.exact.specs.Mixing.{blend}
use Rattle.exact.specs.Polygon.{level_at}
use Rattle.exact.proofs.Ring.{ring, *ℤ-assoc}

pub one-* : (x : ℤ) → pos 1 *ℤ x ≡ x
one-* x = omega (arith, ints)

pub next-* : (k : ℕ) (x : ℤ) → pos (suc k) *ℤ x ≡ pos k *ℤ x +ℤ x
next-* k x = omega (arith, ints)

swap-last : (a b c : ℤ) → a +ℤ b +ℤ c ≡ a +ℤ c +ℤ b
swap-last a b c = omega (arith, ints)

abbrev pub C : ℕ → ℕ → ℕ → (ℕ → ℤ) → ℤ
C s t zero X = X 0
C s t (suc n) X = blend s t (C s t n X) (C s t n (λ i. X (suc i)))

-- s·(u·a + v·b) + t·(u·c + v·d)
swap-blend : (s t u v a b c d : ℤ) → s *ℤ (u *ℤ a +ℤ v *ℤ b) +ℤ t *ℤ (u *ℤ c +ℤ v *ℤ d) ≡ u *ℤ (s *ℤ a +ℤ t *ℤ c) +ℤ v *ℤ (s *ℤ b +ℤ t *ℤ d)
swap-blend s t u v a b c d = simp ring

module _ (s t : ℕ) where
  pub C-cong : (n : ℕ) (X Y : ℕ → ℤ) → ((i : ℕ) → i ≤ n → X i ≡ Y i) → C s t n X ≡ C s t n Y
  C-cong zero X Y h = h 0 (omega arith)
  C-cong (suc n) X Y h = ap₂ (blend s t) (C-cong n X Y (λ i k. h i (omega arith))) (C-cong n (λ i. X (suc i)) (λ i. Y (suc i)) (λ i k. h (suc i) (omega arith)))

  pub C-blend : (u v : ℕ) (n : ℕ) (X Y : ℕ → ℤ) → C s t n (λ i. blend u v (X i) (Y i)) ≡ blend u v (C s t n X) (C s t n Y)
  C-blend u v zero X Y = refl
  C-blend u v (suc n) X Y =
      ap₂ (blend s t) (C-blend u v n X Y) (C-blend u v n (λ i. X (suc i)) (λ i. Y (suc i)))
      ∙ swap-blend (pos s) (pos t) (pos u) (pos v) (C s t n X) (C s t n Y) (C s t n (λ i. X (suc i))) (C s t n (λ i. Y (suc i)))

  pub C-scale : (k : ℕ) (n : ℕ) (X : ℕ → ℤ) → C s t n (λ i. pos k *ℤ X i) ≡ pos k *ℤ C s t n X
  C-scale k zero X = refl
  C-scale k (suc n) X = ap₂ (blend s t) (C-scale k n X) (C-scale k n (λ i. X (suc i))) ∙ simp ring

  pub C-sum : (n : ℕ) (X Y : ℕ → ℤ) → C s t n (λ i. X i +ℤ Y i) ≡ C s t n X +ℤ C s t n Y
  C-sum zero X Y = refl
  C-sum (suc n) X Y = ap₂ (blend s t) (C-sum n X Y) (C-sum n (λ i. X (suc i)) (λ i. Y (suc i))) ∙ simp ring

-- the levels of the points from the second on
pub level-shift : {A : Type 0} (m : A → A → A) (P : ℕ → A) (r i : ℕ) → level_at m (λ j. P (suc j)) r i ≡ level_at m P r (suc i)
level-shift m P zero i = refl
level-shift m P (suc r) i = ap₂ m (level-shift m P r i) (level-shift m P r (suc i))

pub C-is : (s t n : ℕ) (X : ℕ → ℤ) → level_at (blend s t) X n 0 ≡ C s t n X
C-is s t zero X = refl
C-is s t (suc n) X = ap₂ (blend s t) (C-is s t n X) (sym (level-shift (blend s t) X n 0) ∙ C-is s t n (λ i. X (suc i)))

pow-less : (b n i : ℕ) → i ≤ n → b ^ (suc n - i) ≡ b * b ^ (n - i)
pow-less b n i h = ap (λ j. b ^ j) (omega arith) ∙ pow-succ' b (n - i)

spread : (k u v x y : ℤ) → k *ℤ (u *ℤ x +ℤ v *ℤ y) ≡ u *ℤ (k *ℤ x) +ℤ v *ℤ (k *ℤ y)
spread k u v x y = simp ring

-- the left and the right part at σ : τ, both times (σ+τ)^n, the raised points times n + 1, and the points turned round
abbrev pub left_x : ℕ → ℕ → ℕ → (ℕ → ℤ) → ℕ → ℤ
left_x σ τ n X i = pos ((σ + τ) ^ (n - i)) *ℤ level_at (blend σ τ) X i 0

abbrev pub right_x : ℕ → ℕ → ℕ → (ℕ → ℤ) → ℕ → ℤ
right_x σ τ n X i = pos ((σ + τ) ^ i) *ℤ level_at (blend σ τ) X (n - i) i

abbrev pub raise_x : ℕ → (ℕ → ℤ) → ℕ → ℤ
raise_x n X i = blend (suc n - i) i (X i) (X (pred i))

abbrev pub turn_x : ℕ → (ℕ → ℤ) → ℕ → ℤ
turn_x n X i = X (n - i)

module _ (σ τ s t : ℕ) where
  pow-one : (x : ℤ) → pos ((σ + τ) ^ 0) *ℤ x ≡ x
  pow-one x = ap (λ k. pos k *ℤ x) (pow-zero (σ + τ)) ∙ one-* x

  join-left : (b s σ t τ U V : ℤ) → s *ℤ (b *ℤ U) +ℤ t *ℤ (σ *ℤ U +ℤ τ *ℤ V) ≡ (b *ℤ s +ℤ σ *ℤ t) *ℤ U +ℤ (τ *ℤ t) *ℤ V
  join-left b s σ t τ U V = simp ring

  join-right : (b s σ t τ U V : ℤ) → s *ℤ (σ *ℤ U +ℤ τ *ℤ V) +ℤ t *ℤ (b *ℤ V) ≡ (σ *ℤ s) *ℤ U +ℤ (τ *ℤ s +ℤ b *ℤ t) *ℤ V
  join-right b s σ t τ U V = simp ring

  -- the curve of the left part, at s : t, is the curve where (τ/(σ+τ))·(t/(s+t)) is
  pub C-left : (n : ℕ) (X : ℕ → ℤ) → C s t n (left_x σ τ n X) ≡ C ((σ + τ) * s + σ * t) (τ * t) n X
  C-left zero X = pow-one (X 0)
  C-left (suc n) X =
      ap₂ (blend s t)
      (C-cong s t n _ (λ i. pos (σ + τ) *ℤ left_x σ τ n X i) (λ i h. ap (λ k. pos k *ℤ level_at (blend σ τ) X i 0) (pow-less (σ + τ) n i h) ∙ *ℤ-assoc (pos (σ + τ)) (pos ((σ + τ) ^ (n - i))) (level_at (blend σ τ) X i 0))
      ∙ C-scale s t (σ + τ) n (left_x σ τ n X) ∙ ap (λ x. pos (σ + τ) *ℤ x) (C-left n X))
      (C-cong s t n _ (λ i. blend σ τ (left_x σ τ n X i) (left_x σ τ n (λ j. X (suc j)) i)) (λ i h. ap₂ (λ k x. pos ((σ + τ) ^ k) *ℤ (pos σ *ℤ level_at (blend σ τ) X i 0 +ℤ pos τ *ℤ x)) (omega arith) (sym (level-shift (blend σ τ) X i 0)) ∙ spread (pos ((σ + τ) ^ (n - i))) (pos σ) (pos τ) (level_at (blend σ τ) X i 0) (level_at (blend σ τ) (λ j. X (suc j)) i 0))
      ∙ C-blend s t σ τ n (left_x σ τ n X) (left_x σ τ n (λ j. X (suc j))) ∙ ap₂ (blend σ τ) (C-left n X) (C-left n (λ j. X (suc j))))
      ∙ join-left (pos (σ + τ)) (pos s) (pos σ) (pos t) (pos τ) (C ((σ + τ) * s + σ * t) (τ * t) n X) (C ((σ + τ) * s + σ * t) (τ * t) n (λ j. X (suc j)))

  pub C-right : (n : ℕ) (X : ℕ → ℤ) → C s t n (right_x σ τ n X) ≡ C (σ * s) (τ * s + (σ + τ) * t) n X
  C-right zero X = pow-one (X 0)
  C-right (suc n) X =
      ap₂ (blend s t)
      (C-cong s t n _ (λ i. blend σ τ (right_x σ τ n X i) (right_x σ τ n (λ j. X (suc j)) i)) (λ i h. up i (n - i) (omega arith))
      ∙ C-blend s t σ τ n (right_x σ τ n X) (right_x σ τ n (λ j. X (suc j))) ∙ ap₂ (blend σ τ) (C-right n X) (C-right n (λ j. X (suc j))))
      (C-cong s t n _ (λ i. pos (σ + τ) *ℤ right_x σ τ n (λ j. X (suc j)) i) (λ i h. over i (n - i) (omega arith))
      ∙ C-scale s t (σ + τ) n (right_x σ τ n (λ j. X (suc j))) ∙ ap (λ x. pos (σ + τ) *ℤ x) (C-right n (λ j. X (suc j))))
      ∙ join-right (pos (σ + τ)) (pos s) (pos σ) (pos t) (pos τ) (C (σ * s) (τ * s + (σ + τ) * t) n X) (C (σ * s) (τ * s + (σ + τ) * t) n (λ j. X (suc j)))
    where
      up : (i r : ℕ) → suc n - i ≡ suc r → pos ((σ + τ) ^ i) *ℤ level_at (blend σ τ) X (suc n - i) i ≡ blend σ τ (pos ((σ + τ) ^ i) *ℤ level_at (blend σ τ) X r i) (pos ((σ + τ) ^ i) *ℤ level_at (blend σ τ) (λ j. X (suc j)) r i)
      up i r e = rw (e, level-shift (blend σ τ) X r i) (spread (pos ((σ + τ) ^ i)) (pos σ) (pos τ) (level_at (blend σ τ) X r i) (level_at (blend σ τ) X r (suc i)))

      over : (i r : ℕ) → suc n - suc i ≡ r → pos ((σ + τ) ^ suc i) *ℤ level_at (blend σ τ) X (suc n - suc i) (suc i) ≡ pos (σ + τ) *ℤ (pos ((σ + τ) ^ i) *ℤ level_at (blend σ τ) (λ j. X (suc j)) r i)
      over i r e = rw (e, level-shift (blend σ τ) X r i, pow-succ' (σ + τ) i) (*ℤ-assoc (pos (σ + τ)) (pos ((σ + τ) ^ i)) (level_at (blend σ τ) X r (suc i)))

module _ (s t : ℕ) where
  pub C-turn : (n : ℕ) (X : ℕ → ℤ) → C s t n (turn_x n X) ≡ C t s n X
  C-turn zero X = refl
  C-turn (suc n) X =
      ap₂ (blend s t)
      (C-cong s t n _ (turn_x n (λ j. X (suc j))) (λ i h. ap X (omega arith)) ∙ C-turn n (λ j. X (suc j)))
      (C-cong s t n _ (turn_x n X) (λ i h. ap X (omega arith)) ∙ C-turn n X)
      ∙ +ℤ_comm (pos s *ℤ C t s n (λ j. X (suc j))) (pos t *ℤ C t s n X)

  pub C-raise : (n : ℕ) (X : ℕ → ℤ) → C s t (suc n) (raise_x n X) ≡ pos (suc n * (s + t)) *ℤ C s t n X
  C-raise zero X = first (pos s) (pos t) (X 0) (X 1) ∙ ap (λ k. pos k *ℤ X 0) (omega arith)
    where
      first : (s t x y : ℤ) → s *ℤ (pos 1 *ℤ x +ℤ pos 0 *ℤ x) +ℤ t *ℤ (pos 0 *ℤ y +ℤ pos 1 *ℤ x) ≡ (s +ℤ t) *ℤ x
      first s t x y = rw (one-* x, zero-*ℤ x, zero-*ℤ y, +ℤ_idl x, +ℤ_idr x) (simp ring)
  C-raise (suc n) X =
      ap₂ (blend s t)
      (C-cong s t (suc n) _ (λ i. raise_x n X i +ℤ X i) (λ i h. here i (suc n - i) (omega arith)) ∙ C-sum s t (suc n) (raise_x n X) X ∙ ap (λ x. x +ℤ C s t (suc n) X) (C-raise n X))
      (C-cong s t (suc n) _ (λ i. raise_x n (λ j. X (suc j)) i +ℤ X i) there ∙ C-sum s t (suc n) (raise_x n (λ j. X (suc j))) X ∙ ap (λ x. x +ℤ C s t (suc n) X) (C-raise n (λ j. X (suc j))))
      ∙ close (pos s) (pos t) (pos (suc n * (s + t))) (C s t n X) (C s t n (λ j. X (suc j)))
      ∙ ap (λ k. pos k *ℤ C s t (suc n) X) (omega arith)
    where
      close : (s t k U V : ℤ) → s *ℤ (k *ℤ U +ℤ (s *ℤ U +ℤ t *ℤ V)) +ℤ t *ℤ (k *ℤ V +ℤ (s *ℤ U +ℤ t *ℤ V)) ≡ (k +ℤ (s +ℤ t)) *ℤ (s *ℤ U +ℤ t *ℤ V)
      close s t k U V = simp ring

      here : (i r : ℕ) → suc (suc n) - i ≡ suc r → blend (suc (suc n) - i) i (X i) (X (pred i)) ≡ blend r i (X i) (X (pred i)) +ℤ X i
      here i r e = rw (e, next-* r (X i)) (swap-last (pos r *ℤ X i) (X i) (pos i *ℤ X (pred i)))

      there : (i : ℕ) → i ≤ suc n → blend (suc (suc n) - suc i) (suc i) (X (suc i)) (X i) ≡ blend (suc n - i) i (X (suc i)) (X (suc (pred i))) +ℤ X i
      there zero h = first (suc (suc n) - 1) (suc n - 0) (X 1) (X 0) (omega arith)
        where
          first : (a b : ℕ) (x y : ℤ) → a ≡ b → pos a *ℤ x +ℤ pos 1 *ℤ y ≡ pos b *ℤ x +ℤ pos 0 *ℤ x +ℤ y
          first a b x y e = rw e (omega (arith, ints))
      there (suc j) h = rw next-* (last (suc (suc n) - suc (suc j)) (suc n - suc j) (pos (suc j) *ℤ X (suc j)) (omega arith))
        where
          last : (a b : ℕ) (y : ℤ) → a ≡ b → pos a *ℤ X (suc (suc j)) +ℤ (y +ℤ X (suc j)) ≡ pos b *ℤ X (suc (suc j)) +ℤ y +ℤ X (suc j)
          last a b y e = rw e (sym (+ℤ_assoc (pos b *ℤ X (suc (suc j))) y (X (suc j))))
