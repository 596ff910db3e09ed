-- The flat test as a test, from its answer and to each point and axis.
use Rattle.std.proofs.Common.{◌≡◌, ℕ, zero, suc, ◌<◌, ◌≤◌, Bool, true, false, not, ◌&&◌, List, map, length, Option, Some, None, is_some, pos, refl, ap, ◌∙◌, subst, ⊎_elim, arith}
use native.Mathlib.Decide.{dec_lt}
use Rattle.std.proofs.lemmas.Bool.{cases_lt, and_parts, and_right, not-true}
use Rattle.points.specs.Points.{Point}
use Rattle.polygons.specs.declared.flatness.Off.{Off}
use Rattle.polygons.specs.Flatness.{off_at, FirstOff}
use Rattle.polygons.proofs.Offs.{off-lacking}
use Rattle.flattening.specs.Flat.{all_below, flat?}

all_from : (n : ℕ) (f : ℕ → Bool) → ((i : ℕ) → i < n → f i ≡ true) → all_below n f ≡ true
unfolding all_below
all_from zero f h = refl
all_from (suc n) f h = ap (λ b. b && f n) (all_from n f (λ i l. h i (omega arith))) ∙ h n (omega arith)

not-all : (n : ℕ) (f : ℕ → Bool) (i : ℕ) → i < n → f i ≡ false → all_below n f ≡ false
unfolding all_below
not-all zero f i l e = absurd (omega arith)
not-all (suc n) f i l e = elim (dec_lt i n) [
  | yes k ↦ ap (λ b. b && f n) (not-all n f i k e)
  | no k ↦ (let z : i ≡ n = omega arith in and_right (all_below n f) (f n) (subst (λ j. f j ≡ false) z e))
]

module _ {X : Type 0} (c : X → Point) (width : ℕ) (lacks : (x : X) (a : ℕ) → width ≤ a → c x a ≡ pos 0) (tol : ℕ → ℕ) (xs : List X) where
  -- a polygon is flat just if the test finds no point that is off
  pub flat-when : (o : Option Off) → FirstOff (map c xs) tol o → flat? width tol (map c xs) ≡ not (is_some o)
  unfolding flat?
  flat-when None h = all_from (length (map c xs)) (λ i. all_below width (λ a. not (off_at (map c xs) tol i a))) (λ i l. all_from width (λ a. not (off_at (map c xs) tol i a)) (λ a _. ap not (h i l a)))
  flat-when (Some o) h =
      let below : o.axis < width = ⊎_elim (λ (l : o.axis < width). l) (λ (l : width ≤ o.axis). cc (off-lacking c width lacks xs tol o.point o.axis l, h.1)) (cases_lt o.axis width) in
      not-all (length (map c xs)) (λ i. all_below width (λ a. not (off_at (map c xs) tol i a))) o.point h.0 (not-all width (λ a. not (off_at (map c xs) tol o.point a)) o.axis below (ap not h.1))

all-below : (n : ℕ) (f : ℕ → Bool) → all_below n f ≡ true → (i : ℕ) → i < n → f i ≡ true
unfolding all_below
all-below zero f e i h = absurd (omega arith)
all-below (suc n) f e i h = elim (dec_lt i n) [
  | yes l ↦ all-below n f (and_parts (all_below n f) (f n) e).0 i l
  | no l ↦ (let z : n ≡ i = omega arith in subst (λ k. f k ≡ true) z (and_parts (all_below n f) (f n) e).1)
]

-- no point of a flat polygon is off
pub none-off : (width : ℕ) (tol : ℕ → ℕ) (ps : List Point) → flat? width tol ps ≡ true → (i a : ℕ) → i < length ps → a < width → off_at ps tol i a ≡ false
unfolding flat?
none-off width tol ps e i a h l = not-true (off_at ps tol i a) (all-below width (λ b. not (off_at ps tol i b)) (all-below (length ps) (λ i. all_below width (λ b. not (off_at ps tol i b))) e i h) a l)
