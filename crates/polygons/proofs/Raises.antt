-- Degree elevation in place, from the top down.
use Rattle.std.proofs.Common.{◌≡◌, ℕ, zero, suc, ◌+◌, ◌-◌, ◌<◌, ◌≤◌, ◌≢◌, List, map, length, get_or, take, set, sym, ap, ◌∙◌, subst, ⊎_elim, sub-one, arith}
use Rattle.std.proofs.lemmas.List.{get_or-take, length-take-le, length-map, take-map}
use Rattle.std.proofs.lemmas.Bool.{cases_eq}
use Rattle.exact.proofs.Lists.{length-raise, raise-first, raise-inner, raise-last}
use Rattle.points.specs.Points.{Point, origin, mix_point}
use Rattle.polygons.specs.Constructions.{raised}
use Rattle.polygons.proofs.Writes.{write_same, write-other, read_is}
use Rattle.polygons.proofs.Levels.{at, same_points}

-- what stands in qs from r up to m is mixed of two neighbours in ps, the rest is as in ps
pub record FromTop (f : ℕ → Point → Point → Point) (ps qs : List Point) (r m : ℕ) : Type 0 where
  pub below : (k : ℕ) → k < r → at qs k ≡ at ps k
  pub mixes : (k : ℕ) → r ≤ k → k < m → at qs k ≡ f k (at ps (k - 1)) (at ps k)
  pub above : (k : ℕ) → m ≤ k → at qs k ≡ at ps k

-- point k of a raised polygon, d being the new degree, a and b the points k − 1 and k
abbrev pub raising : ℕ → ℕ → Point → Point → Point
raising d k a b = mix_point k d b a

module _ {X : Type 0} (c : X → Point) (g : ℕ → Point → Point → Point) (m : ℕ) (ps : List Point) (xs : List X) (j : ℕ) (x a b : X) where
  -- one step down
  pub top-more : (i : ℕ) → i ≡ j + 1 → i ≤ length xs → j < m → FromTop g ps (map c xs) i m → c a ≡ get_or (map c xs) (j - 1) origin → c b ≡ get_or (map c xs) j origin → c x ≡ g j (c a) (c b) → FromTop g ps (map c (set xs j x)) j m
  top-more i ei h h1 inv ea eb ex = record {
    below = λ k l. write-other c xs j k x (omega arith) ∙ inv.below k (omega arith);
    mixes = λ k l m'. ⊎_elim
        (λ (e : k ≡ j). subst (λ i. get_or (map c (set xs j x)) i origin ≡ g i (get_or ps (i - 1) origin) (get_or ps i origin)) (sym e) (write_same c xs j x (omega arith) ∙ ex ∙ ap (λ u. g j u (c b)) (ea ∙ inv.below (j - 1) (omega arith)) ∙ ap (g j (get_or ps (j - 1) origin)) (eb ∙ inv.below j (omega arith))))
        (λ (n : k ≢ j). write-other c xs j k x n ∙ inv.mixes k (apart k j i l n ei) m')
        (cases_eq k j);
    above = λ k l. write-other c xs j k x (omega arith) ∙ inv.above k l;
  }
    where
      apart : (k j i : ℕ) → j ≤ k → k ≢ j → i ≡ j + 1 → i ≤ k
      apart k j i l n e = omega arith

at-raised : (ps : List Point) (k : ℕ) → 1 ≤ k → k < length ps → at (raised ps) k ≡ mix_point k (length ps) (at ps k) (at ps (k - 1))
at-raised ps zero h l = absurd (omega arith)
at-raised ps (suc k) h l = raise-inner (λ i. mix_point i (length ps)) ps k origin l ∙ ap (λ n. mix_point (suc k) (length ps) (at ps (suc k)) (at ps n)) (omega arith)

at-raised-last : (ps : List Point) → 1 ≤ length ps → at (raised ps) (length ps) ≡ at ps (length ps - 1)
at-raised-last ps h = raise-last (λ i. mix_point i (length ps)) ps origin h ∙ ap (at ps) (sym (sub-one (length ps)))

-- in place: xs is the buffer, with its last place d written by the last point y, and then mixed from the top down
pub raised_all : {X : Type 0} (c : X → Point) (xs : List X) (y : X) (d i : ℕ) (qs : List Point)
    → length xs ≡ d + 1 → 1 ≤ d → length qs ≡ d + 1 → y ≡ get_or xs (d - 1) y → i ≡ 1
    → FromTop (raising d) (map c (set xs d y)) qs i d → qs ≡ raised (map c (take d xs))
raised_all c xs y d i qs el h eq ey ei inv = same_points qs (raised (map c (take d xs))) (eq ∙ sym (length-raise (λ i. mix_point i (length (map c (take d xs)))) (map c (take d xs)) (omega (arith, lp)) ∙ omega (arith, lp))) point
  where
    lp : length (map c (take d xs)) ≡ d
    lp = length-map (take d xs) c ∙ length-take-le d xs (omega arith)

    was : (k : ℕ) → k < d → at (map c xs) k ≡ at (map c (take d xs)) k
    was k l = sym (ap (λ zs. at zs k) (sym (take-map c d xs)) ∙ get_or-take d (map c xs) k origin l)

    kept : (k : ℕ) → k < d → at (map c (set xs d y)) k ≡ at (map c (take d xs)) k
    kept k l = write-other c xs d k y (omega arith) ∙ was k l

    top : at (map c (set xs d y)) d ≡ at (map c (take d xs)) (d - 1)
    top = write_same c xs d y (omega arith) ∙ read_is c xs (d - 1) y (omega arith) ey ∙ was (d - 1) (omega arith)

    middle : (k : ℕ) → 1 ≤ k → k < d → at qs k ≡ at (raised (map c (take d xs))) k
    middle k l m = inv.mixes k (omega arith) m ∙ ap (λ p. mix_point k d p (at (map c (set xs d y)) (k - 1))) (kept k m) ∙ ap (mix_point k d (at (map c (take d xs)) k)) (kept (k - 1) (omega arith)) ∙ ap (λ n. mix_point k n (at (map c (take d xs)) k) (at (map c (take d xs)) (k - 1))) (sym lp) ∙ sym (at-raised (map c (take d xs)) k l (omega (arith, lp)))

    point : (k : ℕ) → k < length qs → at qs k ≡ at (raised (map c (take d xs))) k
    point k l = ⊎_elim
        (λ (e : k ≡ 0). subst (λ n. at qs n ≡ at (raised (map c (take d xs))) n) (sym e) (inv.below 0 (omega arith) ∙ kept 0 (omega arith) ∙ sym (raise-first (λ i. mix_point i (length (map c (take d xs)))) (map c (take d xs)) origin)))
        (λ (n : k ≢ 0). ⊎_elim
        (λ (e : k ≡ d). subst (λ n. at qs n ≡ at (raised (map c (take d xs))) n) (sym e) (inv.above d (omega arith) ∙ top ∙ sym (subst (λ n. at (raised (map c (take d xs))) n ≡ at (map c (take d xs)) (n - 1)) lp (at-raised-last (map c (take d xs)) (omega (arith, lp))))))
        (λ (o : k ≢ d). middle k (positive k n) (within k l o))
        (cases_eq k d))
        (cases_eq k 0)
      where
        positive : (k : ℕ) → k ≢ 0 → 1 ≤ k
        positive k n = omega arith

        within : (k : ℕ) → k < length qs → k ≢ d → k < d
        within k l o = omega arith
