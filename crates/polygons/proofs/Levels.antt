-- Levels in place, by places: after r passes the first places hold level r, and the last points of the levels below stand behind them.
use Rattle.std.proofs.Common.{◌≡◌, ℕ, zero, suc, pred, ◌+◌, ◌-◌, ◌<◌, ◌≤◌, ◌≢◌, List, length, get_or, sym, refl, ap, ◌∙◌, subst, ⊎_elim, add-one, sub-one, arith}
use Rattle.std.proofs.lemmas.List.{same_lists, get_or_default}
use Rattle.std.proofs.lemmas.Bool.{cases_eq}
use Rattle.exact.specs.Polygon.{level_at, right}
use Rattle.exact.proofs.Lists.{length-lasts, get_or-lasts}
use Rattle.points.specs.Points.{Point, origin}
use Rattle.polygons.specs.Constructions.{Passed}

abbrev pub at : List Point → ℕ → Point
at ps i = get_or ps i origin

-- two polygons with the same points
pub same_points : (ps qs : List Point) → length ps ≡ length qs → ((k : ℕ) → k < length ps → at ps k ≡ at qs k) → ps ≡ qs
same_points ps qs e h = same_lists ps qs e (λ k d l. get_or_default ps k d origin l ∙ h k l ∙ get_or_default qs k origin d (subst (λ n. k < n) e l))

-- point k of the right part; k and s together are the degree
pub at_right : (f : Point → Point → Point) (ps : List Point) (k s : ℕ) → k + s + 1 ≡ length ps → at (right f ps) k ≡ level_at f (at ps) s k
at_right f ps k s l = get_or-lasts f (length ps) ps k origin refl (omega arith) ∙ ap (λ r. level_at f (at ps) r k) (let z : pred (length ps) - k ≡ s = omega (arith, sub-one (length ps)) in z)

-- r levels done from the right, in place
pub record RightDone (f : Point → Point → Point) (ps qs : List Point) (r : ℕ) : Type 0 where
  pub low : (k : ℕ) → k + r < length ps → at qs k ≡ level_at f (at ps) r k
  pub high : (k s : ℕ) → s ≤ r → k + s + 1 ≡ length ps → at qs k ≡ level_at f (at ps) s k

pub right-none : (f : Point → Point → Point) (ps : List Point) → RightDone f ps ps 0
right-none f ps = record {
  low = λ k l. refl;
  high = λ k s h l. zero-only f ps k s h;
}
  where
    zero-only : (f : Point → Point → Point) (ps : List Point) (k s : ℕ) → s ≤ 0 → at ps k ≡ level_at f (at ps) s k
    zero-only f ps k zero h = refl
    zero-only f ps k (suc s) h = absurd (omega arith)

pub right-more : (f : Point → Point → Point) (ps qs rs : List Point) (r m : ℕ) → m + suc r ≡ length ps → RightDone f ps qs r → Passed f qs rs m → RightDone f ps rs (suc r)
right-more f ps qs rs r m e inv bot = record {
  low = step;
  high = λ k s h l. ⊎_elim
      (λ (s-is : s ≡ suc r). subst (λ i. at rs k ≡ level_at f (at ps) i k) (sym s-is) (top k s l s-is))
      (λ (n : s ≢ suc r). bot.above k (over k s l h n) ∙ inv.high k s (less-eq s r h n) l)
      (cases_eq s (suc r));
}
  where
    less-eq : (k r : ℕ) → k ≤ suc r → k ≢ suc r → k ≤ r
    less-eq k r h n = omega arith

    step : (k : ℕ) → k + suc r < length ps → at rs k ≡ level_at f (at ps) (suc r) k
    step k l =
        let a = inv.low k (omega arith) in
        let b : at qs (k + 1) ≡ level_at f (at ps) r (suc k) = ap (at qs) (add-one k) ∙ inv.low (suc k) (omega arith) in
        bot.mixes k (omega arith) ∙ ap (λ u. f u (at qs (k + 1))) a ∙ ap (f (level_at f (at ps) r k)) b

    top : (k s : ℕ) → k + s + 1 ≡ length ps → s ≡ suc r → at rs k ≡ level_at f (at ps) (suc r) k
    top k s l q = step k (omega arith)

    over : (k s : ℕ) → k + s + 1 ≡ length ps → s ≤ suc r → s ≢ suc r → m ≤ k
    over k s l h n = let b = less-eq s r h n in omega arith

pub right-all : (f : Point → Point → Point) (ps qs : List Point) (r : ℕ) → length qs ≡ length ps → length ps ≤ suc r → RightDone f ps qs r → qs ≡ right f ps
right-all f ps qs r e l inv = same_points qs (right f ps) (e ∙ sym (length-lasts f (length ps) ps refl)) (λ k h. inv.high k (length ps - 1 - k) (omega arith) (omega arith) ∙ sym (at_right f ps k (length ps - 1 - k) (omega arith)))

-- the passes end at so many points: m are mixed, and m with the levels that are then done make the polygon
pub right-next : (f : Point → Point → Point) (ps qs rs : List Point) (r s m : ℕ) → s ≡ r + 1 → m + s ≡ length ps → RightDone f ps qs r → Passed f qs rs m → RightDone f ps rs s
right-next f ps qs rs r s m e l inv bot = subst (λ n. RightDone f ps rs n) (sym (e ∙ add-one r)) (right-more f ps qs rs r m (omega arith) inv bot)
