-- Reading and writing places of a slice, seen as points.
use Rattle.std.proofs.Common.{◌≡◌, ℕ, ◌+◌, ◌<◌, ◌≢◌, List, map, length, get_or, set, sym, ap, ◌∙◌, subst, ⊎_elim, arith}
use Rattle.std.proofs.lemmas.List.{get_or-map, get_or-set_same, get_or-set_other, map-set, length-map}
use Rattle.std.proofs.lemmas.Bool.{cases_eq}
use Rattle.points.specs.Points.{Point, origin}
use Rattle.polygons.specs.Constructions.{Passed}

-- what an element that is read means
pub read_is : {X : Type 0} (f : X → Point) (xs : List X) (i : ℕ) (x : X) → i < length xs → x ≡ get_or xs i x → f x ≡ get_or (map f xs) i origin
read_is f xs i x h e = ap f e ∙ sym (get_or-map f xs i x origin h)

-- what stands at k after a write at j
pub write_same : {X : Type 0} (f : X → Point) (xs : List X) (j : ℕ) (x : X) → j < length xs → get_or (map f (set xs j x)) j origin ≡ f x
write_same f xs j x h = rw map-set (get_or-set_same (map f xs) j (f x) origin (subst (λ n. j < n) (sym (length-map xs f)) h))

pub write-other : {X : Type 0} (f : X → Point) (xs : List X) (j k : ℕ) (x : X) → k ≢ j → get_or (map f (set xs j x)) k origin ≡ get_or (map f xs) k origin
write-other f xs j k x h = rw map-set (get_or-set_other (map f xs) j k (f x) origin h)

module _ {X : Type 0} (c : X → Point) (f : Point → Point → Point) (ps : List Point) (xs : List X) (j : ℕ) (x a b : X) where
  -- one step up
  pub pass-more : j < length xs → Passed f ps (map c xs) j → c a ≡ get_or (map c xs) j origin → c b ≡ get_or (map c xs) (j + 1) origin → c x ≡ f (c a) (c b) → Passed f ps (map c (set xs j x)) (j + 1)
  pass-more h inv ea eb ex = record {
    mixes = λ k l. ⊎_elim
        (λ (e : k ≡ j). subst (λ i. get_or (map c (set xs j x)) i origin ≡ f (get_or ps i origin) (get_or ps (i + 1) origin)) (sym e) (write_same c xs j x h ∙ ex ∙ ap (λ u. f u (c b)) (ea ∙ inv.above j (omega arith)) ∙ ap (f (get_or ps j origin)) (eb ∙ inv.above (j + 1) (omega arith))))
        (λ (n : k ≢ j). write-other c xs j k x n ∙ inv.mixes k (less k j l n))
        (cases_eq k j);
    above = λ k l. write-other c xs j k x (omega arith) ∙ inv.above k (omega arith);
  }
    where
      less : (k j : ℕ) → k < j + 1 → k ≢ j → k < j
      less k j l n = omega arith
