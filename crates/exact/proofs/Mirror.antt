-- A polygon read from its other end: the left part at w/d is the right part, read backwards, of the reversed points at (d − w)/d.
use Rattle.std.proofs.Common.{◌≡◌, ℕ, zero, suc, pred, ◌+◌, ◌-◌, ◌*◌, ◌<◌, ◌≤◌, List, reverse, length, get_or, ℤ, pos, ◌+ℤ◌, ◌*ℤ◌, sym, refl, ap, ◌∙◌, ap₂, sub-one, arith}
use lib.IntN.{+ℤ_comm}
use Rattle.std.proofs.lemmas.List.{same_lists, get_or-reverse, length-reverse}
use Rattle.exact.specs.Mixing.{floor_div, mix}
use Rattle.exact.specs.Polygon.{level_at, left, right}
use Rattle.exact.proofs.Lists.{length-firsts, length-lasts, get_or-firsts, get_or-lasts}

-- mixing from the other side
pub mix-mirror : (w d : ℕ) → w ≤ d → (p q : ℤ) → mix (d - w) d q p ≡ mix w d p q
mix-mirror w d h p q =
    ap (λ k. floor_div (pos 2 *ℤ (pos k *ℤ q +ℤ pos (d - w) *ℤ p) +ℤ pos d) (2 * d)) (let e : d - (d - w) ≡ w = omega arith in e)
    ∙ ap (λ z. floor_div (pos 2 *ℤ z +ℤ pos d) (2 * d)) (+ℤ_comm (pos w *ℤ q) (pos (d - w) *ℤ p))

module _ {A : Type 0} (m k : A → A → A) (mirrors : (x y : A) → k y x ≡ m x y) where
  -- n is the degree; point i of level r lies over the points i to i + r
  level-mirror : (n : ℕ) (P Q : ℕ → A) → ((j : ℕ) → j ≤ n → Q j ≡ P (n - j)) → (r i : ℕ) → r + i ≤ n → level_at k Q r i ≡ level_at m P r (n - r - i)
  level-mirror n P Q e zero i h = e i (omega arith) ∙ ap P (omega arith)
  level-mirror n P Q e (suc r) i h =
      ap₂ k (level-mirror n P Q e r i (omega arith)) (level-mirror n P Q e r (suc i) (omega arith))
      ∙ ap₂ (λ a b. k (level_at m P r a) (level_at m P r b)) (let q : n - r - i ≡ suc (n - suc r - i) = omega arith in q) (let q : n - r - suc i ≡ n - suc r - i = omega arith in q)
      ∙ mirrors (level_at m P r (n - suc r - i)) (level_at m P r (suc (n - suc r - i)))

  pub left-mirror : (P : List A) → reverse (right k (reverse P)) ≡ left m P
  left-mirror P =
      same_lists (reverse (right k (reverse P))) (left m P) (longs ∙ sym (length-firsts m (length P) P refl)) (λ i d l. at i d (omega (arith, longs)))
    where
      long : length (right k (reverse P)) ≡ length P
      long = length-lasts k (length (reverse P)) (reverse P) refl ∙ length-reverse P

      longs : length (reverse (right k (reverse P))) ≡ length P
      longs = length-reverse (right k (reverse P)) ∙ long

      at : (i : ℕ) (d : A) → i < length P → get_or (reverse (right k (reverse P))) i d ≡ get_or (left m P) i d
      at i d l =
          let n = length P - 1 in
          get_or-reverse (right k (reverse P)) i d (omega (arith, long))
          ∙ ap (λ j. get_or (right k (reverse P)) j d) (let q : length (right k (reverse P)) - 1 - i ≡ n - i = omega (arith, long) in q)
          ∙ get_or-lasts k (length (reverse P)) (reverse P) (n - i) d refl (omega (arith, length-reverse P))
          ∙ ap (λ r. level_at k (λ j. get_or (reverse P) j d) r (n - i)) (let q : pred (length (reverse P)) - (n - i) ≡ i = omega (arith, length-reverse P, sub-one (length (reverse P))) in q)
          ∙ level-mirror n (λ j. get_or P j d) (λ j. get_or (reverse P) j d) (λ j h. get_or-reverse P j d (omega arith) ∙ ap (λ x. get_or P x d) (omega arith)) i (n - i) (omega arith)
          ∙ ap (level_at m (λ j. get_or P j d) i) (let q : n - i - (n - i) ≡ 0 = omega arith in q)
          ∙ sym (get_or-firsts m (length P) P i d refl l)
