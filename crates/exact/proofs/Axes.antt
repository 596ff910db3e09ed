-- Reading an axis (any map f that mixing respects) commutes with every construction, so what holds on one axis holds of points.
use Rattle.std.proofs.Common.{◌≡◌, ℕ, zero, suc, pred, ◌+◌, ◌<◌, ◌≤◌, List, [], ◌∷◌, ◌++◌, map, reverse, length, take, drop, sym, refl, ap, ◌∙◌, subst, ap₂, arith, pow_pos}
use mathlib.Core.List.{reverse-cons}
use Rattle.std.proofs.lemmas.List.{map-append, length-map, take-map, drop-map, map_push}
use Rattle.exact.specs.Polygon.{level, levels, degree, firsts, lasts, left, right, raise_from, raise, turn, IsPoint}
use Rattle.exact.specs.Workings.{Param, parts, InRange, Valid, AllValid, mix_by, Working, left_at, right_at, raised, turned, worked, pile}

module _ {A B : Type 0} (f : A → B) where
  degree-map : (P : List A) → degree (map f P) ≡ degree P
  degree-map P = ap pred (length-map P f)

  module _ (m : A → A → A) (n : B → B → B) (h : (x y : A) → f (m x y) ≡ n (f x) (f y)) where
    pub map-level : (P : List A) → map f (level m P) ≡ level n (map f P)
    map-level [] = refl
    map-level (x ∷ []) = refl
    map-level (x ∷ (y ∷ P)) = ap₂ ◌∷◌ (h x y) (map-level (y ∷ P))

    pub map-levels : (r : ℕ) (P : List A) → map f (levels m r P) ≡ levels n r (map f P)
    map-levels zero P = refl
    map-levels (suc r) P = map-level (levels m r P) ∙ ap (level n) (map-levels r P)

    pub map-firsts : (k : ℕ) (P : List A) → map f (firsts m k P) ≡ firsts n k (map f P)
    map-firsts zero P = refl
    map-firsts (suc k) P = map-append f (take 1 P) (firsts m k (level m P)) ∙ ap₂ ◌++◌ (sym (take-map f 1 P)) (map-firsts k (level m P) ∙ ap (firsts n k) (map-level P))

    pub map_lasts : (k : ℕ) (P : List A) → map f (lasts m k P) ≡ lasts n k (map f P)
    map_lasts zero P = refl
    map_lasts (suc k) P =
        map-append f (lasts m k (level m P)) (drop (degree P) P)
        ∙ ap₂ ◌++◌ (map_lasts k (level m P) ∙ ap (lasts n k) (map-level P)) (sym (drop-map f (degree P) P) ∙ ap (λ j. drop j (map f P)) (sym (degree-map P)))

    pub map-left : (P : List A) → map f (left m P) ≡ left n (map f P)
    map-left P = map-firsts (length P) P ∙ ap (λ k. firsts n k (map f P)) (sym (length-map P f))

    pub map-right : (P : List A) → map f (right m P) ≡ right n (map f P)
    map-right P = map_lasts (length P) P ∙ ap (λ k. lasts n k (map f P)) (sym (length-map P f))

    pub map-point : (P : List A) (r : A) → IsPoint m P r → IsPoint n (map f P) (f r)
    map-point P r p = ap (λ k. levels n k (map f P)) (degree-map P) ∙ sym (map-levels (degree P) P) ∙ ap (map f) p

  module _ (m : ℕ → A → A → A) (n : ℕ → B → B → B) (N : ℕ) (h : (i : ℕ) → i ≤ N → (x y : A) → f (m i x y) ≡ n i (f x) (f y)) where
    map-raise_from : (i : ℕ) (x : A) (P : List A) → i + length P ≤ suc N → map f (raise_from m i x P) ≡ raise_from n i (f x) (map f P)
    map-raise_from i x [] l = refl
    map-raise_from i x (y ∷ P) l = ap₂ ◌∷◌ (h i (omega arith) y x) (map-raise_from (suc i) y P (omega arith))

    pub map-raise : (P : List A) → length P ≤ N → map f (raise m P) ≡ raise n (map f P)
    map-raise [] l = refl
    map-raise (x ∷ P) l = ap (λ r. f x ∷ r) (map-raise_from 1 x P (omega arith))

  pub map-turn : (P : List A) → map f (turn P) ≡ turn (map f P)
  map-turn [] = refl
  map-turn (x ∷ P) = ap (map f) (reverse-cons x P) ∙ map_push f (reverse P) x ∙ ap (λ r. r ++ f x ∷ []) (map-turn P) ∙ sym (reverse-cons (f x) (map f P))

  module _ (mx : ℕ → ℕ → A → A → A) (nx : ℕ → ℕ → B → B → B) (h : (w d : ℕ) → 0 < d → w ≤ d → (x y : A) → f (mx w d x y) ≡ nx w d (f x) (f y)) where
    by-weight : (v : Param) → InRange v → (x y : A) → f (mix_by mx v x y) ≡ mix_by nx v (f x) (f y)
    by-weight v ok = h v.part (parts v) (pow_pos v.power) ok

    pub map-worked : (w : Working) → Valid w → (P : List A) → map f (worked mx w P) ≡ worked nx w (map f P)
    map-worked (left_at v) ok P = map-left (mix_by mx v) (mix_by nx v) (by-weight v ok) P
    map-worked (right_at v) ok P = map-right (mix_by mx v) (mix_by nx v) (by-weight v ok) P
    map-worked raised ok [] = refl
    map-worked raised ok (x ∷ P) =
        map-raise (λ i. mx i (length (x ∷ P))) (λ i. nx i (length (x ∷ P))) (length (x ∷ P)) (λ i l. h i (length (x ∷ P)) (omega arith) l) (x ∷ P) (omega arith)
        ∙ ap (λ k. raise (λ i. nx i k) (map f (x ∷ P))) (sym (length-map (x ∷ P) f))
    map-worked turned ok P = map-turn P

    pub map-pile : (ws : List Working) → AllValid ws → (P : List A) → map f (pile mx ws P) ≡ pile nx ws (map f P)
    map-pile [] o P = refl
    map-pile (w ∷ ws) o P = map-pile ws o.1 (worked mx w P) ∙ ap (pile nx ws) (map-worked w o.0 P)

    -- a point of a pile, on the axis f
    pub point-on : (ws : List Working) (P : List A) (v : Param) (r : A) → AllValid ws → InRange v → IsPoint (mix_by mx v) (pile mx ws P) r → IsPoint (mix_by nx v) (pile nx ws (map f P)) (f r)
    point-on ws P v r o ok p = subst (λ Q. IsPoint (mix_by nx v) Q (f r)) (map-pile ws o P) (map-point (mix_by mx v) (mix_by nx v) (by-weight v ok) (pile mx ws P) r p)
