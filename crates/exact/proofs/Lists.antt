-- The constructions on lists, point by point.
use Rattle.std.proofs.Common.{◌≡◌, ℕ, zero, suc, pred, ◌+◌, ◌-◌, ◌<◌, ◌≤◌, List, [], ◌∷◌, length, get_or, drop, sym, refl, ap, ◌∙◌, ap₂, arith, length-append, length-drop}
use native.Mathlib.Decide.{dec_lt}
use Rattle.std.proofs.lemmas.List.{get_or_append_left, get_or-append_right, get_or-drop}
use Rattle.exact.specs.Polygon.{level_at, level, levels, degree, firsts, lasts, raise_from, raise}

module _ {A : Type 0} (m : A → A → A) where
  pub length-level : (P : List A) → length (level m P) ≡ pred (length P)
  length-level [] = refl
  length-level (x ∷ []) = refl
  length-level (x ∷ (y ∷ P)) = ap suc (length-level (y ∷ P))

  pub get_or-level : (P : List A) (i : ℕ) (d : A) → suc i < length P → get_or (level m P) i d ≡ m (get_or P i d) (get_or P (suc i) d)
  get_or-level [] i d h = absurd (omega arith)
  get_or-level (x ∷ []) i d h = absurd (omega arith)
  get_or-level (x ∷ (y ∷ P)) zero d h = refl
  get_or-level (x ∷ (y ∷ P)) (suc i) d h = get_or-level (y ∷ P) i d (omega arith)

  pub level_at-cong : (P Q : ℕ → A) (r i : ℕ) → ((j : ℕ) → j ≤ r + i → P j ≡ Q j) → level_at m P r i ≡ level_at m Q r i
  level_at-cong P Q zero i h = h i (omega arith)
  level_at-cong P Q (suc r) i h = ap₂ m (level_at-cong P Q r i (λ j l. h j (omega arith))) (level_at-cong P Q r (suc i) (λ j l. h j (omega arith)))

  level_at-first : (P : ℕ → A) (r i : ℕ) → level_at m (λ j. m (P j) (P (suc j))) r i ≡ level_at m P (suc r) i
  level_at-first P zero i = refl
  level_at-first P (suc r) i = ap₂ m (level_at-first P r i) (level_at-first P r (suc i))

  pub length-levels : (r : ℕ) (P : List A) → length (levels m r P) ≡ length P - r
  length-levels zero P = omega arith
  length-levels (suc r) P = length-level (levels m r P) ∙ omega (arith, length-levels r P)

  pub get_or-levels : (r : ℕ) (P : List A) (i : ℕ) (d : A) → r + i < length P → get_or (levels m r P) i d ≡ level_at m (λ j. get_or P j d) r i
  get_or-levels zero P i d h = refl
  get_or-levels (suc r) P i d h =
      get_or-level (levels m r P) i d (omega (arith, length-levels r P))
      ∙ ap₂ m (get_or-levels r P i d (omega arith)) (get_or-levels r P (suc i) d (omega arith))

  -- the points of the level above, in the list above
  above : (P : List A) (r i : ℕ) (d : A) → suc (r + i) < length P → level_at m (λ j. get_or (level m P) j d) r i ≡ level_at m (λ j. get_or P j d) (suc r) i
  above P r i d h = level_at-cong _ (λ j. m (get_or P j d) (get_or P (suc j) d)) r i (λ j l. get_or-level P j d (omega arith)) ∙ level_at-first (λ j. get_or P j d) r i

  pub length-firsts : (k : ℕ) (P : List A) → length P ≡ k → length (firsts m k P) ≡ k
  length-firsts zero P h = refl
  length-firsts (suc k) [] h = absurd (omega arith)
  length-firsts (suc k) (x ∷ P) h = ap suc (length-firsts k (level m (x ∷ P)) (length-level (x ∷ P) ∙ omega arith))

  pub get_or-firsts : (k : ℕ) (P : List A) (i : ℕ) (d : A) → length P ≡ k → i < k → get_or (firsts m k P) i d ≡ level_at m (λ j. get_or P j d) i 0
  get_or-firsts zero P i d h l = absurd (omega arith)
  get_or-firsts (suc k) [] i d h l = absurd (omega arith)
  get_or-firsts (suc k) (x ∷ P) zero d h l = refl
  get_or-firsts (suc k) (x ∷ P) (suc i) d h l =
      get_or-firsts k (level m (x ∷ P)) i d (length-level (x ∷ P) ∙ omega arith) (omega arith)
      ∙ above (x ∷ P) i 0 d (omega arith)

  pub length-lasts : (k : ℕ) (P : List A) → length P ≡ k → length (lasts m k P) ≡ k
  length-lasts zero P h = refl
  length-lasts (suc k) P h =
      length-append (lasts m k (level m P)) (drop (degree P) P)
      ∙ (let e : degree P ≡ k = ap pred h in omega (arith, length-lasts k (level m P) (length-level P ∙ e), length-drop (degree P) P))

  pub get_or-lasts : (k : ℕ) (P : List A) (i : ℕ) (d : A) → length P ≡ k → i < k → get_or (lasts m k P) i d ≡ level_at m (λ j. get_or P j d) (pred k - i) i
  get_or-lasts zero P i d h l = absurd (omega arith)
  get_or-lasts (suc k) P i d h l =
      let e : degree P ≡ k = ap pred h in
      let g : length (level m P) ≡ k = length-level P ∙ e in
      elim (dec_lt i k) [
        | yes q ↦ (get_or_append_left (lasts m k (level m P)) (drop (degree P) P) d i (omega (arith, length-lasts k (level m P) g))
            ∙ get_or-lasts k (level m P) i d g q
            ∙ above P (pred k - i) i d (omega arith)
            ∙ ap (λ r. level_at m (λ j. get_or P j d) r i) (let z : suc (pred k - i) ≡ k - i = omega arith in z))
        | no q ↦ (get_or-append_right (lasts m k (level m P)) (drop (degree P) P) k i d (length-lasts k (level m P) g) (omega arith)
            ∙ get_or-drop (degree P) P (i - k) d
            ∙ ap (λ (j : ℕ). get_or P j d) (omega arith)
            ∙ sym (ap (λ r. level_at m (λ j. get_or P j d) r i) (let z : k - i ≡ 0 = omega arith in z)))
      ]

module _ {A : Type 0} (m : ℕ → A → A → A) where
  length-raise_from : (i : ℕ) (x : A) (P : List A) → length (raise_from m i x P) ≡ suc (length P)
  length-raise_from i x [] = refl
  length-raise_from i x (y ∷ P) = ap suc (length-raise_from (suc i) y P)

  pub length-raise : (P : List A) → 0 < length P → length (raise m P) ≡ suc (length P)
  length-raise [] h = absurd (omega arith)
  length-raise (x ∷ P) h = ap suc (length-raise_from 1 x P)

  raise_from-inner : (i : ℕ) (x : A) (P : List A) (j : ℕ) (d : A) → j < length P → get_or (raise_from m i x P) j d ≡ m (i + j) (get_or P j d) (get_or (x ∷ P) j d)
  raise_from-inner i x [] j d h = absurd (omega arith)
  raise_from-inner i x (y ∷ P) zero d h = ap (λ k. m k y x) (omega arith)
  raise_from-inner i x (y ∷ P) (suc j) d h = raise_from-inner (suc i) y P j d (omega arith) ∙ ap (λ k. m k (get_or P j d) (get_or (y ∷ P) j d)) (omega arith)

  raise_from-last : (i : ℕ) (x : A) (P : List A) (d : A) → get_or (raise_from m i x P) (length P) d ≡ get_or (x ∷ P) (length P) d
  raise_from-last i x [] d = refl
  raise_from-last i x (y ∷ P) d = raise_from-last (suc i) y P d

  pub raise-first : (P : List A) (d : A) → get_or (raise m P) 0 d ≡ get_or P 0 d
  raise-first [] d = refl
  raise-first (x ∷ P) d = refl

  pub raise-last : (P : List A) (d : A) → 0 < length P → get_or (raise m P) (length P) d ≡ get_or P (degree P) d
  raise-last [] d h = absurd (omega arith)
  raise-last (x ∷ P) d h = raise_from-last 1 x P d

  pub raise-inner : (P : List A) (i : ℕ) (d : A) → suc i < length P → get_or (raise m P) (suc i) d ≡ m (suc i) (get_or P (suc i) d) (get_or P i d)
  raise-inner [] i d h = absurd (omega arith)
  raise-inner (x ∷ P) i d h = raise_from-inner 1 x P i d (omega arith) ∙ ap (λ k. m k (get_or P i d) (get_or (x ∷ P) i d)) (omega arith)
