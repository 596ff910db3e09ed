-- The accuracy of piles.
use Rattle.std.proofs.Common.{◌≡◌, ℕ, zero, suc, pred, ◌+◌, ◌-◌, ◌*◌, ◌^◌, ◌<◌, ◌≤◌, List, [], ◌∷◌, length, get_or, ℤ, pos, ◌*ℤ◌, ◌≤ℤ◌, sym, refl, ap, ◌∙◌, subst, subst₂, mul-pos, pow-suc, arith, pow_pos}
use native.Mathlib.Nat.{pow-zero, one-le-pow}
use native.Mathlib.Decide.{dec_lt}
use Rattle.std.proofs.lemmas.List.{get_or-reverse, length-reverse}
use Rattle.exact.specs.Mixing.{blend, mix}
use Rattle.exact.specs.Polygon.{level_at, levels, degree, left, right, raise, turn, IsPoint}
use Rattle.exact.specs.Fractions.{Fraction, WithinHalf}
use Rattle.exact.specs.Curve.{control, exact}
use Rattle.exact.specs.Workings.{Param, parts, InRange, Valid, AllValid, mix_by, fraction, Working, left_at, right_at, raised, turned, worked, charge, next_degree, pile, degree_over, allowance_over, carried}
use Rattle.exact.specs.Accuracy.{StandsFor, Accurate, Enclosed}
use Rattle.exact.proofs.Ring.{gap, gap_same}
use Rattle.exact.proofs.Mixing.{mix-fair, mix-low, mix-high}
use Rattle.exact.proofs.Curve.{C, C-is, C-left, C-right, C-turn, C-raise, left_x, right_x, raise_x, turn_x}
use Rattle.exact.proofs.Near.{Close, Near, total, total-ones, near-level, near-left, near-right, near-raise, near-turn, level_all}
use Rattle.exact.proofs.Fractions.{Is, is-as, is-scale, exact-is, close-out, close-in, Common, common}
use Rattle.exact.proofs.Lists.{get_or-levels, length-firsts, get_or-firsts, length-lasts, get_or-lasts, length-raise, raise-first, raise-last, raise-inner}
use Rattle.exact.proofs.Carry.{Share, both, of_param, back, backs, weight-both, weight_is, carried-is}

-- a list of whole numbers as a sequence
abbrev pub at : List ℤ → ℕ → ℤ
at P i = get_or P i (pos 0)

-- P is near control values over one denominator, whose curve at u is the exact curve of D at g u
pub record Holds (D : List Fraction) (n a : ℕ) (P : List ℤ) (g : Share → Share) : Type 0 where
  pub count : length P ≡ suc n
  pub over : ℕ
  pub positive : 0 < over
  pub tops : ℕ → ℤ
  pub near : Near n a over (at P) tops
  pub curve : (u : Share) (f : Fraction) → Is f (pos (g u).part) (both (g u)) → Is (exact D f) (C u.rest u.part n tops) (over * both u ^ n)

near-points : (n a M : ℕ) (P Q X : ℕ → ℤ) → ((i : ℕ) → i ≤ n → P i ≡ Q i) → Near n a M Q X → Near n a M P X
near-points n a M P Q X e h i l = rw (e i l) (h i l)

pub begin : (P : List ℤ) (a : ℕ) (D : List Fraction) (n : ℕ) → length P ≡ suc n → StandsFor P a D → Holds D n a P (λ u. u)
begin P a D n e h =
    let c : Common D = common D in
    let q : degree D ≡ n = ap pred (h.equally_many ∙ e) in
    record {
      count = e;
      over = c.over;
      positive = c.positive;
      tops = c.tops;
      near = λ i l. close-in a c.over (at P i) (c.tops i) (control D i) (c.each i (omega (arith, h.equally_many))) (h.each_near i (omega arith));
      curve = λ u f k. subst (λ m. Is (exact D f) (C u.rest u.part m c.tops) (c.over * both u ^ m)) q (exact-is D c.over c.tops u.rest u.part f (λ i l. c.each i (omega (arith, h.equally_many))) k);
    }

pub mul-pow : (a b n : ℕ) → (a * b) ^ n ≡ a ^ n * b ^ n
mul-pow a b zero = rw (pow-zero (a * b), pow-zero a, pow-zero b)
mul-pow a b (suc n) = rw (pow-suc (a * b) n, pow-suc a n, pow-suc b n, mul-pow a b n) (omega arith)

-- charges of the levels of P at v: each mix of level r + 1 is off by at most e r over 2. Charge 1 always does, and a level whose mixes all come out whole has charge 0
abbrev pub Fair : Param → ℕ → (ℕ → ℕ) → (ℕ → ℤ) → Type 0
Fair v n e P = (r i : ℕ) → r + i < n → Close (e r) (both (of_param v)) (level_at (mix_by mix v) P (suc r) i) (blend (of_param v).rest v.part (level_at (mix_by mix v) P r i) (level_at (mix_by mix v) P r (suc i)))

pub fair-by : (v : Param) → InRange v → (P : ℕ → ℤ) (n : ℕ) → Fair v n (λ _. 1) P
fair-by v ok P n r i l = mix-fair v.part (parts v) (pow_pos v.power) ok (level_at (mix_by mix v) P r i) (level_at (mix_by mix v) P r (suc i))

pub fair-whole : (M : ℕ) (p x : ℤ) → pos M *ℤ p ≡ x → Close 0 M p x
fair-whole M p x e = rw e (omega (arith, gap_same x))

-- worked lists near worked control values
module _ (n a M : ℕ) (P : List ℤ) (X : ℕ → ℤ) (count : length P ≡ suc n) (near : Near n a M (at P) X) where
  module _ (v : Param) (e : ℕ → ℕ) (fair : Fair v n e (at P)) where
    pub left_near : Near n (a + total e n) (M * both (of_param v) ^ n) (at (left (mix_by mix v) P)) (left_x (of_param v).rest v.part n X)
    left_near = near-points n (a + total e n) (M * both (of_param v) ^ n) (at (left (mix_by mix v) P)) (λ i. level_at (mix_by mix v) (at P) i 0) (left_x (of_param v).rest v.part n X)
        (λ i l. get_or-firsts (mix_by mix v) (length P) P i (pos 0) refl (omega arith))
        (near-left (mix_by mix v) (of_param v).rest v.part n a M e (at P) X near fair)

    pub right_near : Near n (a + total e n) (M * both (of_param v) ^ n) (at (right (mix_by mix v) P)) (right_x (of_param v).rest v.part n X)
    right_near = near-points n (a + total e n) (M * both (of_param v) ^ n) (at (right (mix_by mix v) P)) (λ i. level_at (mix_by mix v) (at P) (n - i) i) (right_x (of_param v).rest v.part n X)
        (λ i l. get_or-lasts (mix_by mix v) (length P) P i (pos 0) refl (omega arith) ∙ ap (λ k. level_at (mix_by mix v) (at P) (k - i) i) (ap pred count))
        (near-right (mix_by mix v) (of_param v).rest v.part n a M e (at P) X near fair)

  pub raise-near : Near (suc n) (a + 1) (M * suc n) (at (raise (λ i. mix i (length P)) P)) (raise_x n X)
  raise-near = near-raise n a M 1 (at P) (at (raise (λ i. mix i (length P)) P)) X near (raise-first (λ i. mix i (length P)) P (pos 0)) last fair
    where
      last : at (raise (λ i. mix i (length P)) P) (suc n) ≡ at P n
      last = ap (at (raise (λ i. mix i (length P)) P)) (sym count) ∙ raise-last (λ i. mix i (length P)) P (pos 0) (omega arith) ∙ ap (at P) (ap pred count)

      fair : (i : ℕ) → i < n → Close 1 (suc n) (at (raise (λ i. mix i (length P)) P) (suc i)) (blend (n - i) (suc i) (at P (suc i)) (at P i))
      fair i l = rw (raise-inner (λ i. mix i (length P)) P i (pos 0) (omega arith), count)
          (subst₂ (λ j k. 2 * gap (pos j *ℤ mix (suc i) (suc n) (at P (suc i)) (at P i)) (blend k (suc i) (at P (suc i)) (at P i)) ≤ 1 * j) (let q : suc n - suc i + suc i ≡ suc n = omega arith in q) (let q : suc n - suc i ≡ n - i = omega arith in q)
          (mix-fair (suc i) (suc n) (omega arith) (omega arith) (at P (suc i)) (at P i)))

  pub turn_near : Near n (a + 0) M (at (turn P)) (turn_x n X)
  turn_near = near-points n (a + 0) M (at (turn P)) (λ i. at P (n - i)) (turn_x n X) (λ i l. get_or-reverse P i (pos 0) (omega arith) ∙ ap (at P) (omega arith))
      (subst (λ c. Near n c M (λ i. at P (n - i)) (turn_x n X)) (let q : a ≡ a + 0 = omega arith in q) (near-turn n a M (at P) X near))

module _ (v : Param) (ok : InRange v) (D : List Fraction) (n a : ℕ) (P : List ℤ) (g : Share → Share) (h : Holds D n a P g) where
  powers : (u : Share) (k : ℕ) → k ≡ both (of_param v) * both u → h.over * k ^ n ≡ h.over * both (of_param v) ^ n * both u ^ n
  powers u k e = rw (e, mul-pow (both (of_param v)) (both u) n) (omega arith)

  some : 0 < h.over * both (of_param v) ^ n
  some = mul-pos h.positive (one-le-pow n (both (of_param v)) (omega (arith, pow_pos v.power, weight-both v ok)))

  module _ (e : ℕ → ℕ) (fair : Fair v n e (at P)) where
    step_left : Holds D n (a + total e n) (left (mix_by mix v) P) (λ u. g (back (left_at v) u))
    step_left = record {
      count = length-firsts (mix_by mix v) (length P) P refl ∙ h.count;
      over = h.over * both (of_param v) ^ n;
      positive = some;
      tops = left_x (of_param v).rest v.part n h.tops;
      near = left_near n a h.over P h.tops h.count h.near v e fair;
      curve = λ u f k. is-as (sym (C-left (of_param v).rest v.part u.rest u.part n h.tops)) (powers u (both (back (left_at v) u)) (omega arith)) (h.curve (back (left_at v) u) f k);
    }

    step_right : Holds D n (a + total e n) (right (mix_by mix v) P) (λ u. g (back (right_at v) u))
    step_right = record {
      count = length-lasts (mix_by mix v) (length P) P refl ∙ h.count;
      over = h.over * both (of_param v) ^ n;
      positive = some;
      tops = right_x (of_param v).rest v.part n h.tops;
      near = right_near n a h.over P h.tops h.count h.near v e fair;
      curve = λ u f k. is-as (sym (C-right (of_param v).rest v.part u.rest u.part n h.tops)) (powers u (both (back (right_at v) u)) (omega arith)) (h.curve (back (right_at v) u) f k);
    }

module _ (D : List Fraction) (n a : ℕ) (P : List ℤ) (g : Share → Share) (h : Holds D n a P g) where
  step-raise : Holds D (suc n) (a + 1) (raise (λ i. mix i (length P)) P) g
  step-raise = record {
    count = length-raise _ P (omega (arith, h.count)) ∙ ap suc h.count;
    over = h.over * suc n;
    positive = mul-pos h.positive (omega arith);
    tops = raise_x n h.tops;
    near = raise-near n a h.over P h.tops h.count h.near;
    curve = λ u f k. is-as (sym (C-raise u.rest u.part n h.tops)) (rw pow-suc (omega arith)) (is-scale (suc n * both u) (exact D f) (C u.rest u.part n h.tops) (h.over * both u ^ n) (h.curve u f k));
  }

  step-turn : Holds D n (a + 0) (turn P) (λ u. g (back turned u))
  step-turn = record {
    count = length-reverse P ∙ h.count;
    over = h.over;
    positive = h.positive;
    tops = turn_x n h.tops;
    near = turn_near n a h.over P h.tops h.count h.near;
    curve = λ u f k. is-as (sym (C-turn u.rest u.part n h.tops)) (ap (λ (x : ℕ). h.over * x ^ n) (omega arith)) (h.curve (back turned u) f k);
  }

pub step : (w : Working) → Valid w → (D : List Fraction) (n a : ℕ) (P : List ℤ) (g : Share → Share) → Holds D n a P g → Holds D (next_degree w n) (a + charge w n) (worked mix w P) (λ u. g (back w u))
step (left_at v) ok D n a P g h = subst (λ c. Holds D n (a + c) (left (mix_by mix v) P) (λ u. g (back (left_at v) u))) (total-ones n) (step_left v ok D n a P g h (λ _. 1) (fair-by v ok (at P) n))
step (right_at v) ok D n a P g h = subst (λ c. Holds D n (a + c) (right (mix_by mix v) P) (λ u. g (back (right_at v) u))) (total-ones n) (step_right v ok D n a P g h (λ _. 1) (fair-by v ok (at P) n))
step raised ok D n a P g h = step-raise D n a P g h
step turned ok D n a P g h = step-turn D n a P g h

pub steps : (ws : List Working) → AllValid ws → (D : List Fraction) (n a : ℕ) (P : List ℤ) (g : Share → Share) → Holds D n a P g → Holds D (degree_over ws n) (allowance_over ws n a) (pile mix ws P) (λ u. g (backs ws u))
steps [] o D n a P g h = h
steps (w ∷ ws) o D n a P g h = steps ws o.1 D (next_degree w n) (a + charge w n) (worked mix w P) (λ u. g (back w u)) (step w o.0 D n a P g h)

pub suc-pred : (k : ℕ) → 0 < k → k ≡ suc (pred k)
suc-pred zero h = absurd (omega arith)
suc-pred (suc k) h = refl

-- the point, as one of the levels
point-is : (m : ℤ → ℤ → ℤ) (Q : List ℤ) (n : ℕ) (r : ℤ) → length Q ≡ suc n → IsPoint m Q r → level_at m (at Q) n 0 ≡ r
point-is m Q n r e p =
    let q : levels m n Q ≡ r ∷ [] = subst (λ k. levels m k Q ≡ r ∷ []) (ap pred e) p in
    sym (get_or-levels m n Q 0 (pos 0) (omega arith)) ∙ ap (λ (l : List ℤ). at l 0) q

-- the point of points that hold, with its charges
pub point-near : (v : Param) → InRange v → (D : List Fraction) (n a : ℕ) (Q : List ℤ) (g : Share → Share) (h : Holds D n a Q g) (e : ℕ → ℕ) → Fair v n e (at Q) → (r : ℤ) (f : Fraction) → IsPoint (mix_by mix v) Q r → Is f (pos (g (of_param v)).part) (both (g (of_param v))) → WithinHalf (a + total e n) r (exact D f)
point-near v ok D n a Q g h e fair r f p k =
    close-out (a + total e n) (h.over * both (of_param v) ^ n) r (C (of_param v).rest v.part n h.tops) (exact D f) (some v ok D n a Q g h) (h.curve (of_param v) f k)
    (subst₂ (λ (x y : ℤ). Close (a + total e n) (h.over * both (of_param v) ^ n) x y) (point-is (mix_by mix v) Q n r h.count p) (C-is (of_param v).rest v.part n h.tops)
    (near-level (mix_by mix v) (of_param v).rest v.part n a h.over e (at Q) h.tops h.near fair n 0 (omega arith)))

pub point-full : (v : Param) → InRange v → (D : List Fraction) (n a : ℕ) (Q : List ℤ) (g : Share → Share) (h : Holds D n a Q g) (r : ℤ) (f : Fraction) → IsPoint (mix_by mix v) Q r → Is f (pos (g (of_param v)).part) (both (g (of_param v))) → WithinHalf (a + n) r (exact D f)
point-full v ok D n a Q g h r f p k = subst (λ c. WithinHalf (a + c) r (exact D f)) (total-ones n) (point-near v ok D n a Q g h (λ _. 1) (fair-by v ok (at Q) n) r f p k)

pub accurate : Accurate
accurate P a D ws v r z o ok h p =
    point-full v ok D (degree_over ws (degree P)) (allowance_over ws (degree P) a) (pile mix ws P) (λ u. backs ws u)
    (steps ws o D (degree P) a P (λ u. u) (begin P a D (degree P) (suc-pred (length P) z) h))
    r (carried ws (fraction v)) p (carried-is ws (fraction v) (of_param v) o (weight_is v ok))

-- what holds of every point of a list
All : (ℤ → Type 0) → List ℤ → Type 0
All S P = (i : ℕ) → i < length P → S (at P i)

-- what mixing keeps, a working keeps
module _ (S : ℤ → Type 0) (keeps : (w d : ℕ) → 0 < d → w ≤ d → (p q : ℤ) → S p → S q → S (mix w d p q)) where
  all-levels : (v : Param) → InRange v → (P : List ℤ) → All S P → (r i : ℕ) → r + i < length P → S (level_at (mix_by mix v) (at P) r i)
  unfolding All
  all-levels v ok P s r i l = level_all (mix_by mix v) S (keeps v.part (parts v) (pow_pos v.power) ok) (r + i) (at P) (λ j k. s j (omega arith)) r i (omega arith)

  all-worked : (w : Working) → Valid w → (P : List ℤ) → 0 < length P → All S P → All S (worked mix w P)
  unfolding All
  all-worked (left_at v) ok P z s i l =
      let c : length (left (mix_by mix v) P) ≡ length P = length-firsts (mix_by mix v) (length P) P refl in
      rw (get_or-firsts (mix_by mix v) (length P) P i (pos 0) refl (omega arith)) (all-levels v ok P s i 0 (omega arith))
  all-worked (right_at v) ok P z s i l =
      let c : length (right (mix_by mix v) P) ≡ length P = length-lasts (mix_by mix v) (length P) P refl in
      rw (get_or-lasts (mix_by mix v) (length P) P i (pos 0) refl (omega arith)) (all-levels v ok P s (pred (length P) - i) i (let q : length P ≡ suc (pred (length P)) = suc-pred (length P) z in omega arith))
  all-worked raised ok P z s zero l = rw (raise-first (λ i. mix i (length P)) P (pos 0)) (s 0 z)
  all-worked raised ok P z s (suc j) l =
      let c : length (raise (λ i. mix i (length P)) P) ≡ suc (length P) = length-raise (λ i. mix i (length P)) P z in
      elim (dec_lt (suc j) (length P)) [
        | yes q ↦ rw (raise-inner (λ i. mix i (length P)) P j (pos 0) q) (keeps (suc j) (length P) z (omega arith) (at P (suc j)) (at P j) (s (suc j) q) (s j (omega arith)))
        | no q ↦ (let e : suc j ≡ length P = omega arith in
            rw (e, raise-last (λ i. mix i (length P)) P (pos 0) z) (s (degree P) (let q : length P ≡ suc (pred (length P)) = suc-pred (length P) z in omega arith)))
      ]
  all-worked turned ok P z s i l =
      let c : length (turn P) ≡ length P = length-reverse P in
      rw (get_or-reverse P i (pos 0) (omega arith)) (s _ (omega arith))

pub worked-some : (w : Working) (P : List ℤ) → 0 < length P → 0 < length (worked mix w P)
worked-some (left_at v) P z = omega (arith, length-firsts (mix_by mix v) (length P) P refl)
worked-some (right_at v) P z = omega (arith, length-lasts (mix_by mix v) (length P) P refl)
worked-some raised P z = omega (arith, length-raise (λ i. mix i (length P)) P z)
worked-some turned P z = omega (arith, length-reverse P)

-- the point of a pile keeps what the points have and mixing keeps
pub kept-over : (S : ℤ → Type 0) → ((w d : ℕ) → 0 < d → w ≤ d → (p q : ℤ) → S p → S q → S (mix w d p q)) → (ws : List Working) (P : List ℤ) (v : Param) (r : ℤ) → 0 < length P → AllValid ws → InRange v → ((i : ℕ) → i < length P → S (at P i)) → IsPoint (mix_by mix v) (pile mix ws P) r → S r
unfolding All
kept-over S k [] P v r z o ok s p =
    let q : length P ≡ suc (degree P) = suc-pred (length P) z in
    subst S (point-is (mix_by mix v) P (degree P) r q p) (all-levels S k v ok P s (degree P) 0 (omega arith))
kept-over S k (w ∷ ws) P v r z o ok s p = kept-over S k ws (worked mix w P) v r (worked-some w P z) o.1 ok (all-worked S k w o.0 P z s) p

pub enclosed : Enclosed
enclosed P ws v r l h z o ok b p =
    kept-over (λ x. (l ≤ℤ x) × (x ≤ℤ h)) (λ w d y k p q s t. (mix-low w d y k l p q s.0 t.0, mix-high w d y k h p q s.1 t.1)) ws P v r z o ok b p
