-- Lists that agree one by one.
use Rattle.std.proofs.Common.{◌≡◌, ℕ, suc, ◌<◌, Bool, true, false, nat_eq, ◌≢◌, List, [], ◌∷◌, length, get_or, ⊎_elim, Some, Decides, sym, refl, ◌∙◌, subst, zero-add, arith}
use Rattle.std.specs.Bool.{MatchBool}
use Rattle.std.specs.List.{slice_get, range_with_len, AllWithin, AllZip, HoldsAt}
use Rattle.std.proofs.lemmas.List.FromFn.{length-range_with_len, get_or-range_with_len}
use Rattle.std.proofs.lemmas.Bool.{eqb-true}
use Rattle.std.proofs.lemmas.List.Elements.{length_all_zip, AllZip-get_or, same_from_all_zip}
use Rattle.std.proofs.lemmas.Option.{slice_get_cases, slice_get_within, get_or_from_slice_get}
use Rattle.std.proofs.lemmas.Bool.Decides.{not_from_Decides}
use Rattle.points.specs.declared.fault.Fault.{Fault}
use Rattle.pathformat.specs.declared.kind.FileKind.{FileKind}
use Rattle.pathformat.specs.Reading.{bad}
use Rattle.pathfiles.specs.declared.opened.Opened.{Opened}
use Rattle.pathfiles.specs.Opened.{says, Said}
use Rattle.samepath.specs.Same.{SameWorking, Pairwise, SameSaid, SayBoth}

some-at : {X : Type 0} (xs : List X) (i : ℕ) → i < length xs → (x : X) × (Some x ≡ slice_get xs i)
some-at xs i h = ⊎_elim (λ p. (p.0, sym p.2)) (λ p. absurd (omega (arith, p.0))) (slice_get_cases xs i).1

module _ {X : Type 0} (R : X → X → Type 0) where
  -- they agree place by place, as the library says it
  zipped : (xs ys : List X) → Pairwise R xs ys → AllZip R xs ys
  zipped [] [] h = tt
  zipped [] (y ∷ ys) h = h
  zipped (x ∷ xs) [] h = h
  zipped (x ∷ xs) (y ∷ ys) h = (h.0, zipped xs ys h.1)

  pub pairs-same : ((x : X) → R x x) → (xs : List X) → Pairwise R xs xs
  pairs-same same [] = tt
  pairs-same same (x ∷ xs) = (same x, pairs-same same xs)

  -- the items at an index agree, or they do not
  abbrev pub AgreeAt : List X → List X → ℕ → Type 0
  AgreeAt xs ys i = (x y : X) → Some x ≡ slice_get xs i → Some y ≡ slice_get ys i → R x y

  abbrev pub DifferAt : List X → List X → ℕ → Type 0
  DifferAt xs ys i = (x y : X) → Some x ≡ slice_get xs i → Some y ≡ slice_get ys i → R x y → ⊥

  pub pairs-at : (xs ys : List X) (i : ℕ) (x y : X) → Pairwise R xs ys → Some x ≡ slice_get xs i → Some y ≡ slice_get ys i → R x y
  pairs-at xs ys i x y h p q =
      let z : R (get_or xs i x) (get_or ys i y) = AllZip-get_or R xs ys i x y (zipped xs ys h) (slice_get_within xs i x (sym p)) in
      subst (λ c. R c y) (get_or_from_slice_get xs i x x (sym p)) (subst (R (get_or xs i x)) (get_or_from_slice_get ys i y y (sym q)) z)

  pairs-from : (xs ys : List X) → length xs ≡ length ys → ((i : ℕ) → i < length xs → AgreeAt xs ys i) → Pairwise R xs ys
  pairs-from [] [] l h = tt
  pairs-from [] (y ∷ ys) l h = absurd (omega arith)
  pairs-from (x ∷ xs) [] l h = absurd (omega arith)
  pairs-from (x ∷ xs) (y ∷ ys) l h = (h 0 (omega arith) x y refl refl, pairs-from xs ys (omega arith) (λ i m. h (suc i) (omega arith)))

  -- the indices below n were tried, where both lists have n items
  pub pairs-tried : (r : Bool) (xs ys : List X) (n : ℕ) → n ≡ length xs → n ≡ length ys → MatchBool r (AllWithin (AgreeAt xs ys) (range_with_len 0 n) 0 (length (range_with_len 0 n))) ((k : ℕ) × (k < length (range_with_len 0 n)) × HoldsAt (DifferAt xs ys) (range_with_len 0 n) k) → Decides r (Pairwise R xs ys)
  pairs-tried true xs ys n l m h =
      let each : (i : ℕ) → i < length xs → AgreeAt xs ys i = λ i b. subst (AgreeAt xs ys) (get_or-range_with_len 0 n i 0 (omega arith) ∙ zero-add i) (h i 0 (omega arith) (omega (arith, length-range_with_len 0 n))) in
      ((λ _. pairs-from xs ys (sym l ∙ m) each), (λ _. refl))
  pairs-tried false xs ys n l m (k, b, d) =
      let c : k < n = omega (arith, length-range_with_len 0 n) in
      let differ : DifferAt xs ys k = subst (DifferAt xs ys) (get_or-range_with_len 0 n k 0 c ∙ zero-add k) (d 0) in
      let x = some-at xs k (omega arith) in
      let y = some-at ys k (omega arith) in
      ((λ e. absurd (cc)), (λ p. absurd (differ x.0 y.0 x.1 y.1 (pairs-at xs ys k x.0 y.0 p x.1 y.1))))

  -- lists of other lengths do not agree
  pub pairs-uneven : (xs ys : List X) (m n : ℕ) → m ≡ length xs → n ≡ length ys → (m ≢ n) → Decides (nat_eq m n) (Pairwise R xs ys)
  pairs-uneven xs ys m n l k e = ((λ t. absurd (e (eqb-true m n t))), (λ p. absurd (e (l ∙ length_all_zip R xs ys (zipped xs ys p) ∙ sym k))))

pub equal-from : {X : Type 0} (xs ys : List X) → Pairwise (λ x y. x ≡ y) xs ys → xs ≡ ys
equal-from xs ys h = sym (same_from_all_zip _ xs ys (zipped _ xs ys h) (λ x y e. sym e))

pub refuted : {P : Type 0} → (P → ⊥) → Decides false P
refuted h = ((λ e. absurd (cc)), (λ p. absurd (h p)))

-- two opened files, from their points and their workings
module _ {K : Type 0} (k : FileKind) (a b : Opened K) where
  pub unsaid-first : (e : Fault) → says k a ≡ bad e → SameSaid k a b → ⊥
  unsaid-first e h d = let p = d.first_said in cc

  pub unsaid-second : (e : Fault) → says k b ≡ bad e → SameSaid k a b → ⊥
  unsaid-second e h d = let p = d.second_said in cc

  module _ (r : Bool) (points : SayBoth k a b (λ f g. Decides r (Pairwise (λ x y. x ≡ y) f.points g.points))) where
    pub other-points : r ≡ false → SameSaid k a b → ⊥
    other-points e d =
        not_from_Decides r (points d.first d.second d.first_said d.second_said) e (subst (Pairwise (λ x y. x ≡ y) d.first.points) d.same.points (pairs-same _ (λ x. refl) d.first.points))

    pub by-workings : r ≡ true → (s : Bool) → Said k a → Said k b → SayBoth k a b (λ f g. Decides s (Pairwise SameWorking f.workings g.workings)) → Decides s (SameSaid k a b)
    by-workings e s t u workings = (
      (λ h. record {
        first = t.file;
        second = u.file;
        first_said = t.said;
        second_said = u.said;
        same = record {
          points = equal-from _ _ ((points t.file u.file t.said u.said).0 e);
          workings = (workings t.file u.file t.said u.said).0 h;
        };
      }),
      (λ d. (workings d.first d.second d.first_said d.second_said).1 d.same.workings),
    )
