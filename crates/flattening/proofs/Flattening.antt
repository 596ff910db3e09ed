-- Flattening, from what survey tells and what the two walks do.
use Rattle.std.proofs.Common.{◌≡◌, ℕ, ◌+◌, ◌-◌, ◌*◌, ◌≤◌, max, Bool, true, false, cond, ◌||◌, ltb, List, [], ◌∷◌, ◌++◌, map, length, get_or, take, drop, set, Ok, Err, Result, sym, refl, ap, ◌∙◌, subst, zero-add, arith, le-ltb}
use Rattle.std.specs.Result.{OnOk}
use Rattle.std.proofs.lemmas.List.{length-append, length-map, length-take-le, take-map, take_at, drop_at, take-append-drop, map-append, map-id, get_or-take}
use Rattle.std.proofs.lemmas.List.Edits.{sets-eq}
use Rattle.points.specs.declared.fault.Fault.{Fault}
use Rattle.points.specs.declared.fault.Refusal.TheVariants.{Short}
use Rattle.points.specs.Refusals.{refuse}
use Rattle.points.specs.Points.{Point, origin}
use Rattle.polygons.proofs.Writes.{read_is}
use Rattle.workings.specs.declared.survey.Survey.{Survey}
use Rattle.sources.proofs.Meanings.{drop-further}
use Rattle.sources.specs.Meaning.{Meaning, fails, holds, Held, Fit, Sound, told, survey_of, draw_of, Laid}
use Rattle.flattening.specs.declared.stack.Stack.{Stack}
use Rattle.flattening.specs.declared.vertices.Vertices.{Vertices}
use Rattle.flattening.specs.Pieces.{Outcome, bent, kept, pieces, WhenKept}
use Rattle.flattening.specs.Flat.{flat?, flat_pieces}
use Rattle.flattening.specs.Vertices.{first_of, ends, marks, vertices, parameters}
use Rattle.flattening.specs.Stacks.{top_of}
use Rattle.flattening.specs.Walks.{PutFrom, Adds, walked, Walk}
use Rattle.flattening.specs.Flattening.{needed, judged, decided, vertices_of, parameters_of, PutsFirst, Stackable, PastNeeded, walk_of}
use Rattle.flattening.specs.Chords.{ChordBound}
use Rattle.flattening.proofs.Puts.{put-length, adds_one, adds-more}
use Rattle.flattening.proofs.Bound.{chords-kept}

told_is : (s : Survey) (h : Held) → Ok s ≡ survey_of (holds h) → (s.degree ≡ length h.points - 1) × (s.reach ≡ h.reach)
told_is s h t = let k : s ≡ told h = cc in (ap (λ v. v.degree) k, ap (λ v. v.reach) k)

-- a source that was surveyed can be walked on a buffer that begins with places enough to draw on and for the stack
pub stackable : {X : Type 0} (m : Meaning) (s : Survey) (count : ℕ) (xs ys : List X) → Sound m → Ok s ≡ survey_of m → max s.reach (13 * (s.degree + 1)) ≤ length xs → count ≡ 0 → Stackable m (length (xs ++ ys)) × (count ≡ 0)
stackable (fails f) s count xs ys d t l z = cc
stackable (holds h) s count xs ys d t l z = let k = told_is s h t in let e = length-append xs ys in ((omega arith, omega (arith, d.some)), z)

-- how many points were drawn
drawn-size : (h : Held) (s : Survey) (places : ℕ) → Fit h → h.reach ≤ places → Ok s ≡ draw_of (holds h) places → s.degree + 1 ≡ length h.points
drawn-size h s places d l e =
    let k = told_is s h (e ∙ ap (λ b. cond b (Err (refuse Short h.reach)) (Ok (told h))) (le-ltb places h.reach l)) in
    omega (arith, k.0, d.some)

-- what a walk over a source does: it answers r, and leaves bs' for its buffer bs, and w for the vertices v
pub record Ran {K : Type 0} (c : K → Point) (width : ℕ) (tol : ℕ → ℕ) (m : Meaning) (bs bs' : List K) (v w : Vertices K) (r : Result (Unit {0}) Fault) : Type 0 where
  pub answer : r ≡ walk_of width tol m
  pub past : PastNeeded m bs bs'
  pub vertices : OnOk r (Adds c (vertices_of width tol m) (parameters_of width tol m) v w)

-- the first vertex, and then those of the pieces
first-then : {K : Type 0} (c : K → Point) (ps : List Point) (o : Outcome) (r : Result (Unit {0}) Fault) (u v w : Vertices K) → r ≡ walked o → Adds c (first_of ps ∷ []) (0 ∷ []) u v → WhenKept o (λ xs. Adds c (ends xs) (marks xs) v w)
    → OnOk r (Adds c (vertices ps o) (parameters o) u w)
first-then c ps (bent s) r u v w e p q = subst (λ r. OnOk r (Adds c [] [] u w)) (sym e) tt
first-then c ps (kept xs) r u v w e p q = subst (λ r. OnOk r (Adds c (first_of ps ∷ ends xs) (0 ∷ marks xs) u w)) (sym e) (adds-more c (first_of ps ∷ []) (ends xs) (0 ∷ []) (marks xs) u v w p q)

-- the polygon was drawn on b, its first point was added to the vertices, and the walk from s to t went over it
module _ {K : Type 0} (c : K → Point) (width : ℕ) (tol : ℕ → ℕ) (survey : Survey) (bs b : List K) (u v w : Vertices K) (x : K) (s t : Stack K) (r : Result (Unit {0}) Fault) where
  pub ran : (m : Meaning) → Sound m → Stackable m (length bs) → Ok survey ≡ draw_of m (length bs) → Laid c m bs b → length b ≡ length bs → x ≡ get_or b 0 x
      → v.count ≡ u.count + 1 → v.points.now ≡ set u.points.now u.count x → v.parameters.now ≡ set u.parameters.now u.count 0
      → s.buffer.now ≡ b → s.size ≡ survey.degree + 1 → s.used ≡ survey.degree + 1 → Walk c (pieces (flat? width tol) 12 0 (map c (top_of s))) 12 s t v w r
      → Ran c width tol m bs t.buffer.now u w r
  ran (fails f) l d e laid lb ex en exs ems eb es eu k = absurd d
  ran (holds h) l d e laid lb ex en exs ems eb es eu k₁ =
      let size : ℕ = survey.degree + 1 in
      let is : size ≡ length h.points = drawn-size h survey (length bs) l d.0 e in
      let low = laid.1 (omega arith) in
      let zero_left : s.used - s.size ≡ 0 = omega arith in
      let held : map c (take size b) ≡ h.points = ap (λ n. map c (take n b)) is ∙ low.0 in
      let top : map c (top_of s) ≡ h.points = ap (λ n. map c (drop n (take s.used s.buffer.now))) zero_left ∙ ap (λ n. map c (take n s.buffer.now)) eu ∙ ap (λ z. map c (take size z)) eb ∙ held in
      let k = subst (λ ps. Walk c (pieces (flat? width tol) 12 0 ps) 12 s t v w r) top k₁ in
      let first : c x ≡ first_of h.points = read_is c b 0 x (omega arith) ex ∙ sym (get_or-take size (map c b) 0 origin (omega arith)) ∙ ap first_of (take-map c size b ∙ held) in
      let past : drop (needed h) t.buffer.now ≡ drop (needed h) bs = drop-further t.buffer.now s.buffer.now (s.used + 12 * s.size) (needed h) (omega (arith, s.most)) k.stack.above ∙ ap (drop (needed h)) eb ∙ drop-further b bs h.reach (needed h) (omega arith) low.1 in
      record { answer = k.answer; past = past; vertices = first-then c h.points (flat_pieces width tol h.points) r u v w k.answer (adds_one c u v x (first_of h.points) 0 0 en exs ems first refl) k.vertices }

-- values that were put on a buffer that is long enough
puts-all : {X Y : Type 0} (c : X → Y) (ys : List Y) (n : ℕ) (xs xs' : List X) → length ys ≡ n → n ≤ length xs → PutFrom c 0 ys xs xs' → PutsFirst c ys (Ok n) xs xs'
puts-all c ys n xs xs' e l p =
    let is : map c xs' ≡ ys ++ drop (0 + length ys) (map c xs) = p.puts ∙ sets-eq ys (map c xs) 0 (omega (arith, length-map xs c)) in (
      sym (take-map c (length ys) xs') ∙ ap (take (length ys)) is ∙ take_at ys (drop (0 + length ys) (map c xs)) (length ys) refl,
      ap (λ k. drop k xs') (sym (zero-add (length ys))) ∙ p.rest ∙ ap (λ k. drop k xs) (zero-add (length ys)),
    )

-- such a buffer begins with them
begins : {X Y : Type 0} (c : X → Y) (ys : List Y) (n : ℕ) (xs xs' : List X) → PutsFirst c ys (Ok n) xs xs' → map c xs' ≡ ys ++ map c (drop (length ys) xs')
begins c ys n xs xs' p = ap (map c) (sym (take-append-drop (length ys) xs')) ∙ map-append c (take (length ys) xs') (drop (length ys) xs') ∙ ap (λ z. z ++ map c (drop (length ys) xs')) p.0

-- what stands first on one buffer was copied to another
copied : {X Y : Type 0} (c : X → Y) (ys : List Y) (n : ℕ) (ws ws' xs xs' : List X) → length ys ≡ n → n ≤ length ws' → PutFrom c 0 ys ws ws' → xs' ≡ take n ws' ++ drop n xs → PutsFirst c ys (Ok n) xs xs'
copied c ys n ws ws' xs xs' e l p q =
    let w = puts-all c ys n ws ws' e (omega (arith, put-length c 0 ys ws ws' p)) p in
    let lt : length (take n ws') ≡ n = length-take-le n ws' l in (
      ap (λ k. map c (take k xs')) e ∙ ap (λ z. map c (take n z)) q ∙ ap (map c) (take_at (take n ws') (drop n xs) n lt) ∙ ap (λ k. map c (take k ws')) (sym e) ∙ w.0,
      ap (λ k. drop k xs') e ∙ ap (drop n) q ∙ drop_at (take n ws') (drop n xs) n lt ∙ ap (λ k. drop k xs) (sym e),
    )

-- n vertices, at the points ps with the parameters ms, were added to none, from a to b
module _ {K : Type 0} (c : K → Point) (ps : List Point) (ms : List ℕ) (a b : Vertices K) (n : ℕ) (none : a.count ≡ 0) (adds : Adds c ps ms a b) (many : length ps ≡ n) where
  from-none : PutFrom c 0 ps a.points.now b.points.now
  from-none = subst (λ i. PutFrom c i ps a.points.now b.points.now) none adds.points

  marks-from-none : PutFrom (λ m. m) 0 ms a.parameters.now b.parameters.now
  marks-from-none = subst (λ i. PutFrom (λ m. m) i ms a.parameters.now b.parameters.now) none adds.parameters

  -- they all have places
  pub added_points : n ≤ length a.points.now → PutsFirst c ps (Ok n) a.points.now b.points.now
  added_points l = puts-all c ps n _ _ many l from-none

  pub added_parameters : n ≤ length a.parameters.now → PutsFirst (λ m. m) ms (Ok n) a.parameters.now b.parameters.now
  added_parameters l = puts-all (λ m. m) ms n _ _ (omega (arith, many, adds.even)) l marks-from-none

  -- they were copied to others
  module _ (v w : Vertices K) where
    pub copied_points : n ≤ length b.points.now → w.points.now ≡ take n b.points.now ++ drop n v.points.now → PutsFirst c ps (Ok n) v.points.now w.points.now
    copied_points l e = copied c ps n _ _ _ _ many l from-none e

    pub copied_parameters : n ≤ length b.parameters.now → w.parameters.now ≡ take n b.parameters.now ++ drop n v.parameters.now → PutsFirst (λ m. m) ms (Ok n) v.parameters.now w.parameters.now
    copied_parameters l e = copied (λ m. m) ms n _ _ _ _ (omega (arith, many, adds.even)) l marks-from-none e

module _ {K : Type 0} (c : K → Point) (width : ℕ) (tol : ℕ → ℕ) (xs xs' : List K) (ms ms' : List ℕ) where
  -- an accepted flattening of pieces has its chords
  of-pieces : (h : Held) (o : Outcome) (n : ℕ) → 2 ≤ length h.points → flat_pieces width tol h.points ≡ o → Ok n ≡ judged o (length xs) (length ms) → PutsFirst c (vertices h.points o) (Ok n) xs xs' → PutsFirst (λ t. t) (parameters o) (Ok n) ms ms' → ChordBound width tol (holds h) (Ok n) (map c xs') ms'
  of-pieces h (bent b) n l eo e pv pt = cc
  of-pieces h (kept ps) n l eo e pv pt =
      let en : n ≡ 1 + length ps = passed (ltb (length xs) (1 + length ps) || ltb (length ms) (1 + length ps)) n (1 + length ps) e in
      let bv = begins c (vertices h.points (kept ps)) n xs xs' pv in
      let bt = begins (λ t. t) (parameters (kept ps)) n ms ms' pt in
      subst (λ n. ChordBound width tol (holds h) (Ok n) (map c xs') ms') (sym en)
      (chords-kept width tol h l ps eo (map c (drop (length (vertices h.points (kept ps))) xs')) (map (λ t. t) (drop (length (parameters (kept ps))) ms')) (map c xs') ms' bv (sym (map-id ms') ∙ bt))
    where
      passed : (b : Bool) (n k : ℕ) → Ok n ≡ cond b (Err (refuse Short k)) (Ok k) → n ≡ k
      passed true n k e = cc
      passed false n k e = cc

  -- and so has one of a source
  pub chorded : (m : Meaning) (r : Result ℕ Fault) → Sound m → r ≡ decided width tol m (length xs) (length ms) → PutsFirst c (vertices_of width tol m) r xs xs' → PutsFirst (λ t. t) (parameters_of width tol m) r ms ms' → ChordBound width tol m r (map c xs') ms'
  chorded m (Err f) d e pv pt = tt
  chorded (fails f) (Ok n) d e pv pt = cc
  chorded (holds h) (Ok n) d e pv pt = of-pieces h (flat_pieces width tol h.points) n d.some refl e pv pt
