-- Reading and writing a file undo each other.
use Rattle.std.proofs.Common.{◌≡◌, ℕ, zero, suc, ◌*◌, ◌<◌, ◌≤◌, Bool, true, false, cond, eqb, ltb, leb, List, [], ◌∷◌, ◌++◌, length, take, drop, get_or, ℤ, sym, refl, ap, ◌∙◌, subst, append-nil, arith, take-append-drop}
use Rattle.std.specs.List.{flat_map}
use Rattle.std.proofs.lemmas.Bool.{cond-false, ltb-false, le-ltb, leb-true, le-leb, eqb-true, eq-eqb, and_parts}
use Rattle.std.proofs.lemmas.List.{take_at, drop_at, length-append, length-take-le}
use Rattle.std.proofs.lemmas.List.Concat.{length-flat_map}
use Rattle.std.proofs.lemmas.List.Sums.{sum_by-le}
use Rattle.pathformat.specs.declared.kind.FileKind.{FileKind}
use Rattle.pathformat.specs.declared.kind.FileKind.TheVariants.{Height, Planar, Sample}
use Rattle.workings.specs.declared.working.Working.{Working}
use Rattle.workings.specs.declared.working.Working.TheVariants.{Left, Right, Raise, Turn}
use Rattle.points.specs.declared.fault.Refusal.TheVariants.{Degree, Foreign, Cut, Overlong}
use Rattle.points.specs.Refusals.{refuse}
use Rattle.pathformat.specs.Reading.{took, bad, fault, after, one, two, part, checked}
use Rattle.pathformat.specs.Writing.{bytes2, bytes_each, Bytes, Each}
use Rattle.pathformat.specs.File.{Field, axis, press, fields, code, File, head_at, name_at, few_points, few_workings, points_at, workings_at, ended, sections, decode, field_bytes, fields_bytes, point_bytes, working_bytes, head_bytes, name_bytes, encode, FieldsOk, WorkingOk, Fileable, IsFile}
use Rattle.pathformat.proofs.Fields.{Undo, taken-after, along, at_after, byte, short, one-undo, two-undo, checked-undo, counted-undo}
use Rattle.pathformat.proofs.Items.{point-undo, working-undo}

-- the name
bytes_take : (k : ℕ) (bs : List ℕ) → Bytes bs → Bytes (take k bs)
bytes_take zero bs h = tt
bytes_take (suc k) [] h = tt
bytes_take (suc k) (b ∷ bs) h = (h.0, bytes_take k bs h.1)

bytes_drop : (k : ℕ) (bs : List ℕ) → Bytes bs → Bytes (drop k bs)
bytes_drop zero bs h = h
bytes_drop (suc k) [] h = tt
bytes_drop (suc k) (b ∷ bs) h = bytes_drop k bs h.1

part-undo : (k : ℕ) → Undo (part k) (λ xs. xs) (λ xs. (length xs ≡ k) × Bytes xs)
part-undo k = record { reads = there; wrote = back }
  where
    there : (n : ℕ) (xs r : List ℕ) → (length xs ≡ k) × Bytes xs → part k n (xs ++ r) ≡ took xs r
    there n xs r h =
        cond-false _ _ _ (le-ltb (length (xs ++ r)) k (omega (arith, length-append xs r, h.0))) ∙ (λ i. took (take_at xs r k h.0 i) (drop_at xs r k h.0 i))

    back : (n : ℕ) (bs xs r : List ℕ) → Bytes bs → part k n bs ≡ took xs r → (bs ≡ xs ++ r) × (((length xs ≡ k) × Bytes xs) × Bytes r)
    back n bs xs r b e = go (ltb (length bs) k) refl e
      where
        go : (v : Bool) → ltb (length bs) k ≡ v → cond v (bad (fault Cut n bs)) (took (take k bs) (drop k bs)) ≡ took xs r → (bs ≡ xs ++ r) × (((length xs ≡ k) × Bytes xs) × Bytes r)
        go true f q = absurd (cc)
        go false f q =
            let P : List ℕ → List ℕ → Type 0 = λ ys s. (bs ≡ ys ++ s) × (((length ys ≡ k) × Bytes ys) × Bytes s) in
            let here : P (take k bs) (drop k bs) = (sym (take-append-drop k bs), ((length-take-le k bs (ltb-false _ _ f), bytes_take k bs b), bytes_drop k bs b)) in
            along P (take k bs) xs (drop k bs) r q here

abbrev NameOk : List ℕ → Type 0
NameOk nm = (length nm ≤ 64) × Bytes nm

name-undo : Undo name_at name_bytes NameOk
name-undo = record { reads = there; wrote = back }
  where
    count : Undo (checked (λ c. leb c 64) Overlong two) bytes2 (λ k. short k × (leb k 64 ≡ true))
    count = checked-undo two-undo (λ c. leb c 64) Overlong

    there : (n : ℕ) (nm r : List ℕ) → NameOk nm → name_at n (name_bytes nm ++ r) ≡ took nm r
    there n nm r h = at_after _ _ (length nm) (nm ++ r) (count.reads n (length nm) (nm ++ r) (omega (arith, h.0), le-leb (length nm) 64 h.0)) ∙ (part-undo (length nm)).reads n nm r (refl, h.1)

    back : (n : ℕ) (bs nm r : List ℕ) → Bytes bs → name_at n bs ≡ took nm r → (bs ≡ name_bytes nm ++ r) × (NameOk nm × Bytes r)
    back n bs nm r b e =
        let t = taken-after (checked (λ c. leb c 64) Overlong two n bs) _ nm r e in
        let d = count.wrote n bs t.0 t.1 b t.2 in
        let m = (part-undo t.0).wrote n t.1 nm r d.1.1 t.3 in
        (d.0 ∙ ap (λ k. bytes2 k ++ t.1) (sym m.1.0.0) ∙ ap (λ s. bytes2 (length nm) ++ s) m.0, ((omega (arith, m.1.0.0, leb-true t.0 64 d.1.0.1), m.1.0.1), m.1.1))

-- the head
head-undo : (k : FileKind) → Undo (head_at k) (head_bytes k) short
head-undo k = record { reads = there; wrote = back }
  where
    count : Undo (checked (λ c. eqb c 3) Foreign two) bytes2 (λ c. short c × (eqb c 3 ≡ true))
    count = checked-undo two-undo (λ c. eqb c 3) Foreign

    kinds : Undo (checked (λ c. eqb c (code k)) Foreign one) (λ c. c ∷ []) (λ c. byte c × (eqb c (code k) ≡ true))
    kinds = checked-undo one-undo (λ c. eqb c (code k)) Foreign

    small : (j : FileKind) → code j < 256
    small Height = omega arith
    small Planar = omega arith
    small Sample = omega arith

    there : (n a : ℕ) (r : List ℕ) → short a → head_at k n (head_bytes k a ++ r) ≡ took a r
    there n a r h = at_after (checked (λ c. eqb c 3) Foreign two n (bytes2 3 ++ (code k ∷ (bytes2 a ++ r)))) (λ _ r₁. after (checked (λ c. eqb c (code k)) Foreign one n r₁) (λ _ s. two n s)) 3 (code k ∷ (bytes2 a ++ r)) (count.reads n 3 (code k ∷ (bytes2 a ++ r)) (omega arith, refl)) ∙ at_after (checked (λ c. eqb c (code k)) Foreign one n (code k ∷ (bytes2 a ++ r))) (λ _ s. two n s) (code k) (bytes2 a ++ r) (kinds.reads n (code k) (bytes2 a ++ r) (small k, eq-eqb (code k) (code k) refl)) ∙ two-undo.reads n a r h

    back : (n : ℕ) (bs : List ℕ) (a : ℕ) (r : List ℕ) → Bytes bs → head_at k n bs ≡ took a r → (bs ≡ head_bytes k a ++ r) × (short a × Bytes r)
    back n bs a r b e =
        let t = taken-after (checked (λ c. eqb c 3) Foreign two n bs) _ a r e in
        let d = count.wrote n bs t.0 t.1 b t.2 in
        let v = taken-after (checked (λ c. eqb c (code k)) Foreign one n t.1) _ a r t.3 in
        let f = kinds.wrote n t.1 v.0 v.1 d.1.1 v.2 in
        let g = two-undo.wrote n v.1 a r f.1.1 v.3 in
        let three : t.0 ≡ 3 = eqb-true t.0 3 d.1.0.1 in
        let kind : v.0 ≡ code k = eqb-true v.0 (code k) f.1.0.1 in
        (d.0 ∙ ap (λ c. bytes2 c ++ t.1) three ∙ ap (λ s. bytes2 3 ++ s) (f.0 ∙ ap (λ c. c ∷ v.1) kind ∙ ap (λ s. code k ∷ s) g.0), (g.1.0, g.1.1))

-- a file is short
joined-bound : {X : Type 0} (wr : X → List ℕ) (m : ℕ) → ((x : X) → length (wr x) ≤ m) → (xs : List X) → length (flat_map wr xs) ≤ m * length xs
joined-bound wr m h xs = omega (arith, length-flat_map wr xs, sum_by-le (λ x. length (wr x)) m xs (λ i d lt. h (get_or xs i d)))

field_bound : (f : Field) (z : ℤ) → length (field_bytes f z) ≤ 4
field_bound axis z = omega arith
field_bound press z = omega arith

fields-bound : (fs : List Field) (zs : List ℤ) → length (fields_bytes fs zs) ≤ 4 * length fs
fields-bound [] zs = omega arith
fields-bound (f ∷ fs) [] = omega arith
fields-bound (f ∷ fs) (z ∷ zs) = omega (arith, length-append (field_bytes f z) (fields_bytes fs zs), field_bound f z, fields-bound fs zs)

point-bound : (k : FileKind) (zs : List ℤ) → length (point_bytes k zs) ≤ 12
point-bound Height zs = omega (arith, fields-bound (fields Height) zs)
point-bound Planar zs = omega (arith, fields-bound (fields Planar) zs)
point-bound Sample zs = omega (arith, fields-bound (fields Sample) zs)

working-bound : (w : Working) → length (working_bytes w) ≤ 4
working-bound (Left p) = omega arith
working-bound (Right p) = omega arith
working-bound Raise = omega arith
working-bound Turn = omega arith

few-points : (k : ℕ) → few_points k ≡ true → k ≤ 17
few-points k h = leb-true k 17 (and_parts (leb 2 k) (leb k 17) h).1

few-workings : (k : ℕ) → few_workings k ≡ true → k ≤ 256
few-workings k h = leb-true k 256 (and_parts (leb 0 k) (leb k 256) h).1

pub points-undo : (k : FileKind) → Undo (points_at k) (bytes_each (point_bytes k)) (λ ps. (few_points (length ps) ≡ true) × Each (FieldsOk (fields k)) ps)
points-undo k = counted-undo (point-undo k) few_points Degree (λ c h. omega (arith, few-points c h))

pub workings-undo : Undo workings_at (bytes_each working_bytes) (λ ws. (few_workings (length ws) ≡ true) × Each WorkingOk ws)
workings-undo = counted-undo working-undo few_workings Overlong (λ c h. omega (arith, few-workings c h))

file-bound : (f : File) → Fileable f → length (encode f) ≤ 65535
file-bound f h =
    let ps = flat_map (point_bytes f.kind) f.points in
    let ws = flat_map working_bytes f.workings in
    let p = joined-bound (point_bytes f.kind) 12 (point-bound f.kind) f.points in
    let w = joined-bound working_bytes 4 working-bound f.workings in
    omega (arith, h.name.0, p, w, few-points (length f.points) h.points.0, few-workings (length f.workings) h.workings.0, length-append f.name (bytes_each (point_bytes f.kind) f.points ++ bytes_each working_bytes f.workings), length-append ps (bytes_each working_bytes f.workings))

-- writing, then reading
pub reads-back : (f : File) → Fileable f → decode f.kind (encode f) ≡ took f []
reads-back f h =
    let n = length (encode f) in
    let k = f.kind in
    let s₄ = bytes_each working_bytes f.workings in
    let s₃ = bytes_each (point_bytes k) f.points ++ s₄ in
    let s₂ = name_bytes f.name ++ s₃ in
    cond-false _ _ _ (le-ltb 65535 n (file-bound f h)) ∙
    at_after (head_at k n (head_bytes k f.allowance ++ s₂)) _ f.allowance s₂ ((head-undo k).reads n f.allowance s₂ h.allowance) ∙
    at_after (name_at n s₂) _ f.name s₃ (name-undo.reads n f.name s₃ h.name) ∙
    at_after (points_at k n s₃) _ f.points s₄ ((points-undo k).reads n f.points s₄ h.points) ∙
    at_after (workings_at n s₄) _ f.workings [] (ap (workings_at n) (sym (append-nil s₄)) ∙ workings-undo.reads n f.workings [] h.workings)

-- reading, then writing
ended_is : (g f : File) (n : ℕ) (bs r : List ℕ) → ended g n bs ≡ took f r → (bs ≡ []) × (g ≡ f)
ended_is g f n [] r e = (refl, cc)
ended_is g f n (b ∷ bs) r e = absurd (cc)

sections-are : (k : FileKind) (n : ℕ) (bs : List ℕ) (f : File) (r : List ℕ) → Bytes bs → sections k n bs ≡ took f r → IsFile k bs f
sections-are k n bs f r b e =
    let t = taken-after (head_at k n bs) _ f r e in
    let u = taken-after (name_at n t.1) _ f r t.3 in
    let v = taken-after (points_at k n u.1) _ f r u.3 in
    let w = taken-after (workings_at n v.1) _ f r v.3 in
    let g : File = record { kind = k; allowance = t.0; name = u.0; points = v.0; workings = w.0 } in
    let z = ended_is g f n w.1 r w.3 in
    let d₁ = (head-undo k).wrote n bs t.0 t.1 b t.2 in
    let d₂ = name-undo.wrote n t.1 u.0 u.1 d₁.1.1 u.2 in
    let d₃ = (points-undo k).wrote n u.1 v.0 v.1 d₂.1.1 v.2 in
    let d₄ = workings-undo.wrote n v.1 w.0 w.1 d₃.1.1 w.2 in
    let last : v.1 ≡ bytes_each working_bytes w.0 = d₄.0 ∙ ap (λ s. bytes_each working_bytes w.0 ++ s) z.0 ∙ append-nil (bytes_each working_bytes w.0) in
    let whole : bs ≡ encode g = d₁.0 ∙ ap (λ s. head_bytes k t.0 ++ s) (d₂.0 ∙ ap (λ s. name_bytes u.0 ++ s) (d₃.0 ∙ ap (λ s. bytes_each (point_bytes k) v.0 ++ s) last)) in
    let fine : Fileable g = record { allowance = d₁.1.0; name = d₂.1.0; points = d₃.1.0; workings = d₄.1.0 } in
    subst (IsFile k bs) z.1 (record { bytes = whole; kind = refl; fileable = fine })

pub is-file : (k : FileKind) (bs : List ℕ) (f : File) (r : List ℕ) → Bytes bs → decode k bs ≡ took f r → IsFile k bs f
is-file k bs f r b e = go (ltb 65535 (length bs)) e
  where
    go : (v : Bool) → cond v (bad (refuse Overlong 0)) (sections k (length bs) bs) ≡ took f r → IsFile k bs f
    go true q = absurd (cc)
    go false q = sections-are k (length bs) bs f r b q
