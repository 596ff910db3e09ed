-- Points and workings: reading and writing undo each other.
use Rattle.std.proofs.Common.{◌≡◌, ℕ, ◌^◌, ◌<◌, ◌≤◌, Bool, true, false, cond, not, eqb, ltb, leb, List, [], ◌∷◌, ◌++◌, ℤ, pos, negsuc, sym, refl, ap, ◌∙◌, subst, append_assoc, arith, pow_mono}
use Rattle.std.proofs.lemmas.Bool.{ltb-false, leb-true, le-leb, eqb-true, not-true, or_parts}
use Rattle.pathformat.specs.declared.kind.FileKind.{FileKind}
use Rattle.points.specs.declared.parameter.Parameter.{Parameter}
use Rattle.workings.specs.declared.working.Working.{Working}
use Rattle.workings.specs.declared.working.Working.TheVariants.{Left, Right, Raise, Turn}
use Rattle.points.specs.declared.fault.Refusal.TheVariants.{OffScale, Press, Letter}
use Rattle.points.specs.Parameters.{off_scale}
use Rattle.pathformat.specs.Reading.{took, bad, fault, after, one, two}
use Rattle.pathformat.specs.Writing.{bytes2, Bytes}
use Rattle.pathformat.specs.File.{Field, axis, press, fields, press_at, field_at, fields_at, point_at, pair_at, parameter_at, working_at, field_bytes, fields_bytes, point_bytes, parameter_bytes, working_bytes, FieldOk, FieldsOk, WorkingOk}
use Rattle.pathformat.proofs.Fields.{Undo, taken-after, along, at_after, short, one-undo, two-undo, four-undo, checked-undo}

press-undo : Undo press_at bytes2 (λ p. short p × (leb p 4095 ≡ true))
press-undo = checked-undo two-undo (λ p. leb p 4095) Press

press-reads : (n : ℕ) (z : ℤ) (r : List ℕ) → FieldOk press z → field_at press n (field_bytes press z ++ r) ≡ took z r
press-reads n (pos p) r h = at_after _ _ p r (press-undo.reads n p r (omega arith, le-leb p 4095 h))
press-reads n (negsuc p) r h = absurd h

press-wrote : (n : ℕ) (bs : List ℕ) (z : ℤ) (r : List ℕ) → Bytes bs → field_at press n bs ≡ took z r → (bs ≡ field_bytes press z ++ r) × (FieldOk press z × Bytes r)
press-wrote n bs z r b e =
    let t = taken-after (press_at n bs) _ z r e in
    let d = press-undo.wrote n bs t.0 t.1 b t.2 in
    let P : ℤ → List ℕ → Type 0 = λ y s. (bs ≡ field_bytes press y ++ s) × (FieldOk press y × Bytes s) in
    let here : P (pos t.0) t.1 = (d.0, (leb-true t.0 4095 d.1.0.1, d.1.1)) in
    along P (pos t.0) z t.1 r t.3 here

field-undo : (f : Field) → Undo (field_at f) (field_bytes f) (FieldOk f)
field-undo axis = four-undo
field-undo press = record { reads = press-reads; wrote = press-wrote }

fields-reads : (fs : List Field) (n : ℕ) (zs : List ℤ) (r : List ℕ) → FieldsOk fs zs → fields_at fs n (fields_bytes fs zs ++ r) ≡ took zs r
fields-reads [] n [] r h = refl
fields-reads [] n (z ∷ zs) r h = absurd h
fields-reads (f ∷ fs) n [] r h = absurd h
fields-reads (f ∷ fs) n (z ∷ zs) r h =
    ap (fields_at (f ∷ fs) n) (append_assoc (field_bytes f z) (fields_bytes fs zs) r) ∙ at_after _ _ z (fields_bytes fs zs ++ r) ((field-undo f).reads n z (fields_bytes fs zs ++ r) h.0) ∙ at_after _ _ zs r (fields-reads fs n zs r h.1)

fields-wrote : (fs : List Field) (n : ℕ) (bs : List ℕ) (zs : List ℤ) (r : List ℕ) → Bytes bs → fields_at fs n bs ≡ took zs r → (bs ≡ fields_bytes fs zs ++ r) × (FieldsOk fs zs × Bytes r)
fields-wrote [] n bs [] r b e = let p : bs ≡ r = cc in (p, (tt, subst Bytes p b))
fields-wrote [] n bs (z ∷ zs) r b e = absurd (cc)
fields-wrote (f ∷ fs) n bs zs r b e =
    let t = taken-after (field_at f n bs) _ zs r e in
    let v = taken-after (fields_at fs n t.1) _ zs r t.3 in
    let d = (field-undo f).wrote n bs t.0 t.1 b t.2 in
    let g = fields-wrote fs n t.1 v.0 v.1 d.1.1 v.2 in
    let P : List ℤ → List ℕ → Type 0 = λ ys s. (bs ≡ fields_bytes (f ∷ fs) ys ++ s) × (FieldsOk (f ∷ fs) ys × Bytes s) in
    let here : P (t.0 ∷ v.0) v.1 = (d.0 ∙ ap (λ s. field_bytes f t.0 ++ s) g.0 ∙ sym (append_assoc (field_bytes f t.0) (fields_bytes fs v.0) v.1), ((d.1.0, g.1.0), g.1.1)) in
    along P (t.0 ∷ v.0) zs v.1 r v.3 here

pub point-undo : (k : FileKind) → Undo (point_at k) (point_bytes k) (FieldsOk (fields k))
point-undo k = record { reads = fields-reads (fields k); wrote = fields-wrote (fields k) }

-- a parameter
pair-undo : Undo pair_at parameter_bytes (λ p. (p.k < 256) × (p.a < 65536))
pair-undo = record { reads = λ n p r h. at_after (two n (bytes2 p.a ++ r)) (λ a s. took (record { a = a; k = p.k }) s) p.a r (two-undo.reads n p.a r h.1); wrote = back }
  where
    back : (n : ℕ) (bs : List ℕ) (p : Parameter) (r : List ℕ) → Bytes bs → pair_at n bs ≡ took p r → (bs ≡ parameter_bytes p ++ r) × (((p.k < 256) × (p.a < 65536)) × Bytes r)
    back n bs p r b e =
        let t = taken-after (one n bs) _ p r e in
        let v = taken-after (two n t.1) _ p r t.3 in
        let d = one-undo.wrote n bs t.0 t.1 b t.2 in
        let g = two-undo.wrote n t.1 v.0 v.1 d.1.1 v.2 in
        let q : Parameter = record { a = v.0; k = t.0 } in
        let P : Parameter → List ℕ → Type 0 = λ y s. (bs ≡ parameter_bytes y ++ s) × (((y.k < 256) × (y.a < 65536)) × Bytes s) in
        let here : P q v.1 = (d.0 ∙ ap (λ s. t.0 ∷ s) g.0, ((d.1.0, g.1.0), g.1.1)) in
        along P q p v.1 r v.3 here

on-scale : (p : Parameter) → off_scale p ≡ false → (p.k < 256) × (p.a < 65536)
on-scale p h =
    let t = or_parts (ltb 15 p.k) (ltb (2 ^ p.k) p.a) h in
    let k : p.k ≤ 15 = ltb-false 15 p.k t.0 in
    let a : p.a ≤ 2 ^ p.k = ltb-false (2 ^ p.k) p.a t.1 in
    let m : 2 ^ p.k ≤ 2 ^ 15 = pow_mono k in
    (omega arith, omega arith)

parameter-undo : Undo parameter_at parameter_bytes (λ p. off_scale p ≡ false)
parameter-undo = record {
  reads = λ n p r h. both.reads n p r (on-scale p h, ap not h);
  wrote = λ n bs p r b e. let d = both.wrote n bs p r b e in (d.0, (not-true (off_scale p) d.1.0.1, d.1.1));
}
  where
    both : Undo parameter_at parameter_bytes (λ p. ((p.k < 256) × (p.a < 65536)) × (not (off_scale p) ≡ true))
    both = checked-undo pair-undo (λ p. not (off_scale p)) OffScale

working-reads : (n : ℕ) (w : Working) (r : List ℕ) → WorkingOk w → working_at n (working_bytes w ++ r) ≡ took w r
working-reads n (Left p) r h = at_after _ _ p r (parameter-undo.reads n p r h)
working-reads n (Right p) r h = at_after _ _ p r (parameter-undo.reads n p r h)
working-reads n Raise r h = refl
working-reads n Turn r h = refl

-- a letter with a parameter
lettered : (b : ℕ) (make : Parameter → Working) → ((p : Parameter) → working_bytes (make p) ≡ b ∷ parameter_bytes p) → ((p : Parameter) → WorkingOk (make p) ≡ (off_scale p ≡ false)) → (n : ℕ) (bs : List ℕ) (w : Working) (r : List ℕ) → Bytes bs → after (parameter_at n bs) (λ p s. took (make p) s) ≡ took w r → (b ∷ bs ≡ working_bytes w ++ r) × (WorkingOk w × Bytes r)
lettered b make says means n bs w r h e =
    let t = taken-after (parameter_at n bs) _ w r e in
    let d = parameter-undo.wrote n bs t.0 t.1 h t.2 in
    let P : Working → List ℕ → Type 0 = λ y s. (b ∷ bs ≡ working_bytes y ++ s) × (WorkingOk y × Bytes s) in
    let here : P (make t.0) t.1 = (ap (λ s. b ∷ s) d.0 ∙ ap (λ s. s ++ t.1) (sym (says t.0)), (coe-to (sym (means t.0)) d.1.0, d.1.1)) in
    along P (make t.0) w t.1 r t.3 here
  where
    coe-to : {A B : Type 0} → A ≡ B → A → B
    coe-to q x = subst (λ (T : Type 0). T) q x

plain : (b : ℕ) (v w : Working) (bs r : List ℕ) → working_bytes v ≡ b ∷ [] → WorkingOk v → Bytes bs → took v bs ≡ took w r → (b ∷ bs ≡ working_bytes w ++ r) × (WorkingOk w × Bytes r)
plain b v w bs r says ok h e =
    let P : Working → List ℕ → Type 0 = λ y s. (b ∷ bs ≡ working_bytes y ++ s) × (WorkingOk y × Bytes s) in
    let here : P v bs = (ap (λ s. s ++ bs) (sym says), (ok, h)) in
    along P v w bs r e here

working-wrote : (n : ℕ) (bs : List ℕ) (w : Working) (r : List ℕ) → Bytes bs → working_at n bs ≡ took w r → (bs ≡ working_bytes w ++ r) × (WorkingOk w × Bytes r)
working-wrote n [] w r h e = absurd (cc)
working-wrote n (b ∷ bs) w r h e = go (eqb b 76) (eqb b 82) (eqb b 85) (eqb b 84) (eqb-true b 76) (eqb-true b 82) (eqb-true b 85) (eqb-true b 84) e
  where
    go : (l m u t : Bool) → (l ≡ true → b ≡ 76) → (m ≡ true → b ≡ 82) → (u ≡ true → b ≡ 85) → (t ≡ true → b ≡ 84) → cond l (after (parameter_at n bs) (λ p s. took (Left p) s)) (cond m (after (parameter_at n bs) (λ p s. took (Right p) s)) (cond u (took Raise bs) (cond t (took Turn bs) (bad (fault Letter n (b ∷ bs)))))) ≡ took w r → (b ∷ bs ≡ working_bytes w ++ r) × (WorkingOk w × Bytes r)
    go true m u t hl hm hu ht q = lettered b Left (λ p. ap (λ x. x ∷ parameter_bytes p) (sym (hl refl))) (λ p. refl) n bs w r h.1 q
    go false true u t hl hm hu ht q = lettered b Right (λ p. ap (λ x. x ∷ parameter_bytes p) (sym (hm refl))) (λ p. refl) n bs w r h.1 q
    go false false true t hl hm hu ht q = plain b Raise w bs r (ap (λ x. x ∷ []) (sym (hu refl))) tt h.1 q
    go false false false true hl hm hu ht q = plain b Turn w bs r (ap (λ x. x ∷ []) (sym (ht refl))) tt h.1 q
    go false false false false hl hm hu ht q = absurd (cc)

pub working-undo : Undo working_at working_bytes WorkingOk
working-undo = record { reads = working-reads; wrote = working-wrote }
