-- Reading and writing of the fields undo each other.
use Rattle.std.proofs.Common.{◌≡◌, ℕ, zero, suc, ◌+◌, ◌*◌, ◌/◌, ◌%◌, ◌^◌, ◌<◌, Bool, true, false, cond, List, [], ◌∷◌, ◌++◌, length, get_or, ℤ, sym, refl, ap, ◌∙◌, subst, append_assoc, arith, w8, w32, Fits, SFits, to_z, of_z}
use mir.Facts as facts
use Rattle.std.specs.List.{flat_map}
use Rattle.std.proofs.lemmas.Bool.{cond-true}
use Rattle.points.specs.declared.fault.Refusal.{Refusal}
use Rattle.points.specs.declared.fault.Fault.{Fault}
use Rattle.pathformat.specs.Reading.{Read, took, bad, fault, after, one, two, four, checked, many, counted}
use Rattle.pathformat.specs.Writing.{bytes2, bytes4, bytes_each, Bytes, Each}

-- reading and writing undo each other: what is written of a value that can be filed reads as that value, and what was read is what is written of it
pub record Undo {X : Type 0} (rd : ℕ → List ℕ → Read X) (wr : X → List ℕ) (ok : X → Type 0) : Type 0 where
  pub reads : (n : ℕ) (x : X) (r : List ℕ) → ok x → rd n (wr x ++ r) ≡ took x r
  pub wrote : (n : ℕ) (bs : List ℕ) (x : X) (r : List ℕ) → Bytes bs → rd n bs ≡ took x r → (bs ≡ wr x ++ r) × (ok x × Bytes r)

-- what was taken in two steps
pub taken-after : {X Y : Type 0} (q : Read X) (f : X → List ℕ → Read Y) (y : Y) (s : List ℕ) → after q f ≡ took y s → (x : X) × (r : List ℕ) × (q ≡ took x r) × (f x r ≡ took y s)
taken-after (took x r) f y s e = (x, r, refl, e)
taken-after (bad w) f y s e = absurd (cc)

-- what holds of a value and the bytes after it holds of those that were taken
pub along : {X : Type 0} (P : X → List ℕ → Type 0) (x y : X) (s r : List ℕ) → took x s ≡ took y r → P x s → P y r
along P x y s r e h = subst (λ z. P z r) (let q : x ≡ y = cc in q) (subst (P x) (let q : s ≡ r = cc in q) h)

pub at_after : {X Y : Type 0} (q : Read X) (f : X → List ℕ → Read Y) (x : X) (r : List ℕ) → q ≡ took x r → after q f ≡ f x r
at_after q f x r e = ap (λ p. after p f) e

pub bad-after : {X Y : Type 0} (q : Read X) (f : X → List ℕ → Read Y) (w : Fault) → q ≡ bad w → after q f ≡ bad w
bad-after q f w e = ap (λ p. after p f) e

abbrev pub byte : ℕ → Type 0
byte x = x < 256

abbrev pub short : ℕ → Type 0
short x = x < 65536

pub one-undo : Undo one (λ x. x ∷ []) byte
one-undo = record { reads = λ n x r h. refl; wrote = go }
  where
    go : (n : ℕ) (bs : List ℕ) (x : ℕ) (r : List ℕ) → Bytes bs → one n bs ≡ took x r → (bs ≡ x ∷ r) × ((x < 256) × Bytes r)
    go n [] x r b e = absurd (cc)
    go n (y ∷ bs) x r b e =
        let p : y ≡ x = cc in
        let q : bs ≡ r = cc in
        (cc, (omega (arith, b.0), subst Bytes q b.1))

pub two-undo : Undo two bytes2 short
two-undo = record { reads = λ n x r h. ap (λ m. took m r) (omega arith); wrote = go }
  where
    go : (n : ℕ) (bs : List ℕ) (x : ℕ) (r : List ℕ) → Bytes bs → two n bs ≡ took x r → (bs ≡ bytes2 x ++ r) × (short x × Bytes r)
    go n [] x r b e = absurd (cc)
    go n (y ∷ []) x r b e = absurd (cc)
    go n (y ∷ z ∷ bs) x r b e =
        let p : y * 256 + z ≡ x = cc in
        let q : bs ≡ r = cc in
        let hi : y ≡ x / 256 = omega (arith, b.0, b.1.0) in
        let lo : z ≡ x % 256 = omega (arith, b.0, b.1.0) in
        (cc, (omega (arith, b.0, b.1.0), subst Bytes q b.1.1))

abbrev pub axis : ℤ → Type 0
axis z = SFits w32 z

-- the four bytes of a number
digits4 : (x y z u : ℕ) → x < 256 → y < 256 → z < 256 → u < 256 → (m : ℕ) → m ≡ x * 16777216 + y * 65536 + z * 256 + u → (x ≡ m / 16777216) × (y ≡ m / 65536 % 256) × (z ≡ m / 256 % 256) × (u ≡ m % 256) × (m < 2 ^ 32)
digits4 x y z u hx hy hz hu m e = (omega arith, omega arith, omega arith, omega arith, omega arith)

joined4 : (m : ℕ) → m < 2 ^ 32 → m / 16777216 * 16777216 + m / 65536 % 256 * 65536 + m / 256 % 256 * 256 + m % 256 ≡ m
joined4 m h = omega arith

pub four-undo : Undo four bytes4 axis
four-undo = record {
  reads = λ n z r h. ap (λ m. took m r) (ap (to_z w32) (joined4 (of_z w32 z) (facts.Fits-of_z h).fits) ∙ facts.to_z-of_z h);
  wrote = go;
}
  where
    go : (n : ℕ) (bs : List ℕ) (x : ℤ) (r : List ℕ) → Bytes bs → four n bs ≡ took x r → (bs ≡ bytes4 x ++ r) × (axis x × Bytes r)
    go n [] x r b e = absurd (cc)
    go n (y ∷ []) x r b e = absurd (cc)
    go n (y ∷ z ∷ []) x r b e = absurd (cc)
    go n (y ∷ z ∷ u ∷ []) x r b e = absurd (cc)
    go n (y ∷ z ∷ u ∷ v ∷ bs) x r b e =
        let m = y * 16777216 + z * 65536 + u * 256 + v in
        let p : to_z w32 m ≡ x = cc in
        let q : bs ≡ r = cc in
        let fit : Fits w32 m = record { fits = (digits4 y z u v b.0 b.1.0 b.1.1.0 b.1.1.1.0 m refl).4 } in
        let d = digits4 y z u v b.0 b.1.0 b.1.1.0 b.1.1.1.0 (of_z w32 x) (ap (of_z w32) (sym p) ∙ facts.of_z-to_z fit) in
        ((λ i. d.0 i ∷ d.1 i ∷ d.2 i ∷ d.3 i ∷ q i), (subst (SFits w32) p (facts.sfits_to_z fit), subst Bytes q b.1.1.1.1))

-- a field under a test
module _ {X : Type 0} {rd : ℕ → List ℕ → Read X} {wr : X → List ℕ} {ok : X → Type 0} (u : Undo rd wr ok) where
  pub checked-undo : (fine : X → Bool) (w : Refusal) → Undo (checked fine w rd) wr (λ x. ok x × (fine x ≡ true))
  checked-undo fine w = record { reads = there; wrote = back }
    where
      there : (n : ℕ) (x : X) (r : List ℕ) → ok x × (fine x ≡ true) → checked fine w rd n (wr x ++ r) ≡ took x r
      there n x r h = at_after (rd n (wr x ++ r)) _ x r (u.reads n x r h.0) ∙ cond-true _ _ _ h.1

      back : (n : ℕ) (bs : List ℕ) (x : X) (r : List ℕ) → Bytes bs → checked fine w rd n bs ≡ took x r → (bs ≡ wr x ++ r) × ((ok x × (fine x ≡ true)) × Bytes r)
      back n bs x r b e =
          let t = taken-after (rd n bs) _ x r e in
          go t.0 t.1 (fine t.0) refl t.2 t.3
        where
          go : (y : X) (s : List ℕ) (v : Bool) → fine y ≡ v → rd n bs ≡ took y s → cond v (took y s) (bad (fault w n bs)) ≡ took x r → (bs ≡ wr x ++ r) × ((ok x × (fine x ≡ true)) × Bytes r)
          go y s true f p q =
              let yx : y ≡ x = cc in
              let sr : s ≡ r = cc in
              let d = u.wrote n bs x r b (p ∙ q) in
              (d.0, ((d.1.0, ap fine (sym yx) ∙ f), d.1.1))
          go y s false f p q = absurd (cc)

  step : (k : ℕ) (bs s : List ℕ) (x : X) (xs ys : List X) (r q : List ℕ) → bs ≡ wr x ++ s → ok x → (s ≡ flat_map wr ys ++ q) × (((length ys ≡ k) × Each ok ys) × Bytes q) → took (x ∷ ys) q ≡ took xs r → (bs ≡ flat_map wr xs ++ r) × (((length xs ≡ suc k) × Each ok xs) × Bytes r)
  step k bs s x xs ys r q p o h e =
      let P : List X → List ℕ → Type 0 = λ zs t. (bs ≡ flat_map wr zs ++ t) × (((length zs ≡ suc k) × Each ok zs) × Bytes t) in
      let here : P (x ∷ ys) q = (p ∙ ap (λ t. wr x ++ t) h.0 ∙ sym (append_assoc (wr x) (flat_map wr ys) q), ((ap suc h.1.0.0, (o, h.1.0.1)), h.1.1)) in
      along P (x ∷ ys) xs q r e here

  pub many-undo : (k : ℕ) → Undo (many rd k) (flat_map wr) (λ xs. (length xs ≡ k) × Each ok xs)
  many-undo k = record { reads = there k; wrote = back k }
    where
      there : (k n : ℕ) (xs : List X) (r : List ℕ) → (length xs ≡ k) × Each ok xs → many rd k n (flat_map wr xs ++ r) ≡ took xs r
      there zero n [] r h = refl
      there zero n (x ∷ xs) r h = absurd (omega (arith, h.0))
      there (suc k) n [] r h = absurd (omega (arith, h.0))
      there (suc k) n (x ∷ xs) r h =
          ap (many rd (suc k) n) (append_assoc (wr x) (flat_map wr xs) r) ∙ at_after _ _ x (flat_map wr xs ++ r) (u.reads n x (flat_map wr xs ++ r) h.1.0) ∙ at_after _ _ xs r (there k n xs r (omega (arith, h.0), h.1.1))

      back : (k n : ℕ) (bs : List ℕ) (xs : List X) (r : List ℕ) → Bytes bs → many rd k n bs ≡ took xs r → (bs ≡ flat_map wr xs ++ r) × (((length xs ≡ k) × Each ok xs) × Bytes r)
      back zero n bs [] r b e = let p : bs ≡ r = cc in (p, ((refl, tt), subst Bytes p b))
      back zero n bs (x ∷ xs) r b e = absurd (cc)
      back (suc k) n bs xs r b e =
          let t = taken-after (rd n bs) _ xs r e in
          let v = taken-after (many rd k n t.1) _ xs r t.3 in
          let d = u.wrote n bs t.0 t.1 b t.2 in
          let f = back k n t.1 v.0 v.1 d.1.1 v.2 in
          step k bs t.1 t.0 xs v.0 r v.1 d.0 d.1.0 f v.3

-- a count and as many fields
module _ {X : Type 0} {rd : ℕ → List ℕ → Read X} {wr : X → List ℕ} {ok : X → Type 0} (u : Undo rd wr ok) where
  pub counted-undo : (fine : ℕ → Bool) (w : Refusal) → ((k : ℕ) → fine k ≡ true → k < 65536) → Undo (counted fine w rd) (bytes_each wr) (λ xs. (fine (length xs) ≡ true) × Each ok xs)
  counted-undo fine w few = record { reads = there; wrote = back }
    where
      count : Undo (checked fine w two) bytes2 (λ k. short k × (fine k ≡ true))
      count = checked-undo two-undo fine w

      there : (n : ℕ) (xs : List X) (r : List ℕ) → (fine (length xs) ≡ true) × Each ok xs → counted fine w rd n (bytes_each wr xs ++ r) ≡ took xs r
      there n xs r h =
          at_after _ _ (length xs) (flat_map wr xs ++ r) (count.reads n (length xs) (flat_map wr xs ++ r) (few (length xs) h.0, h.0)) ∙ (many-undo u (length xs)).reads n xs r (refl, h.1)

      back : (n : ℕ) (bs : List ℕ) (xs : List X) (r : List ℕ) → Bytes bs → counted fine w rd n bs ≡ took xs r → (bs ≡ bytes_each wr xs ++ r) × (((fine (length xs) ≡ true) × Each ok xs) × Bytes r)
      back n bs xs r b e =
          let t = taken-after (checked fine w two n bs) _ xs r e in
          let d = count.wrote n bs t.0 t.1 b t.2 in
          let m = (many-undo u t.0).wrote n t.1 xs r d.1.1 t.3 in
          (d.0 ∙ ap (λ k. bytes2 k ++ t.1) (sym m.1.0.0) ∙ ap (λ s. bytes2 (length xs) ++ s) m.0, ((ap fine m.1.0.0 ∙ d.1.0.1, m.1.0.1), m.1.1))

-- the numbers of a slice of bytes are bytes
pub bytes-from : (bs : List ℕ) → ((i : ℕ) → Fits w8 (get_or bs i 0)) → Bytes bs
bytes-from [] h = tt
bytes-from (b ∷ bs) h = ((h zero).fits, bytes-from bs (λ i. h (suc i)))
