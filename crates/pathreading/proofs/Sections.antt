-- Sections whose items all read.
use Rattle.std.proofs.Common.{◌≡◌, ℕ, ◌<◌, ◌≤◌, Bool, true, false, cond, ltb, List, length, Ok, Err, sym, refl, ap, ◌∙◌, arith}
use Rattle.std.specs.List.{slice_get}
use Rattle.std.proofs.lemmas.Bool.{ltb-true, ltb-false}
use Rattle.points.specs.declared.fault.Fault.{Fault}
use Rattle.points.specs.declared.fault.Refusal.TheVariants.{Short}
use Rattle.points.specs.Refusals.{refuse}
use Rattle.pathformat.specs.Reading.{Read, took, bad, values, Ends}
use Rattle.pathreading.specs.declared.section.Section.{Section}
use Rattle.pathreading.specs.Outcomes.{placing, if_read}
use Rattle.pathreading.specs.Sections.{items_of, item_at, went_through, all_read}
use Rattle.pathreading.proofs.Many.{many-length, item-said}

taken : {X : Type 0} (q : Read (List X)) → went_through q ≡ true → (r : List ℕ) × Ends q r
taken (took xs r) e = (r, refl)
taken (bad w) e = absurd (let z : ◌≡◌ {A = ℕ} 0 1 = cc in omega arith)

module _ {X : Type 0} (rd : ℕ → List ℕ → Read X) (s : Section) (all : all_read rd s ≡ true) where
  abbrev items : List X
  items = values (items_of rd s)

  pub section-read : (r : List ℕ) × Ends (items_of rd s) r
  section-read = taken (items_of rd s) all

  pub count-read : s.count ≡ length items
  count-read = sym (many-length rd s.items.total s.count s.items.rest.now items section-read.0 section-read.1)

  pub item-read : (i : ℕ) → item_at rd s i ≡ slice_get items i
  item-read i = item-said rd s.items.total i s.count s.items.rest.now items section-read.0 section-read.1

  module _ (room : ℕ) where
    answer : placing (items_of rd s) s.count room ≡ cond (ltb room s.count) (Err (refuse Short s.count)) (Ok s.count)
    answer = ap (λ q. cond (ltb room s.count) (Err (refuse Short s.count)) (if_read q s.count)) section-read.1

    -- the buffer was long enough
    pub placed-ok : (m : ℕ) → Ok m ≡ placing (items_of rd s) s.count room → (s.count ≤ room) × (m ≡ s.count)
    placed-ok m p = by (ltb room s.count) refl (p ∙ answer)
      where
        by : (b : Bool) → ltb room s.count ≡ b → Ok m ≡ cond b (Err (refuse Short s.count)) (Ok s.count) → (s.count ≤ room) × (m ≡ s.count)
        by true t e = absurd (let z : ◌≡◌ {A = ℕ} 0 1 = cc in omega arith)
        by false t e = (ltb-false room s.count t, (cc))

    -- it was too short
    pub placed-err : (f : Fault) → Err f ≡ placing (items_of rd s) s.count room → (room < s.count) × (f ≡ refuse Short s.count)
    placed-err f p = by (ltb room s.count) refl (p ∙ answer)
      where
        by : (b : Bool) → ltb room s.count ≡ b → Err f ≡ cond b (Err (refuse Short s.count)) (Ok s.count) → (room < s.count) × (f ≡ refuse Short s.count)
        by true t e = (ltb-true room s.count t, (cc))
        by false t e = absurd (let z : ◌≡◌ {A = ℕ} 0 1 = cc in omega arith)
