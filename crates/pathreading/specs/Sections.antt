-- Counted items in a file.
use Rattle.std.specs.Prelude.{◌≡◌, ℕ, Bool, true, false, cond, List, Some, None, Option, Result, MatchResult, nat_lt}
use Rattle.points.specs.declared.fault.Fault.{Fault}
use Rattle.pathformat.specs.Reading.{Read, took, bad, after, two, many, Ends}
use Rattle.pathreading.specs.declared.fields.Unread.{Unread}
use Rattle.pathreading.specs.declared.section.Section.{Section}

-- the items of a section, read one after another
abbrev pub items_of : {X : Type 0} → (ℕ → List ℕ → Read X) → Section → Read (List X)
items_of rd s = many rd s.count s.items.total s.items.rest.now

-- whether all of them read
abbrev pub went_through : {X : Type 0} → Read X → Bool
went_through (took x r) = true
went_through (bad e) = false

abbrev pub all_read : {X : Type 0} → (ℕ → List ℕ → Read X) → Section → Bool
all_read rd s = went_through (items_of rd s)

-- the value that was read, if any
abbrev pub read_value : {X : Type 0} → Read X → Option X
read_value (took x r) = Some x
read_value (bad e) = None

-- the item at an index, read after those before it; none past the count
abbrev pub item_at : {X : Type 0} → (ℕ → List ℕ → Read X) → Section → ℕ → Option X
item_at rd s i = cond (nat_lt i s.count) (read_value (after (many rd i s.items.total s.items.rest.now) (λ _ r. rd s.items.total r))) None

-- reading comes to the items of the section that is answered, all of which read, and to what is left after it; or to the fault
pub record Started {X : Type 0} (rd : ℕ → List ℕ → Read X) (q : Read (List X)) (s : Section) (rest : List ℕ) : Type 0 where
  pub items : q ≡ items_of rd s
  pub ends : Ends (items_of rd s) rest

abbrev pub Starts : {X : Type 0} → (ℕ → List ℕ → Read X) → (ℕ → List ℕ → Read (List X)) → Unread → Result (Section × Unread) Fault → Type 0
Starts rd all u r =
    MatchResult r (λ v. Started rd (all u.total u.rest.now) v.0 v.1.rest.now × (v.1.total ≡ u.total)) (λ e. all u.total u.rest.now ≡ bad e)

-- a section has the count that what is left of a file starts with, and holds what is left after it
pub record HoldsBytes (u : Unread) (s : Section) : Type 0 where
  pub bytes : two u.total u.rest.now ≡ took s.count s.items.rest.now
  pub length : s.items.total ≡ u.total
