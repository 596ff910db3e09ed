-- What calls that read a file answer.
use Rattle.std.specs.Prelude.{◌≡◌, ℕ, cond, List, map, take, drop, Ok, Err, Result, MatchResult, nat_lt}
use Rattle.points.specs.Refusals.{refuse}
use Rattle.points.specs.declared.fault.Fault.{Fault}
use Rattle.points.specs.declared.fault.Refusal.TheVariants.{Short}
use Rattle.pathformat.specs.Reading.{Read, took, bad, Ends}
use Rattle.pathreading.specs.declared.fields.Unread.{Unread}

-- what is read where a file is read on: the value that the answer stands for and what is left of the same file, or the fault
abbrev pub ReadsAs : {X T : Type 0} → (T → X) → (ℕ → List ℕ → Read X) → Unread → Result (T × Unread) Fault → Type 0
ReadsAs value rd u r =
    MatchResult r (λ v. (rd u.total u.rest.now ≡ took (value v.0) v.1.rest.now) × (v.1.total ≡ u.total)) (λ e. rd u.total u.rest.now ≡ bad e)

-- the same where the answer is the value itself
abbrev pub Reads : {X : Type 0} → (ℕ → List ℕ → Read X) → Unread → Result (X × Unread) Fault → Type 0
Reads rd u r = ReadsAs (λ x. x) rd u r

-- what is left of the file u after fields that are passed over, or the fault
abbrev pub Skips : {X : Type 0} → Read (List X) → Unread → Result Unread Fault → Type 0
Skips q u r = MatchResult r (λ v. Ends q v.rest.now × (v.total ≡ u.total)) (λ e. q ≡ bad e)

-- n fields put onto a buffer with so many places: 2 where it is short, else the fault of reading, else n
abbrev pub if_read : {X : Type 0} → Read X → ℕ → Result ℕ Fault
if_read (took x r) n = Ok n
if_read (bad e) n = Err e

abbrev pub placing : {X : Type 0} → Read X → ℕ → ℕ → Result ℕ Fault
placing q n room = cond (nat_lt room n) (Err (refuse Short n)) (if_read q n)

-- what the buffer then holds: the values first and the later places untouched, or all as it was
abbrev pub Placed : {X I : Type 0} → (I → X) → List X → List I → List I → Result ℕ Fault → Type 0
Placed value xs before after r =
    MatchResult r (λ n. (map value (take n after) ≡ xs) × (drop n after ≡ drop n before)) (λ _. after ≡ before)
