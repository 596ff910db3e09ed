-- Bytes put onto a buffer.
use Rattle.std.specs.Prelude.{◌≡◌, ℕ, ◌+◌, cond, List, ◌++◌, length, take, drop, Ok, Err, Result, MatchResult, nat_lt}
use Rattle.std.specs.Borrow.{Bor}
use Rattle.std.specs.List.{flat_map}
use Rattle.points.specs.declared.fault.Fault.{Fault}
use Rattle.points.specs.declared.fault.Refusal.TheVariants.{Short}
use Rattle.points.specs.Refusals.{refuse}

-- the buffer d once the bytes s were written at a place on it
abbrev pub put : ℕ → List ℕ → List ℕ → List ℕ
put at s d = take at d ++ (s ++ drop (at + length s) d)

-- parts one after another
abbrev pub joined : List (Bor (List ℕ)) → List ℕ
joined = flat_map (λ part. part.now)

-- a buffer of so many places takes bytes that end at a place, or refusal 2
abbrev pub room_for : ℕ → ℕ → Result ℕ Fault
room_for end places = cond (nat_lt places end) (Err (refuse Short end)) (Ok end)

-- an accepted call has written the bytes s at a place, and no others; a refused one has written nothing
abbrev pub Writes : {T : Type 0} → ℕ → List ℕ → List ℕ → List ℕ → Result T Fault → Type 0
Writes at s before after r = MatchResult r (λ _. after ≡ put at s before) (λ _. after ≡ before)
