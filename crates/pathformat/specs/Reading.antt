-- How the fields of a file are read. Numbers are big-endian.
use Rattle.std.specs.Prelude.{◌≡◌, ℕ, zero, suc, ◌+◌, ◌-◌, ◌*◌, Bool, cond, List, [], ◌∷◌, length, take, drop, ℤ, nat_lt}
use Rattle.std.specs.Int.{w32}
use Rattle.std.proofs.Common.{to_z}
use Rattle.points.specs.Refusals.{refuse}
use Rattle.points.specs.declared.fault.Fault.{Fault}
use Rattle.points.specs.declared.fault.Refusal.{Refusal}
use Rattle.points.specs.declared.fault.Refusal.TheVariants.{Cut}

-- what reading comes to: a value and the bytes after it, or a fault
pub data Read (X : Type 0) : Type 0 where
  took : X → List ℕ → Read X
  bad : Fault → Read X

-- the fault of the field that begins where bs begins, in a file of n bytes
abbrev pub fault : Refusal → ℕ → List ℕ → Fault
fault w n bs = refuse w (n - length bs)

abbrev pub after : {X Y : Type 0} → Read X → (X → List ℕ → Read Y) → Read Y
after (took x bs) f = f x bs
after (bad e) f = bad e

-- what a file of n bytes has where bs is left of it: a number of one byte, of two, and a signed one of four
abbrev pub one : ℕ → List ℕ → Read ℕ
one n [] = bad (fault Cut n [])
one n (x ∷ bs) = took x bs

abbrev pub two : ℕ → List ℕ → Read ℕ
two n [] = bad (fault Cut n [])
two n (x ∷ []) = bad (fault Cut n (x ∷ []))
two n (x ∷ y ∷ bs) = took (x * 256 + y) bs

abbrev pub four : ℕ → List ℕ → Read ℤ
four n [] = bad (fault Cut n [])
four n (x ∷ []) = bad (fault Cut n (x ∷ []))
four n (x ∷ y ∷ []) = bad (fault Cut n (x ∷ y ∷ []))
four n (x ∷ y ∷ z ∷ []) = bad (fault Cut n (x ∷ y ∷ z ∷ []))
four n (x ∷ y ∷ z ∷ u ∷ bs) = took (to_z w32 (x * 16777216 + y * 65536 + z * 256 + u)) bs

-- the next k bytes as one field
abbrev pub part : ℕ → ℕ → List ℕ → Read (List ℕ)
part k n bs = cond (nat_lt (length bs) k) (bad (fault Cut n bs)) (took (take k bs) (drop k bs))

-- a field that is refused unless it passes a test
abbrev pub checked : {X : Type 0} → (X → Bool) → Refusal → (ℕ → List ℕ → Read X) → ℕ → List ℕ → Read X
checked ok w rd n bs = after (rd n bs) (λ x r. cond (ok x) (took x r) (bad (fault w n bs)))

-- k fields of one sort
abbrev pub many : {X : Type 0} → (ℕ → List ℕ → Read X) → ℕ → ℕ → List ℕ → Read (List X)
many rd zero n bs = took [] bs
many rd (suc k) n bs = after (rd n bs) (λ x r. after (many rd k n r) (λ xs s. took (x ∷ xs) s))

-- a count of two bytes that passes a test, and then as many fields
abbrev pub counted : {X : Type 0} → (ℕ → Bool) → Refusal → (ℕ → List ℕ → Read X) → ℕ → List ℕ → Read (List X)
counted ok w rd n bs = after (checked ok w two n bs) (λ k r. many rd k n r)

-- the values that were read, none at a fault
abbrev pub values : {X : Type 0} → Read (List X) → List X
values (took xs r) = xs
values (bad e) = []

-- reading went through, and r is left
abbrev pub Ends : {X : Type 0} → Read (List X) → List ℕ → Type 0
Ends q r = q ≡ took (values q) r
