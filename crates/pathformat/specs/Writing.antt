-- The bytes of the fields of a file. Numbers are big-endian.
use Rattle.std.specs.Prelude.{ℕ, ◌/◌, ◌%◌, ◌<◌, List, [], ◌∷◌, ◌++◌, length, ℤ}
use Rattle.std.specs.Int.{w32}
use Rattle.std.proofs.Common.{of_z}
use Rattle.std.specs.List.{flat_map}

-- a number below 65,536, and a signed one of 32 bits in two's complement
abbrev pub bytes2 : ℕ → List ℕ
bytes2 x = x / 256 ∷ x % 256 ∷ []

abbrev pub bytes4 : ℤ → List ℕ
bytes4 z = let m = of_z w32 z in m / 16777216 ∷ m / 65536 % 256 ∷ m / 256 % 256 ∷ m % 256 ∷ []

-- fields of one sort after their count
abbrev pub bytes_each : {X : Type 0} → (X → List ℕ) → List X → List ℕ
bytes_each wr xs = bytes2 (length xs) ++ flat_map wr xs

-- numbers that are bytes
abbrev pub Bytes : List ℕ → Type 0
Bytes [] = Unit {0}
Bytes (x ∷ xs) = (x < 256) × Bytes xs

abbrev pub Each : {X : Type 0} → (X → Type 0) → List X → Type 0
Each P [] = Unit {0}
Each P (x ∷ xs) = P x × Each P xs
