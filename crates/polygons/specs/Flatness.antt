-- Flat polygons. The tolerance is a function of the axis.
use Rattle.std.specs.Prelude.{◌≡◌, ℕ, ◌-◌, ◌*◌, ◌<◌, Bool, true, false, List, length, ℤ, pos, ◌+ℤ◌, ◌-ℤ◌, ◌*ℤ◌, Option, Some, None, Ok, Err, Result, nat_lt, slice_index_or, unsigned_abs}
use Rattle.points.specs.declared.fault.Fault.{Fault}
use Rattle.points.specs.Points.{Point, origin}
use Rattle.polygons.specs.Buffers.{sized}
use Rattle.polygons.specs.declared.flatness.Off.{Off}

-- n·x differs from (n − i)·a + i·b by more than n·q
unfoldable pub off_by : ℕ → ℕ → ℕ → ℤ → ℤ → ℤ → Bool
off_by n i q a x b = nat_lt (n * q) (unsigned_abs (pos n *ℤ x -ℤ (pos (n - i) *ℤ a +ℤ pos i *ℤ b)))

-- point i of a polygon is off by more than the tolerance on an axis
abbrev pub off_at : List Point → (ℕ → ℕ) → ℕ → ℕ → Bool
off_at ps q i a = off_by (length ps - 1) i (q a) (slice_index_or ps 0 origin a) (slice_index_or ps i origin a) (slice_index_or ps (length ps - 1) origin a)

-- a polygon is flat, or has a first point that is off, and on it a first axis
abbrev pub FirstOff : List Point → (ℕ → ℕ) → Option Off → Type 0
FirstOff ps q None = (i : ℕ) → i < length ps → (a : ℕ) → off_at ps q i a ≡ false
FirstOff ps q (Some o) = (o.point < length ps) × (off_at ps q o.point o.axis ≡ true) × ((j : ℕ) → j < o.point → (b : ℕ) → off_at ps q j b ≡ false) × ((b : ℕ) → b < o.axis → off_at ps q o.point b ≡ false)

-- the answer of the flat test on a slice of n places
abbrev pub Tested : List Point → ℕ → (ℕ → ℕ) → Result (Option Off) Fault → Type 0
Tested ps n q (Ok v) = (sized n ≡ Ok tt) × FirstOff ps q v
Tested ps n q (Err f) = sized n ≡ Err f
