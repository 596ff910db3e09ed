-- Pieces on a stack.
use Rattle.std.specs.Prelude.{◌≡◌, ◌+◌, ◌-◌, ◌≤◌, List, map, length, take, drop}
use Rattle.points.specs.Points.{Point}
use Rattle.flattening.specs.declared.stack.Stack.{Stack}
use Rattle.flattening.specs.Pieces.{left_half, right_half}

-- the top piece, and the one under it
abbrev pub top_of : {K : Type 0} → Stack K → List K
top_of s = drop (s.used - s.size) (take s.used s.buffer.now)

abbrev pub under_of : {K : Type 0} → Stack K → List K
under_of s = drop (s.used - s.size - s.size) (take (s.used - s.size) s.buffer.now)

-- there is a top piece
abbrev pub Topped : {K : Type 0} → Stack K → Type 0
Topped s = s.size ≤ s.used

-- there is a place for one piece more
abbrev pub Roomy : {K : Type 0} → Stack K → Type 0
Roomy s = s.used + s.size ≤ length s.buffer.now

-- From s to t: the top piece is taken off, and its places stay as they are.
pub record Popped {K : Type 0} (s t : Stack K) : Type 0 where
  pub buffer : t.buffer.now ≡ s.buffer.now
  pub size : t.size ≡ s.size
  pub used : t.used ≡ s.used - s.size

-- From s to t: the right half of the top piece is in its place, the left half above it, and all other places stay.
pub record Halved {K : Type 0} (c : K → Point) (s t : Stack K) : Type 0 where
  pub size : t.size ≡ s.size
  pub used : t.used ≡ s.used + s.size
  pub long : length t.buffer.now ≡ length s.buffer.now
  pub below : take (s.used - s.size) t.buffer.now ≡ take (s.used - s.size) s.buffer.now
  pub above : drop (s.used + s.size) t.buffer.now ≡ drop (s.used + s.size) s.buffer.now
  pub left : map c (top_of t) ≡ left_half (map c (top_of s))
  pub right : map c (under_of t) ≡ right_half (map c (top_of s))
