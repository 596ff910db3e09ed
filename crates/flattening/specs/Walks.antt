-- A walk over the pieces of a stack's top piece, and the vertices that it adds.
use Rattle.std.specs.Prelude.{◌≡◌, ℕ, ◌+◌, ◌-◌, ◌*◌, ◌^◌, ◌≤◌, List, map, length, take, drop, Ok, Err, Result}
use Rattle.std.proofs.lemmas.List.Edits.{sets}
use Rattle.points.specs.declared.fault.Fault.{Fault}
use Rattle.points.specs.declared.fault.Refusal.TheVariants.{Bent}
use Rattle.points.specs.Refusals.{refuse}
use Rattle.points.specs.Points.{Point}
use Rattle.flattening.specs.declared.stack.Stack.{Stack}
use Rattle.flattening.specs.declared.vertices.Vertices.{Vertices}
use Rattle.flattening.specs.Pieces.{Outcome, bent, kept, pieces, WhenKept}
use Rattle.flattening.specs.Flat.{flat?}
use Rattle.flattening.specs.Vertices.{ends, marks}
use Rattle.flattening.specs.Stacks.{top_of}

-- both vertex buffers have places for so many vertices
abbrev pub HasPlaces : {K : Type 0} → Vertices K → ℕ → Type 0
HasPlaces v count = (count ≤ length v.points.now) × (count ≤ length v.parameters.now)

-- The values ys are put from place i on, as far as the buffer is long; the places past them stay.
pub record PutFrom {X Y : Type 0} (c : X → Y) (i : ℕ) (ys : List Y) (before after : List X) : Type 0 where
  pub puts : map c after ≡ sets (map c before) i ys
  pub rest : drop (i + length ys) after ≡ drop (i + length ys) before

-- From v to w: vertices at the points ps with the parameters ms are added, as far as the buffers are long; the places past them stay.
pub record Adds {K : Type 0} (c : K → Point) (ps : List Point) (ms : List ℕ) (v w : Vertices K) : Type 0 where
  pub even : length ms ≡ length ps
  pub count : w.count ≡ v.count + length ps
  pub points : PutFrom c v.count ps v.points.now w.points.now
  pub parameters : PutFrom (λ m. m) v.count ms v.parameters.now w.parameters.now

-- the pieces of the top piece, which starts at `start` and may be halved so many times more
abbrev pub top_pieces : {K : Type 0} → (K → Point) → ℕ → (ℕ → ℕ) → ℕ → ℕ → Stack K → Outcome
top_pieces c width tol halvings start s = pieces (flat? width tol) halvings start (map c (top_of s))

-- the answer of a walk: the first bent piece is its fault
abbrev pub walked : Outcome → Result (Unit {0}) Fault
walked (bent s) = Err (refuse Bent s)
walked (kept xs) = Ok tt

-- There is a top piece, its parameters lie within the 4,096 parts, and the buffer has a place for every half that a walk may leave waiting.
pub record Walkable {K : Type 0} (halvings start : ℕ) (s : Stack K) (v : Vertices K) : Type 0 where
  pub some : s.size ≤ s.used
  pub room : s.used + halvings * s.size ≤ length s.buffer.now
  pub few : halvings ≤ 12
  pub within : start + 2 ^ halvings ≤ 4096
  pub after : v.count ≤ 1 + start

-- From s to t: the top piece is taken off unless a piece is bent. The places below it stay, and so do those above all that may have waited.
pub record Walked {K : Type 0} (o : Outcome) (halvings : ℕ) (s t : Stack K) : Type 0 where
  pub size : t.size ≡ s.size
  pub long : length t.buffer.now ≡ length s.buffer.now
  pub below : take (s.used - s.size) t.buffer.now ≡ take (s.used - s.size) s.buffer.now
  pub above : drop (s.used + halvings * s.size) t.buffer.now ≡ drop (s.used + halvings * s.size) s.buffer.now
  pub popped : WhenKept o (λ _. t.used ≡ s.used - s.size)

-- A walk that answered r took the stack from s to t and the vertices from v to w: unless a piece is bent, the end of every piece is added.
pub record Walk {K : Type 0} (c : K → Point) (o : Outcome) (halvings : ℕ) (s t : Stack K) (v w : Vertices K) (r : Result (Unit {0}) Fault) : Type 0 where
  pub answer : r ≡ walked o
  pub stack : Walked o halvings s t
  pub vertices : WhenKept o (λ xs. Adds c (ends xs) (marks xs) v w)
