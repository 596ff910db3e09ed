-- What flattening answers, and what it leaves on its buffers.
use Rattle.std.specs.Prelude.{◌≡◌, ℕ, ◌+◌, ◌*◌, ◌<◌, ◌≤◌, max, cond, ◌||◌, List, [], map, length, take, drop, Ok, Err, Result, nat_lt}
use Rattle.points.specs.declared.fault.Fault.{Fault}
use Rattle.points.specs.declared.fault.Refusal.TheVariants.{Short, Bent}
use Rattle.points.specs.Refusals.{refuse}
use Rattle.points.specs.Points.{Point}
use Rattle.sources.specs.Meaning.{Meaning, fails, holds, Held}
use Rattle.flattening.specs.Pieces.{Outcome, bent, kept}
use Rattle.flattening.specs.Flat.{flat_pieces}
use Rattle.flattening.specs.Vertices.{vertices, parameters}
use Rattle.flattening.specs.Walks.{walked}

-- the places of the working buffer that are needed: 13 pieces of 17 points, or the reach if that is more
abbrev pub needed : Held → ℕ
needed h = max h.reach 221

-- the answer by the pieces and the lengths of the two vertex buffers
abbrev pub judged : Outcome → ℕ → ℕ → Result ℕ Fault
judged (bent s) points parameters = Err (refuse Bent s)
judged (kept xs) points parameters = cond (nat_lt points (1 + length xs) || nat_lt parameters (1 + length xs)) (Err (refuse Short (1 + length xs))) (Ok (1 + length xs))

-- the number of vertices, or survey's fault, 2 for the working buffer, 9, then 2 for the vertex buffers
abbrev pub flatten_of : ℕ → (ℕ → ℕ) → Meaning → ℕ → ℕ → ℕ → Result ℕ Fault
flatten_of width tol (fails f) working points parameters = Err f
flatten_of width tol (holds h) working points parameters = cond (nat_lt working (needed h)) (Err (refuse Short (needed h))) (judged (flat_pieces width tol h.points) points parameters)

-- what is left on the working buffer: if it is too short, or the source fails, all as found; else the places needed are free and those past them as found
abbrev pub Freed : {X : Type 0} → Meaning → List X → List X → Type 0
Freed (fails f) before after = after ≡ before
Freed (holds h) before after = (length before < needed h → after ≡ before) × (drop (needed h) after ≡ drop (needed h) before)

-- the vertices of a source, and their parameters; none where it fails or a piece is bent
abbrev pub vertices_of : ℕ → (ℕ → ℕ) → Meaning → List Point
vertices_of width tol (fails f) = []
vertices_of width tol (holds h) = vertices h.points (flat_pieces width tol h.points)

abbrev pub parameters_of : ℕ → (ℕ → ℕ) → Meaning → List ℕ
parameters_of width tol (fails f) = []
parameters_of width tol (holds h) = parameters (flat_pieces width tol h.points)

-- An accepted call puts the values ys first on a vertex buffer and leaves the places past them; a refused one leaves all as found.
abbrev pub PutsFirst : {X Y : Type 0} → (X → Y) → List Y → Result ℕ Fault → List X → List X → Type 0
PutsFirst c ys (Ok n) before after = (map c (take (length ys) after) ≡ ys) × (drop (length ys) after ≡ drop (length ys) before)
PutsFirst c ys (Err f) before after = after ≡ before

-- the same where the working buffer is long enough
abbrev pub decided : ℕ → (ℕ → ℕ) → Meaning → ℕ → ℕ → Result ℕ Fault
decided width tol (fails f) points parameters = Err f
decided width tol (holds h) points parameters = judged (flat_pieces width tol h.points) points parameters

-- a source holds a polygon, and a buffer is long enough to draw it and to keep a stack of its pieces
abbrev pub Stackable : Meaning → ℕ → Type 0
Stackable (fails f) places = ⊥
Stackable (holds h) places = (h.reach ≤ places) × (13 * length h.points ≤ places)

-- past the places needed a buffer is as found
abbrev pub PastNeeded : {X : Type 0} → Meaning → List X → List X → Type 0
PastNeeded (fails f) before after = Unit {0}
PastNeeded (holds h) before after = drop (needed h) after ≡ drop (needed h) before

-- the answer of a walk over the pieces of a source
abbrev pub walk_of : ℕ → (ℕ → ℕ) → Meaning → Result (Unit {0}) Fault
walk_of width tol (fails f) = Err f
walk_of width tol (holds h) = walked (flat_pieces width tol h.points)
