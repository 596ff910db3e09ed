-- The pieces of a polygon by halving, for any test that says which pieces are kept.
use Rattle.std.specs.Prelude.{ℕ, zero, suc, ◌+◌, ◌^◌, Bool, cond, List, [], ◌∷◌, ◌++◌}
use Rattle.points.specs.declared.parameter.Parameter.{Parameter}
use Rattle.points.specs.Points.{Point}
use Rattle.polygons.specs.Constructions.{left_part_at, right_part_at}

-- 1/2, and the two halves of a polygon
abbrev pub half : Parameter
half = record { a = 1; k = 1 }

unfoldable pub left_half : List Point → List Point
left_half ps = left_part_at half ps

unfoldable pub right_half : List Point → List Point
right_half ps = right_part_at half ps

-- A piece at depth 12 − halvings: it may be halved so many times more, and spans 2^halvings of the 4,096 parts of the parameter.
pub record Piece : Type 0 where
  pub halvings : ℕ
  pub start : ℕ
  pub points : List Point

abbrev pub end_of : Piece → ℕ
end_of p = p.start + 2 ^ p.halvings

-- what comes of a polygon: the start of a piece at depth 12 that is not kept, or the pieces that are kept, in order
pub data Outcome : Type 0 where
  bent : ℕ → Outcome
  kept : List Piece → Outcome

-- of two halves; the first bent piece counts
abbrev pub join : Outcome → Outcome → Outcome
join (bent s) o = bent s
join (kept xs) (bent s) = bent s
join (kept xs) (kept ys) = kept (xs ++ ys)

-- The pieces of a polygon that starts at s and may be halved so many times: it is kept if it passes the test, else its halves take its place, the left one first.
unfoldable pub pieces : (List Point → Bool) → ℕ → ℕ → List Point → Outcome
pieces test zero s ps = cond (test ps) (kept (record { halvings = 0; start = s; points = ps } ∷ [])) (bent s)
pieces test (suc h) s ps = cond (test ps) (kept (record { halvings = suc h; start = s; points = ps } ∷ [])) (join (pieces test h s (left_half ps)) (pieces test h (s + 2 ^ h) (right_half ps)))

-- Q of the pieces, where they are kept
abbrev pub WhenKept : Outcome → (List Piece → Type 0) → Type 0
WhenKept (bent s) Q = Unit {0}
WhenKept (kept ps) Q = Q ps
