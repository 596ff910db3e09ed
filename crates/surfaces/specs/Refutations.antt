-- What the statements on surfaces say by themselves, without the clauses that pin the answers; and the worked cut of the rules.
use Rattle.std.specs.Prelude.{◌≡◌, ℕ, [], ◌∷◌, map, pos, Ok, slice_index_or}
use Rattle.exact.specs.Fractions.{whole}
use Rattle.points.specs.declared.parameter.Parameter.{Parameter}
use Rattle.points.specs.Points.{Point, origin}
use Rattle.sources.specs.Meaning.{holds}
use Rattle.patches.specs.Nets.{Net, place_of, cut_points, cut_of}
use Rattle.patches.specs.Surfaces.{PatchDrawing, Follows}
use Rattle.surfaces.specs.Bounds.{OnSurface, ChordsOnSurface}

-- the points of a patch, as a patch drawing
abbrev pub itself : Net → PatchDrawing
itself P = λ i j a. whole (slice_index_or P.points (place_of P.m P.n i j) origin a)

abbrev pub height : ℕ → Point
height n = λ _. pos n

abbrev pub start : Parameter
start = record { a = 0; k = 0 }

abbrev pub half : Parameter
half = record { a = 1; k = 1 }

abbrev pub one : Parameter
one = record { a = 1; k = 0 }

-- heights 0, 1, 2 and 10, 11, 12 in two rows; and heights 0, 0 and 0, 1; both with allowance 0
abbrev pub stair : Net
stair = record { m = 1; n = 2; allowance = 0; points = height 0 ∷ (height 1 ∷ (height 2 ∷ (height 10 ∷ (height 11 ∷ (height 12 ∷ []))))) }

abbrev pub corner : Net
corner = record { m = 1; n = 1; allowance = 0; points = height 0 ∷ (height 0 ∷ (height 0 ∷ (height 1 ∷ []))) }

-- heights 0, 100, 0 in both rows, with allowance 0
abbrev pub ridge : Net
ridge = record { m = 1; n = 2; allowance = 0; points = height 0 ∷ (height 100 ∷ (height 0 ∷ (height 0 ∷ (height 100 ∷ (height 0 ∷ []))))) }

pub record SurfaceRefutations : Type 0 where
  -- a patch follows itself, so no statement is about nothing
  pub follows : (width : ℕ) (P : Net) → Follows width P (itself P)
  -- the cut at 1/2 of the two rows
  pub worked : map (λ p. p 0) (cut_points half 1 2 stair.points) ≡ pos 5 ∷ (pos 6 ∷ (pos 7 ∷ []))
  pub held : cut_of half stair ≡ holds (record { points = cut_points half 1 2 stair.points; allowance = 1; reach = 4 })
  -- the rows read as columns: the first point of the cut would be 1
  pub not_by_columns : OnSurface 1 stair half start (Ok (height 1, 3)) → ⊥
  -- the two parameters exchanged: 10 for 2
  pub not_exchanged : OnSurface 1 stair start one (Ok (height 10, 3)) → ⊥
  -- the right point, but with an allowance that does not count the degree m
  pub not_without_m : OnSurface 1 corner half half (Ok (height 1, 1)) → ⊥
  -- one chord over the ridge, to tolerance 1
  pub not_unhalved : ChordsOnSurface 1 (λ _. 1) ridge half (Ok 2) (height 0 ∷ (height 0 ∷ [])) (0 ∷ (4096 ∷ [])) → ⊥
