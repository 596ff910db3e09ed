-- The vertices of pieces: the first piece's start and every piece's end, with their parameters times 4,096.
use Rattle.std.specs.Prelude.{ℕ, ◌-◌, List, [], ◌∷◌, map, length, slice_index_or}
use Rattle.points.specs.Points.{Point, origin}
use Rattle.flattening.specs.Pieces.{Piece, end_of, Outcome, bent, kept}

-- the first and the last point of a polygon
abbrev pub first_of : List Point → Point
first_of ps = slice_index_or ps 0 origin

abbrev pub last_of : List Point → Point
last_of ps = slice_index_or ps (length ps - 1) origin

-- every piece's end
abbrev pub ends : List Piece → List Point
ends xs = map (λ x. last_of x.points) xs

abbrev pub marks : List Piece → List ℕ
marks xs = map end_of xs

-- the vertices of a polygon by its pieces, and their parameters; none if a piece is bent
abbrev pub vertices : List Point → Outcome → List Point
vertices ps (bent s) = []
vertices ps (kept xs) = first_of ps ∷ ends xs

abbrev pub parameters : Outcome → List ℕ
parameters (bent s) = []
parameters (kept xs) = 0 ∷ marks xs
