-- Bezier surfaces, exactly: nothing of them rounds. And what a cut of a patch stands for.
use Rattle.std.specs.Prelude.{◌≡◌, ℕ, ◌+◌, ◌<◌, ◌≤◌, map, slice_index_or}
use Rattle.std.specs.List.{range_with_len}
use Rattle.exact.specs.Fractions.{Fraction, WithinHalf}
use Rattle.exact.specs.Curve.{exact}
use Rattle.exact.specs.Workings.{fraction}
use Rattle.points.specs.declared.parameter.Parameter.{Parameter}
use Rattle.points.specs.Points.{origin}
use Rattle.workings.specs.Workings.{place}
use Rattle.sources.specs.Meaning.{holds, Held}
use Rattle.sources.specs.Accuracy.{Drawing, along, Stands}
use Rattle.patches.specs.Nets.{Net, place_of, cut_of}

-- a patch drawing: control point (i, j) has a fraction on each axis
abbrev pub PatchDrawing : Type 0
PatchDrawing = ℕ → ℕ → ℕ → Fraction

-- its column j, the control points (0, j) to (m, j)
abbrev pub column_of : ℕ → PatchDrawing → ℕ → Drawing
column_of m E j = map (λ i. E i j) (range_with_len 0 (m + 1))

-- The isoparametric curve at s of a patch drawing of degrees m and n, its exact cut there: control point j is, on each axis, the exact point at s of column j.
abbrev pub isoparametric : ℕ → ℕ → PatchDrawing → Fraction → Drawing
isoparametric m n E s = map (λ j a. exact (along a (column_of m E j)) s) (range_with_len 0 (n + 1))

-- the point of the exact surface at s and t, on each axis: the exact point at t of the isoparametric curve at s
abbrev pub surface_at : ℕ → ℕ → PatchDrawing → Fraction → Fraction → ℕ → Fraction
surface_at m n E s t a = exact (along a (isoparametric m n E s)) t

-- a patch drawing stays, on every axis below the width, within half of the patch's allowance of each of its points
abbrev pub Follows : ℕ → Net → PatchDrawing → Type 0
Follows width P E = (i j a : ℕ) → i ≤ P.m → j ≤ P.n → a < width → WithinHalf P.allowance (slice_index_or P.points (place_of P.m P.n i j) origin a) (E i j a)

-- a parameter as a fraction
abbrev pub value_of : Parameter → Fraction
value_of t = fraction (place t)

-- a cut that holds a polygon stands, among others, for the isoparametric curve at s of every patch drawing that follows the patch
abbrev pub CutStands : ℕ → Net → Parameter → Type 0
CutStands width P s = (h : Held) → cut_of s P ≡ holds h → (E : PatchDrawing) → Follows width P E → Stands width (holds h) (isoparametric P.m P.n E (value_of s))
