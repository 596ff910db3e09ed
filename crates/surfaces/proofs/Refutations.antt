-- Lazy answers on surfaces, refuted on small patches.
use Rattle.std.proofs.Common.{ℕ, ◌+◌, ◌-◌, ◌*◌, [], ◌∷◌, pos, Ok, refl, subst, arith}
use borrow.Author.Differences.{ints}
use Rattle.exact.specs.Fractions.{HalfApart}
use Rattle.exact.specs.Curve.{exact}
use Rattle.exact.specs.Spans.{mark, evenly}
use Rattle.points.specs.Points.{mixed}
use Rattle.flattening.proofs.Bites.{close, depth-none}
use Rattle.patches.specs.Nets.{Net}
use Rattle.patches.specs.Surfaces.{surface_at, Follows, value_of}
use Rattle.surfaces.specs.Bounds.{OnSurface, ChordsOnSurface}
use Rattle.surfaces.specs.Refutations.{itself, height, start, half, one, stair, corner, ridge, SurfaceRefutations}

follows : (width : ℕ) (P : Net) → Follows width P (itself P)
follows width P i j a _ _ _ = close P.allowance _

not_by_columns : OnSurface 1 stair half start (Ok (height 1, 3)) → ⊥
unfolding exact
not_by_columns h = let b = (h (itself stair) (follows 1 stair) 0 (omega arith)).half in absurd (omega arith)

not_exchanged : OnSurface 1 stair start one (Ok (height 10, 3)) → ⊥
unfolding exact
not_exchanged h = let b = (h (itself stair) (follows 1 stair) 0 (omega arith)).half in absurd (omega arith)

not_without_m : OnSurface 1 corner half half (Ok (height 1, 1)) → ⊥
unfolding exact
not_without_m h = let b = (h (itself corner) (follows 1 corner) 0 (omega arith)).half in absurd (omega arith)

not_unhalved : ChordsOnSurface 1 (λ _. 1) ridge half (Ok 2) (height 0 ∷ (height 0 ∷ [])) (0 ∷ (4096 ∷ [])) → ⊥
unfolding exact evenly
not_unhalved h =
    let c = h 0 (omega arith) in
    let n = c.near (itself ridge) (follows 1 ridge) 0 (omega arith) (mark 2048) (omega (arith, ints)) (omega (arith, ints)) in
    let b = (subst (λ d. HalfApart (2 * 1 + (0 + 1 + 2 * d)) (evenly 0 (12 - d) (pos 0) (pos 0) (mark 2048)) (surface_at 1 2 (itself ridge) (value_of half) (mark 2048) 0)) (depth-none c.depth c.spans) n).half in
    absurd (omega arith)

pub surface-refutations : SurfaceRefutations
unfolding mixed
surface-refutations = record { follows = follows; worked = refl; held = refl; not_by_columns = not_by_columns; not_exchanged = not_exchanged; not_without_m = not_without_m; not_unhalved = not_unhalved }
