-- Patches and what a cut of one means.
use Rattle.std.specs.Prelude.{◌≡◌, ℕ, ◌+◌, ◌*◌, ◌≤◌, Bool, cond, not, ◌||◌, List, map, length, Ok, Err, Result, ◌==◌, nat_lt, slice_index_or}
use Rattle.std.specs.List.{range_with_len}
use Rattle.points.specs.declared.fault.Fault.{Fault}
use Rattle.points.specs.declared.fault.Refusal.TheVariants.{OffScale, Degree, Worn, Grid}
use Rattle.points.specs.declared.parameter.Parameter.{Parameter}
use Rattle.points.specs.Refusals.{refuse}
use Rattle.points.specs.Parameters.{off_scale}
use Rattle.points.specs.Points.{Point, origin}
use Rattle.workings.specs.declared.survey.Survey.{Survey}
use Rattle.sources.specs.Meaning.{Meaning}
use Rattle.sources.specs.Piles.{settled}
use Rattle.sources.specs.Points.{point_at}
use Rattle.patches.specs.declared.patch.Patch.{Patch}

-- a control net: the degrees, the allowance that is told, and the control points
pub record Net : Type 0 where
  pub m : ℕ
  pub n : ℕ
  pub allowance : ℕ
  pub points : List Point

-- the net of a patch whose points are read by c
abbrev pub net_of : {K : Type 0} → (K → Point) → Patch K → Net
net_of c p = record { m = p.m; n = p.n; allowance = p.allowance; points = map c p.points.now }

-- where point (i, j) stands: row after row, n + 1 points in each
abbrev pub place_of : ℕ → ℕ → ℕ → ℕ → ℕ
place_of m n i j = i * (n + 1) + j

-- column j: the points (0, j) to (m, j); d stands for what is not there
abbrev pub column : {A : Type 0} → A → ℕ → ℕ → List A → ℕ → List A
column d m n xs j = map (λ i. slice_index_or xs (place_of m n i j) d) (range_with_len 0 (m + 1))

-- the points of the cut at s: point j is the point at s of column j
abbrev pub cut_points : Parameter → ℕ → ℕ → List Point → List Point
cut_points s m n ps = map (λ j. point_at s (column origin m n ps j)) (range_with_len 0 (n + 1))

-- a degree is 1 to 16
abbrev pub no_degree : ℕ → Bool
no_degree n = nat_lt n 1 || nat_lt 16 n

-- What is told of the cut at s: degree n, allowance e + m, reach n + 1 + m. It tests 1 for s, 3 for m, 3 for n, 10 for the number of points, then 4.
abbrev pub cut_survey : Parameter → ℕ → ℕ → ℕ → ℕ → Result Survey Fault
cut_survey s m n e points =
    cond (off_scale s) (Err (refuse OffScale 0))
    (cond (no_degree m) (Err (refuse Degree m))
    (cond (no_degree n) (Err (refuse Degree n))
    (cond (not (points == (m + 1) * (n + 1))) (Err (refuse Grid ((m + 1) * (n + 1))))
    (cond (nat_lt 65535 (e + m)) (Err (refuse Worn m))
    (Ok (record { degree = n; allowance = e + m; reach = n + 1 + m }))))))

-- what the cut at s of a patch means
abbrev pub cut_of : Parameter → Net → Meaning
cut_of s P = settled (cut_survey s P.m P.n P.allowance (length P.points)) (cut_points s P.m P.n P.points)

-- Within: degrees that pass, and a point for each row and column.
pub record Gridded (m n points : ℕ) : Type 0 where
  pub m_low : 1 ≤ m
  pub m_most : m ≤ 16
  pub n_low : 1 ≤ n
  pub n_most : n ≤ 16
  pub grid : points ≡ (m + 1) * (n + 1)
