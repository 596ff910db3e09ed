-- What a cut means fits.
use Rattle.std.specs.Prelude.{◌≡◌, ◌+◌, ◌*◌, Bool, true, false, cond, not, List, length, Err, Result, ◌==◌, ◌≢◌, nat_lt, refl}
use Rattle.std.proofs.Common.{arith}
use Rattle.std.proofs.lemmas.Grind.{common_steps}
use Rattle.std.proofs.lemmas.List.FromFn.{length-map-range_with_len}
use Rattle.points.specs.declared.fault.Fault.{Fault}
use Rattle.points.specs.declared.fault.Refusal.TheVariants.{OffScale, Short, Degree, Worn, Grid}
use Rattle.points.specs.declared.parameter.Parameter.{Parameter}
use Rattle.points.specs.Refusals.{refuse}
use Rattle.points.specs.Parameters.{off_scale}
use Rattle.points.specs.Points.{Point, origin}
use Rattle.workings.specs.declared.survey.Survey.{Survey}
use Rattle.sources.specs.Meaning.{Sound, Fit}
use Rattle.sources.specs.Piles.{settled}
use Rattle.sources.specs.Points.{point_at}
use Rattle.patches.specs.Nets.{Net, column, cut_points, no_degree, cut_of}

-- a test that refuses, though never for a short buffer, keeps what is meant sound
past : (b : Bool) (f : Fault) (r : Result Survey Fault) (qs : List Point) → (f.refusal ≢ Short) → (b ≡ false → Sound (settled r qs)) → Sound (settled (cond b (Err f) r) qs)
past true f r qs never k = never
past false f r qs never k = k refl

scale-no : OffScale ≡ Short → ⊥
scale-no e = cc

degree-no : Degree ≡ Short → ⊥
degree-no e = cc

grid-no : Grid ≡ Short → ⊥
grid-no e = cc

worn-no : Worn ≡ Short → ⊥
worn-no e = cc

-- a cut of degree n fits
fit : (s : Parameter) (P : Net) → no_degree P.n ≡ false → nat_lt 65535 (P.allowance + P.m) ≡ false → Fit (record { points = cut_points s P.m P.n P.points; allowance = P.allowance + P.m; reach = P.n + 1 + P.m })
fit s P d w =
    let l = length-map-range_with_len (λ j. point_at s (column origin P.m P.n P.points j)) 0 (P.n + 1) in
    record { some = grind (arith, common_steps); most = grind (arith, common_steps); small = grind (arith, common_steps); roomy = omega arith }

pub cut_sound : (s : Parameter) (P : Net) → Sound (cut_of s P)
cut_sound s P =
    past (off_scale s) (refuse OffScale 0) _ _ scale-no
    (λ _. past (no_degree P.m) (refuse Degree P.m) _ _ degree-no
    (λ _. past (no_degree P.n) (refuse Degree P.n) _ _ degree-no
    (λ d. past (not (length P.points == (P.m + 1) * (P.n + 1))) (refuse Grid ((P.m + 1) * (P.n + 1))) _ _ grid-no
    (λ _. past (nat_lt 65535 (P.allowance + P.m)) (refuse Worn P.m) _ _ worn-no (λ w. fit s P d w)))))
