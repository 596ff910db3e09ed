-- Survey and draw of a cut.
use Rattle.std.proofs.Common.{◌≡◌, ℕ, ◌+◌, false, length, Ok, Err, Result, sym, refl, ap, ◌∙◌, arith}
use Rattle.std.proofs.lemmas.Grind.{common_steps}
use Rattle.std.proofs.lemmas.List.FromFn.{length-map-range_with_len}
use Rattle.points.specs.declared.fault.Fault.{Fault}
use Rattle.points.specs.declared.parameter.Parameter.{Parameter}
use Rattle.points.specs.Parameters.{off_scale}
use Rattle.points.specs.Points.{origin}
use Rattle.workings.specs.declared.survey.Survey.{Survey}
use Rattle.workings.proofs.Tests.{err-ok}
use Rattle.sources.specs.Meaning.{holds, Held, told, survey_of}
use Rattle.sources.specs.Piles.{settled}
use Rattle.sources.specs.Points.{point_at}
use Rattle.patches.specs.Nets.{Net, column, cut_points, cut_survey, cut_of, Gridded}

-- the tests that an accepted cut has passed, and what is told of it
pub record Passed (s : Parameter) (m n e points : ℕ) (t : Survey) : Type 0 where
  pub scale : off_scale s ≡ false
  pub gridded : Gridded m n points
  pub is : t ≡ record { degree = n; allowance = e + m; reach = n + 1 + m }

pub survey-ok : (s : Parameter) (m n e points : ℕ) (t : Survey) → cut_survey s m n e points ≡ Ok t → Passed s m n e points t
survey-ok s m n e points t q = record {
  scale = grind (arith, common_steps);
  gridded = record {
    m_low = grind (arith, common_steps);
    m_most = grind (arith, common_steps);
    n_low = grind (arith, common_steps);
    n_most = grind (arith, common_steps);
    grid = grind (arith, common_steps);
  };
  is = grind (arith, common_steps);
}

module _ (s : Parameter) (P : Net) where
  -- what a cut holds
  abbrev pub held : Held
  held = record { points = cut_points s P.m P.n P.points; allowance = P.allowance + P.m; reach = P.n + 1 + P.m }

  pub length_cut : length held.points ≡ P.n + 1
  length_cut = length-map-range_with_len (λ j. point_at s (column origin P.m P.n P.points j)) 0 (P.n + 1)

  told_is : told held ≡ record { degree = P.n; allowance = P.allowance + P.m; reach = P.n + 1 + P.m }
  told_is = let l = length_cut in grind (arith, common_steps)

  abbrev pub Accepted : Survey → Type 0
  Accepted t = Passed s P.m P.n P.allowance (length P.points) t

  pub means-held : (t : Survey) → Accepted t → cut_survey s P.m P.n P.allowance (length P.points) ≡ Ok t → cut_of s P ≡ holds held
  means-held t a q = ap (λ v. settled v held.points) (q ∙ ap Ok a.is)

  -- survey answers what is told
  pub surveyed : (r : Result Survey Fault) (k : ℕ) → length P.points ≡ k → r ≡ cut_survey s P.m P.n P.allowance k → r ≡ survey_of (cut_of s P)
  surveyed r k l e = e ∙ ap (cut_survey s P.m P.n P.allowance) (sym l) ∙ by (cut_survey s P.m P.n P.allowance (length P.points)) refl
    where
      by : (v : Result Survey Fault) → cut_survey s P.m P.n P.allowance (length P.points) ≡ v → v ≡ survey_of (settled v held.points)
      by (Err f) q = refl
      by (Ok t) q = let a = survey-ok s P.m P.n P.allowance (length P.points) t q in ap Ok (a.is ∙ sym told_is) ∙ ap (λ v. survey_of (settled (Ok v) held.points)) (sym a.is)

  -- a cut that was surveyed holds its points
  pub surveyed-held : (t : Survey) → Ok t ≡ survey_of (cut_of s P) → Accepted t × (cut_of s P ≡ holds held) × (t ≡ told held)
  surveyed-held t e = by (cut_survey s P.m P.n P.allowance (length P.points)) refl
    where
      by : (v : Result Survey Fault) → cut_survey s P.m P.n P.allowance (length P.points) ≡ v → Accepted t × (cut_of s P ≡ holds held) × (t ≡ told held)
      by (Err f) q = err-ok f t (sym (e ∙ ap (λ v. survey_of (settled v held.points)) q))
      by (Ok u) q =
          let a = survey-ok s P.m P.n P.allowance (length P.points) u q in
          let k = means-held u a q in
          let o : Ok t ≡ Ok (told held) = e ∙ ap survey_of k in
          let i : t ≡ told held = cc in
          (record { scale = a.scale; gridded = a.gridded; is = i ∙ told_is }, k, i)
