-- The turns of a job's loop.
use Rattle.std.proofs.Common.{◌≡◌, ℕ, ◌+◌, ◌<◌, ◌≤◌, max, List, [], ◌∷◌, ◌++◌, map, length, get_or, take, drop, Some, Ok, Err, Option, Result, sym, refl, ap, ◌∙◌, subst, subst₂, arith}
use Rattle.std.proofs.lemmas.List.{take_more, get_or_default, map_push}
use Rattle.points.specs.declared.fault.Fault.{Fault}
use Rattle.points.specs.Points.{Point}
use Rattle.workings.specs.declared.survey.Survey.{Survey}
use Rattle.workings.specs.declared.working.Working.{Working}
use Rattle.workings.proofs.Tests.{err-ok}
use Rattle.sources.specs.Meaning.{Meaning, fails, holds, Laid, draw_of}
use Rattle.sources.proofs.Meanings.{drawn-told, drop-further}
use Rattle.strands.specs.States.{State, load_of, rework_of, Stepped, Step, strand_point}
use Rattle.strands.specs.Histories.{works, Reaches, Continues}
use Rattle.strands.proofs.Histories.{told-ok, keeps, step-rest, accurate-after}
use Rattle.jobs.specs.Jobs.{Stopped, written, Ran, Carries}

-- the first n workings were done, and the places that were not written are as before
abbrev pub Done : {X : Type 0} → (X → Point) → Meaning → List Working → ℕ → List X → State X → Type 0
Done c m ws n before s = Reaches c m (map works (take n ws)) (take n ws) s × (drop (written m s.degree) s.buffer ≡ drop (written m s.degree) before)

more-written : (m : Meaning) (d e : ℕ) → d ≤ e → written m d ≤ written m e
more-written (fails f) d e l = omega arith
more-written (holds h) d e l = omega arith

polygon-written : (m : Meaning) (d : ℕ) → d + 1 ≤ written m d
polygon-written (fails f) d = omega arith
polygon-written (holds h) d = omega arith

-- what load leaves of the buffer
pub loaded-rest : {X : Type 0} (c : X → Point) (m : Meaning) (before : List X) (s : State X) → load_of m (length before) ≡ Ok (s.degree, s.allowance) → Laid c m before s.buffer → drop (written m s.degree) s.buffer ≡ drop (written m s.degree) before
loaded-rest c (fails f) before s e l = ap (drop (s.degree + 1)) l
loaded-rest c (holds h) before s e l =
    let t = told-ok (draw_of (holds h) (length before)) s.degree s.allowance e in
    let k = drawn-told h (length before) t.0 (sym t.1) in
    drop-further s.buffer before h.reach (max h.reach (s.degree + 1)) (omega arith) (l.1 k.0).1

-- and what was done to it since
pub rest_from : {X : Type 0} (m : Meaning) (d e : ℕ) (before loaded after : List X) → d ≤ e → drop (written m d) loaded ≡ drop (written m d) before → drop (written m e) after ≡ drop (written m e) loaded → drop (written m e) after ≡ drop (written m e) before
rest_from m d e before loaded after l p q = q ∙ drop-further loaded before (written m d) (written m e) (more-written m d e l) p

-- both, of a strand that was loaded
pub rest_since : {X : Type 0} (c : X → Point) (m : Meaning) (e : ℕ) (before after : List X) (s : State X) → Ok (s.degree, s.allowance) ≡ load_of m (length before) → Laid c m before s.buffer → s.degree ≤ e → drop (written m e) after ≡ drop (written m e) s.buffer → drop (written m e) after ≡ drop (written m e) before
rest_since c m e before after s load laid l q = rest_from m s.degree e before s.buffer after l (loaded-rest c m before s (sym load) laid) q

-- workings that were done one after another keep their pile, and its points are accurate
pub ran : {X : Type 0} (c : X → Point) (width : ℕ) (m : Meaning) (ws : List Working) (n : ℕ) (f : Option Fault) (before : List X) (s : State X) → Reaches c m (map works (take n ws)) (take n ws) s → Stopped ws n f s → drop (written m s.degree) s.buffer ≡ drop (written m s.degree) before → Ran c m ws n f before s × Carries c width m (take n ws) s
ran c width m ws n f before s r stop rest = (
  record { done = r; stopped = stop; untouched = rest },
  record {
    keeps = keeps c m r;
    accurate = λ t places bottom vs e. accurate-after c width s t places (strand_point c t s places) refl m (map works (take n ws)) (take n ws) r bottom vs e;
  },
)

module _ {X : Type 0} (c : X → Point) (m : Meaning) (ws : List Working) (n : ℕ) (w d : Working) (before : List X) (s s' : State X) (l : n < length ws) (e : w ≡ get_or ws n d) where
  pub done_more : (u : Unit {0}) → Continues c w s s' (Ok u) → Step c w s s' (Ok u) → Done c m ws n before s → Done c m ws (n + 1) before s' × (s.degree ≤ s'.degree)
  done_more u k h r =
      let t : take (n + 1) ws ≡ take n ws ++ w ∷ [] = take_more ws n d l ∙ ap (λ x. take n ws ++ x ∷ []) (sym e) in
      let p = step-rest c m (take n ws) w s s' (keeps c m r.0) h in
      let past = written m s'.degree in
      let q = polygon-written m s'.degree in (
        (
          subst₂ (λ calls vs. Reaches c m calls vs s') (sym (ap (map works) t ∙ map_push works (take n ws) w)) (sym t) (k m (map works (take n ws)) (take n ws) r.0),
          drop-further s'.buffer s.buffer (s'.degree + 1) past q p.1 ∙ drop-further s.buffer before (written m s.degree) past (more-written m s.degree s'.degree p.0) r.1,
        ),
        p.0,
      )

  step-err : (v : Result Survey Fault) (f : Fault) → Stepped c w v s s' (Err f) → (v ≡ Err f) × (s' ≡ s)
  step-err (Ok t) f h = err-ok f tt h.0
  step-err (Err g) f h = let k = h.0 in let q : g ≡ f = cc in (ap Err q, h.1)

  pub done-stop : (f : Fault) (start : List X) → Step c w s s' (Err f) → Reaches c m (map works (take n ws)) (take n ws) s → drop (written m s.degree) s.buffer ≡ drop (written m s.degree) start → (width : ℕ) → Ran c m ws n (Some f) start s' × Carries c width m (take n ws) s'
  done-stop f start h r q width =
      let k = step-err (rework_of w s) f h in
      ran c width m ws n (Some f) start s' (subst (Reaches c m (map works (take n ws)) (take n ws)) (sym k.1) r)
      (l, λ x. ap (λ v. rework_of v s') (get_or_default ws n x d l ∙ sym e) ∙ ap (rework_of w) k.1 ∙ k.0)
      (subst (λ v. drop (written m v.degree) v.buffer ≡ drop (written m v.degree) start) (sym k.1) q)
