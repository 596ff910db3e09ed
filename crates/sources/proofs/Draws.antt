-- Survey and draw over a working.
use Rattle.std.proofs.Common.{◌≡◌, ◌+◌, ◌-◌, ◌<◌, ◌≤◌, List, map, length, take, drop, Ok, Err, Result, sym, refl, ap, ◌∙◌, arith}
use Rattle.points.specs.declared.fault.Fault.{Fault}
use Rattle.points.specs.Points.{Point}
use Rattle.polygons.specs.Buffers.{Puts}
use Rattle.workings.specs.declared.survey.Survey.{Survey}
use Rattle.workings.specs.declared.working.Working.{Working}
use Rattle.workings.specs.Workings.{after, shape}
use Rattle.workings.proofs.Tests.{after-ok}
use Rattle.workings.proofs.Shapes.{length-shape}
use Rattle.sources.specs.Meaning.{Meaning, fails, holds, Held, Fit, Sound, told, survey_of, draw_of, Laid}
use Rattle.sources.specs.Piles.{climbing, settled, work}
use Rattle.sources.proofs.Meanings.{drawn-ok, laid_by, drop-further}

-- the degree that is told above a working is that of its points
pub degree-is : (w : Working) (h : Held) (t : Survey) → Fit h → after w (told h) ≡ Ok t → t.degree ≡ length (shape w h.points) - 1
degree-is w h t f q =
    let a = after-ok w (told h) t q in
    let l = length-shape w h.points (omega arith) in
    let d = a.fit.is in
    omega arith

settled-told : (r : Result Survey Fault) (qs : List Point) → ((t : Survey) → r ≡ Ok t → t.degree ≡ length qs - 1) → r ≡ survey_of (settled r qs)
settled-told (Ok t) qs h = ap (λ d. Ok (record { degree = d; allowance = t.allowance; reach = t.reach })) (h t refl)
settled-told (Err f) qs h = refl

pub survey-work : (w : Working) (m : Meaning) (s : Survey) → Sound m → Ok s ≡ climbing (survey_of m) → after w s ≡ survey_of (work w m)
survey-work w (fails f) s h e = cc
survey-work w (holds p) s h e =
    let q : s ≡ told p = cc in
    ap (after w) q ∙ settled-told (after w (told p)) (shape w p.points) (λ t k. degree-is w p t h k)

-- what draw over a working leaves: mid is the buffer after the draw below, fin the buffer at the end
pub draw-work : {X : Type 0} (c : X → Point) (w : Working) (m : Meaning) (s t : Survey) (before mid fin : List X) → Sound m → Ok s ≡ climbing (survey_of m) → after w s ≡ Ok t → t.reach ≤ length before → Puts c (shape w (map c (take (s.degree + 1) mid))) (Ok tt) mid fin → Laid c m before mid → (Ok t ≡ draw_of (work w m) (length before)) × Laid c (work w m) before fin
draw-work c w (fails f) s t before mid fin h e q l put laid = cc
draw-work c w (holds p) s t before mid fin h e q l put laid =
    let k : s ≡ told p = cc in
    let d : s.degree ≡ length p.points - 1 = ap (λ v. v.degree) k in
    let q2 : after w (told p) ≡ Ok t = ap (after w) (sym k) ∙ q in
    let a = after-ok w (told p) t q2 in
    let r = a.reach in
    let n = a.fit.is in
    let above : Held = record { points = shape w p.points; allowance = t.allowance; reach = t.reach } in
    let means : work w (holds p) ≡ holds above = ap (λ v. settled v (shape w p.points)) q2 in
    let dg : t.degree ≡ length (shape w p.points) - 1 = degree-is w p t h q2 in
    let long = length-shape w p.points (omega arith) in
    let low = laid.1 (omega arith) in
    let was : map c (take (s.degree + 1) mid) ≡ p.points = ap (λ j. map c (take j mid)) (let z : s.degree + 1 ≡ length p.points = omega arith in z) ∙ low.0 in
    let same : shape w (map c (take (s.degree + 1) mid)) ≡ shape w p.points = ap (shape w) was in
    let first : map c (take (length (shape w p.points)) fin) ≡ shape w p.points = ap (λ qs. map c (take (length qs) fin)) (sym same) ∙ put.0 ∙ same in
    let rest : drop (length (shape w p.points)) fin ≡ drop (length (shape w p.points)) mid = ap (λ qs. drop (length qs) fin) (sym same) ∙ put.1 ∙ ap (λ qs. drop (length qs) mid) same in
    let past : drop t.reach fin ≡ drop t.reach before = drop-further fin mid (length (shape w p.points)) t.reach (omega arith) rest ∙ drop-further mid before p.reach t.reach (omega arith) low.1 in (
      drawn-ok above (length before) t (work w (holds p)) means (ap (λ v. record { degree = v; allowance = t.allowance; reach = t.reach }) dg) l,
      laid_by c (work w (holds p)) (holds above) before fin means ((λ (v : length before < t.reach). absurd (omega arith)), (λ _. (first, past))),
    )
