-- A polygon in memory fits, and a working over a source that fits does.
use Rattle.std.specs.Prelude.{◌≡◌, ℕ, ◌-◌, ◌≤◌, Bool, true, false, cond, ◌||◌, List, length, Ok, Err, Result, nat_lt, refl}
use Rattle.std.proofs.Common.{arith}
use Rattle.std.proofs.lemmas.Bool.{or_parts, ltb-false}
use Rattle.points.specs.declared.fault.Fault.{Fault}
use Rattle.points.specs.declared.fault.Refusal.TheVariants.{Degree}
use Rattle.points.specs.Refusals.{refuse}
use Rattle.points.specs.Points.{Point}
use Rattle.workings.specs.declared.survey.Survey.{Survey}
use Rattle.workings.specs.declared.working.Working.{Working}
use Rattle.workings.specs.Workings.{after, shape}
use Rattle.workings.proofs.Tests.{after-ok, after-err}
use Rattle.workings.proofs.Shapes.{grows, length-shape}
use Rattle.sources.specs.Meaning.{Meaning, fails, holds, Held, Fit, Sound, told, holding, in_memory}
use Rattle.sources.specs.Piles.{settled, work}

pub memory_sound : (ps : List Point) (e : ℕ) → e ≤ 65535 → Sound (in_memory ps e)
memory_sound ps e h = by (nat_lt (length ps) 2 || nat_lt 17 (length ps)) refl
  where
    by : (b : Bool) → (nat_lt (length ps) 2 || nat_lt 17 (length ps)) ≡ b → Sound (holding (cond b (Err (refuse Degree (length ps))) (Ok tt)) (record { points = ps; allowance = e; reach = length ps }))
    by true q = λ s. cc
    by false q =
        let o = or_parts (nat_lt (length ps) 2) (nat_lt 17 (length ps)) q in
        record { some = ltb-false (length ps) 2 o.0; most = ltb-false 17 (length ps) o.1; small = h; roomy = omega arith }

settled_sound : (w : Working) (h : Held) → Fit h → (r : Result Survey Fault) → after w (told h) ≡ r → Sound (settled r (shape w h.points))
settled_sound w h s (Err f) e = after-err w (told h) f e
settled_sound w h s (Ok t) e =
    let a = after-ok w (told h) t e in
    let l = length-shape w h.points (omega arith) in
    let d = a.fit.is in
    record { some = omega (arith, a.fit.low, grows w (length h.points - 1)); most = omega (arith, a.fit.most); small = a.most; roomy = omega (arith, a.reach) }

pub work_sound : (w : Working) (m : Meaning) → Sound m → Sound (work w m)
work_sound w (fails f) s = s
work_sound w (holds h) s = settled_sound w h s (after w (told h)) refl
