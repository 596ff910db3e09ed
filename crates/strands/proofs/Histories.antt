-- A strand holds the pile of its accepted workings over the source that it was loaded from.
use Rattle.std.proofs.Common.{◌≡◌, ℕ, ◌+◌, ◌-◌, ◌≤◌, max, false, cond, ltb, List, [], ◌∷◌, ◌++◌, map, length, take, drop, Ok, Err, Result, sym, refl, ap, ◌∙◌, subst, arith}
use Rattle.std.proofs.lemmas.Bool.{cond_both}
use Rattle.points.specs.declared.fault.Fault.{Fault}
use Rattle.points.specs.declared.fault.Refusal.TheVariants.{OffScale, Short, Worn}
use Rattle.points.specs.declared.parameter.Parameter.{Parameter}
use Rattle.points.specs.Refusals.{refuse}
use Rattle.points.specs.Parameters.{off_scale}
use Rattle.points.specs.Points.{Point}
use Rattle.workings.specs.declared.survey.Survey.{Survey}
use Rattle.workings.specs.declared.working.Working.{Working}
use Rattle.workings.specs.Workings.{shape, charge_of, next_degree, tested, charged, after}
use Rattle.workings.proofs.Tests.{err-ok, passed, after-ok}
use Rattle.workings.proofs.Shapes.{grows, length-shape}
use Rattle.sources.specs.Meaning.{Meaning, fails, holds, Held, Fit, Sound, Laid, draw_of}
use Rattle.sources.specs.Meaning as meaning
use Rattle.sources.specs.Piles.{settled, work, piled}
use Rattle.sources.specs.Sounds.{work_sound}
use Rattle.sources.specs.Points.{point_at}
use Rattle.sources.specs.Accuracy.{Accurate, AccurateFor}
use Rattle.sources.proofs.Meanings.{drawn-told}
use Rattle.sources.proofs.Piling.{piled-append}
use Rattle.sources.proofs.Accuracy.{accurate-bottom}
use Rattle.strands.specs.States.{State, polygon, told, load_of, placed, rework_of, Reworked, Stepped, Step, strand_point}
use Rattle.strands.specs.Histories.{Call, Reaches, loaded, accepted, refused, asked, Keeps, Continues, AccurateAfter}

pub told-ok : (r : Result Survey Fault) (d e : ℕ) → told r ≡ Ok (d, e) → (t : Survey) × (r ≡ Ok t) × (t.degree ≡ d) × (t.allowance ≡ e)
told-ok (Err f) d e q = err-ok f (d, e) q
told-ok (Ok t) d e q = let k : ◌≡◌ {A = ℕ × ℕ} (t.degree, t.allowance) (d, e) = cc in (t, refl, ap (λ v. v.0) k, ap (λ v. v.1) k)

keeps-loaded : {X : Type 0} (c : X → Point) (m : Meaning) (s : State X) (before : List X) → Sound m → load_of m (length before) ≡ Ok (s.degree, s.allowance) → Laid c m before s.buffer → Keeps c m [] s
keeps-loaded c (fails f) s before h t l = err-ok f (s.degree, s.allowance) t
keeps-loaded c (holds p) s before h t l =
    let k = told-ok (draw_of (holds p) (length before)) s.degree s.allowance t in
    let u = drawn-told p (length before) k.0 (sym k.1) in
    let is = u.1 in
    let d : s.degree ≡ length p.points - 1 = sym k.2 ∙ ap (λ v. v.degree) is in
    let n : s.degree + 1 ≡ length p.points = omega arith in
    record {
      held = p;
      means = refl;
      points = sym (ap (λ j. map c (take j s.buffer)) n ∙ (l.1 u.0).0);
      allowance = sym (ap (λ v. v.allowance) is) ∙ k.3;
      count = n;
      fit = h;
    }

-- the reach that is told below changes only the reach that is told above
charged-reach : (w : Working) (d e a b : ℕ) (t : Survey) (r : Result ℕ Fault) → charged w (record { degree = d; allowance = e; reach = a }) r ≡ Ok t → charged w (record { degree = d; allowance = e; reach = b }) r ≡ Ok (record { degree = t.degree; allowance = t.allowance; reach = max b (t.degree + 1) })
charged-reach w d e a b t (Err f) q = err-ok f t q
charged-reach w d e a b t (Ok n) q =
    let p = passed (ltb 65535 (e + charge_of w d)) (refuse Worn (charge_of w d)) _ t q in
    let k = p.1 in
    let i : t ≡ record { degree = n; allowance = e + charge_of w d; reach = max a (n + 1) } = cc in
    ap (λ v. cond v (Err (refuse Worn (charge_of w d))) (Ok (record { degree = n; allowance = e + charge_of w d; reach = max b (n + 1) }))) p.0
    ∙ ap (λ v. Ok (record { degree = v.degree; allowance = v.allowance; reach = max b (v.degree + 1) })) (sym i)

placed-ok : (r : Result Survey Fault) (t : Survey) (places : ℕ) → placed r places ≡ Ok t → r ≡ Ok t
placed-ok (Err f) t places q = q
placed-ok (Ok u) t places q = (passed (ltb places (u.degree + 1)) (refuse Short (u.degree + 1)) (Ok u) t q).1

-- a step that was accepted, and one that was refused
accepts : {X : Type 0} (c : X → Point) (w : Working) (v : Result Survey Fault) (s s' : State X) → Stepped c w v s s' (Ok tt) → (t : Survey) × (v ≡ Ok t) × Reworked c w t s s'
accepts c w (Err f) s s' h = err-ok f tt (sym h.0)
accepts c w (Ok t) s s' h = (t, refl, h.1)

unchanged : {X : Type 0} (c : X → Point) (w : Working) (v : Result Survey Fault) (s s' : State X) (f : Fault) → Stepped c w v s s' (Err f) → s' ≡ s
unchanged c w (Ok t) s s' f h = err-ok f tt h.0
unchanged c w (Err g) s s' f h = h.1

keeps-accepted : {X : Type 0} (c : X → Point) (m : Meaning) (ws : List Working) (w : Working) (s s' : State X) → Keeps c m ws s → Step c w s s' (Ok tt) → Keeps c m (ws ++ w ∷ []) s'
keeps-accepted c m ws w s s' k h =
    let d = s.degree in
    let e = s.allowance in
    let p = k.held in
    let a = accepts c w (rework_of w s) s s' h in
    let t : Survey = a.0 in
    let rw : Reworked c w t s s' = a.2 in
    let q : after w (record { degree = d; allowance = e; reach = d + 1 }) ≡ Ok t = placed-ok (after w (record { degree = d; allowance = e; reach = d + 1 })) t (length s.buffer) a.1 in
    let up : Survey = record { degree = t.degree; allowance = t.allowance; reach = max p.reach (t.degree + 1) } in
    let deg : length p.points - 1 ≡ d = omega (arith, k.count) in
    let below : meaning.told p ≡ record { degree = d; allowance = e; reach = p.reach } = ap (λ n. record { degree = n; allowance = p.allowance; reach = p.reach }) deg ∙ ap (λ n. record { degree = d; allowance = n; reach = p.reach }) k.allowance in
    let q2 : after w (meaning.told p) ≡ Ok up = ap (after w) below ∙ charged-reach w d e (d + 1) p.reach t (tested w d) q in
    let above : Held = record { points = shape w p.points; allowance = t.allowance; reach = max p.reach (t.degree + 1) } in
    let worked : work w (holds p) ≡ holds above = ap (λ v. settled v (shape w p.points)) q2 in
    let f = k.fit in
    let fits : Fit above = subst Sound worked (work_sound w (holds p) f) in
    let is = (after-ok w (record { degree = d; allowance = e; reach = d + 1 }) t q).fit.is in
    let long : length (shape w p.points) ≡ t.degree + 1 = length-shape w p.points (omega arith) ∙ ap (λ n. next_degree w n + 1) deg ∙ ap (λ n. n + 1) (sym is) in
    let same : shape w (polygon c s) ≡ shape w p.points = ap (shape w) (sym k.points) in
    let pts : map c (take (s'.degree + 1) s'.buffer) ≡ shape w p.points = ap (λ n. map c (take n s'.buffer)) (ap (λ n. n + 1) rw.degree ∙ sym long ∙ ap length (sym same)) ∙ rw.buffer.0 ∙ same in
    record {
      held = above;
      means = piled-append ws (w ∷ []) m ∙ ap (work w) k.means ∙ worked;
      points = sym pts;
      allowance = sym rw.allowance;
      count = ap (λ n. n + 1) rw.degree ∙ sym long;
      fit = fits;
    }

-- an accepted working leaves the places past its polygon, which is no smaller than the one before
pub step-rest : {X : Type 0} (c : X → Point) (m : Meaning) (ws : List Working) (w : Working) (s s' : State X) → Keeps c m ws s → Step c w s s' (Ok tt) → (s.degree ≤ s'.degree) × (drop (s'.degree + 1) s'.buffer ≡ drop (s'.degree + 1) s.buffer)
step-rest c m ws w s s' k h =
    let a = accepts c w (rework_of w s) s s' h in
    let t : Survey = a.0 in
    let r : Reworked c w t s s' = a.2 in
    let below : Survey = record { degree = s.degree; allowance = s.allowance; reach = s.degree + 1 } in
    let is = (after-ok w below t (placed-ok (after w below) t (length s.buffer) a.1)).fit.is in
    let n : length (polygon c s) ≡ s.degree + 1 = ap length (sym k.points) ∙ sym k.count in
    let long : length (shape w (polygon c s)) ≡ s'.degree + 1 = length-shape w (polygon c s) (omega arith) ∙ ap (λ j. next_degree w j + 1) (let z : length (polygon c s) - 1 ≡ s.degree = omega arith in z) ∙ ap (λ j. j + 1) (sym is ∙ sym r.degree) in
    let up = grows w s.degree in
    let d = r.degree in
    (omega arith, subst (λ j. drop j s'.buffer ≡ drop j s.buffer) long r.buffer.1)

pub keeps : {X : Type 0} (c : X → Point) (m : Meaning) {calls : List Call} {ws : List Working} {s : State X} → Reaches c m calls ws s → Keeps c m ws s
keeps c m {s = s} (loaded before h t l) = keeps-loaded c m s before h t l
keeps c m (accepted {ws = ws} {s = s} {s' = s'} w r h) = keeps-accepted c m ws w s s' (keeps c m r) h
keeps c m (refused {ws = ws} {s = s} {s' = s'} w f r h) = subst (Keeps c m ws) (sym (unchanged c w (rework_of w s) s s' f h)) (keeps c m r)
keeps c m (asked t r) = keeps c m r

module _ {X : Type 0} (c : X → Point) (width : ℕ) (s : State X) (t : Parameter) (n : ℕ) where
  here : (m : Meaning) (ws : List Working) → Keeps c m ws s → (bottom : Meaning) (vs : List Working) → m ≡ piled vs bottom → AccurateFor width bottom (vs ++ ws) t (strand_point c t s n)
  here m ws k bottom vs e =
      cond_both (off_scale t) (Err (refuse OffScale 0)) _ (AccurateFor width bottom (vs ++ ws) t)
      (λ _. tt)
      (λ ok. cond_both (ltb (length s.buffer) (s.degree + 1)) (Err (refuse Short (s.degree + 1))) _ (AccurateFor width bottom (vs ++ ws) t)
      (λ _. tt)
      (λ _. cond_both (ltb n (s.degree + 1)) (Err (refuse Short (s.degree + 1))) (Ok (point_at t (polygon c s), s.allowance + s.degree)) (AccurateFor width bottom (vs ++ ws) t)
      (λ _. tt)
      (λ _. at ok)))
    where
      at : off_scale t ≡ false → Accurate width bottom (vs ++ ws) t (point_at t (polygon c s)) (s.allowance + s.degree)
      at ok =
          let f = k.fit in
          let p = k.held in
          let a = accurate-bottom width bottom p (vs ++ ws) t (omega arith) ok (piled-append vs ws bottom ∙ ap (piled ws) (sym e) ∙ k.means) in
          let d : p.allowance + (length p.points - 1) ≡ s.allowance + s.degree = omega (arith, k.count, k.allowance) in
          subst (λ j. Accurate width bottom (vs ++ ws) t (point_at t (polygon c s)) j) d (subst (λ ps. Accurate width bottom (vs ++ ws) t (point_at t ps) (p.allowance + (length p.points - 1))) k.points a)

  pub accurate-after : (v : Result (Point × ℕ) Fault) → v ≡ strand_point c t s n → AccurateAfter c width s t v
  accurate-after v q m calls ws r bottom vs e = subst (AccurateFor width bottom (vs ++ ws) t) (sym q) (here m ws (keeps c m r) bottom vs e)

pub continues : {X : Type 0} (c : X → Point) (w : Working) (s s' : State X) (r : Result (Unit {0}) Fault) → Step c w s s' r → Continues c w s s' r
continues c w s s' (Ok u) h m calls ws k = accepted w k h
continues c w s s' (Err f) h m calls ws k = refused w f k h
