-- Piles of workings as the mathematics has them.
use Rattle.std.proofs.Common.{◌≡◌, ℕ, ◌+◌, ◌^◌, ◌<◌, false, ltb, List, [], ◌∷◌, ◌++◌, length, Ok, Err, Result, sym, refl, ap, ◌∙◌, subst, sub-one, arith}
use Rattle.std.proofs.lemmas.Bool.{or_parts, ltb-false}
use Rattle.exact.specs.Polygon.{degree}
use Rattle.exact.specs.Workings as exact
use Rattle.points.specs.declared.fault.Fault.{Fault}
use Rattle.points.specs.declared.parameter.Parameter.{Parameter}
use Rattle.points.specs.Parameters.{off_scale}
use Rattle.points.specs.Points.{Point, mix_point}
use Rattle.workings.specs.declared.survey.Survey.{Survey}
use Rattle.workings.specs.declared.working.Working.{Working}
use Rattle.workings.specs.declared.working.Working.TheVariants.{Left, Right, Raise, Turn}
use Rattle.workings.specs.Workings.{place, step, steps, shape, charge_of, next_degree, off_scale_in, after}
use Rattle.workings.proofs.Tests.{after-ok}
use Rattle.workings.proofs.Shapes.{length-shape}
use Rattle.sources.specs.Meaning.{Meaning, fails, holds, Held, told}
use Rattle.sources.specs.Piles.{climbed, settled, work, piled}

fault-held : {A : Type 0} (f : Fault) (h : Held) → fails f ≡ holds h → A
fault-held f h q = cc

-- no pile over a fault holds anything
pub over-fault : {A : Type 0} (ws : List Working) (f : Fault) (h : Held) → piled ws (fails f) ≡ holds h → A
over-fault [] f h q = fault-held f h q
over-fault (w ∷ ws) f h q = over-fault ws (climbed f) h q

-- what is held above a working
pub settled-held : (r : Result Survey Fault) (qs : List Point) (h : Held) → settled r qs ≡ holds h → (t : Survey) × (r ≡ Ok t) × (h.points ≡ qs) × (h.allowance ≡ t.allowance)
settled-held (Ok t) qs h q = let k : h ≡ record { points = qs; allowance = t.allowance; reach = t.reach } = cc in (t, refl, ap (λ v. v.points) k, ap (λ v. v.allowance) k)
settled-held (Err f) qs h q = fault-held f h q

pub in-range : (t : Parameter) → off_scale t ≡ false → exact.InRange (place t)
in-range t o = ltb-false (2 ^ t.k) t.a (or_parts (ltb 15 t.k) (ltb (2 ^ t.k) t.a) o).1

valid : (w : Working) → off_scale_in w ≡ false → exact.Valid (step w)
valid (Left t) p = in-range t p
valid (Right t) p = in-range t p
valid Raise p = tt
valid Turn p = tt

-- qs with the allowance e' is the pile over ps with the allowance e
pub record Over (ws : List Working) (ps : List Point) (e : ℕ) (qs : List Point) (e' : ℕ) : Type 0 where
  pub valid : exact.AllValid (steps ws)
  pub points : qs ≡ exact.pile mix_point (steps ws) ps
  pub numbers : degree qs ≡ exact.degree_over (steps ws) (degree ps)
  pub allowance : e' ≡ exact.allowance_over (steps ws) (degree ps) e

over-one : (w : Working) (ws : List Working) (h x q : Held) → work w (holds h) ≡ holds x → 0 < length h.points → (0 < length x.points → Over ws x.points x.allowance q.points q.allowance) → Over (w ∷ ws) h.points h.allowance q.points q.allowance
over-one w ws h x q e z more =
    let ps = h.points in
    let k = settled-held (after w (told h)) (shape w ps) x e in
    let a = after-ok w (told h) k.0 k.1 in
    let long = length-shape w ps z in
    let some : 0 < length x.points = subst (λ ys. 0 < length ys) (sym k.2) (omega arith) in
    let dg : degree x.points ≡ next_degree w (degree ps) = ap degree k.2 ∙ sym (sub-one (length (shape w ps))) ∙ omega arith ∙ ap (next_degree w) (sub-one (length ps)) in
    let al : x.allowance ≡ h.allowance + charge_of w (degree ps) = k.3 ∙ a.allowance ∙ ap (λ n. h.allowance + charge_of w n) (sub-one (length ps)) in
    let o = more some in
    record {
      valid = (valid w a.fit.scale, o.valid);
      points = o.points ∙ ap (exact.pile mix_point (steps ws)) k.2;
      numbers = o.numbers ∙ ap (exact.degree_over (steps ws)) dg;
      allowance = o.allowance ∙ ap (λ n. exact.allowance_over (steps ws) n x.allowance) dg ∙ ap (exact.allowance_over (steps ws) (next_degree w (degree ps))) al;
    }

pub over : (ws : List Working) (h q : Held) → piled ws (holds h) ≡ holds q → 0 < length h.points → Over ws h.points h.allowance q.points q.allowance
over [] h q e z =
    let k : q ≡ h = cc in
    record { valid = tt; points = ap (λ v. v.points) k; numbers = ap (λ v. degree v.points) k; allowance = ap (λ v. v.allowance) k }
over (w ∷ ws) h q e z = by (λ x k y. over ws x q k y) (work w (holds h)) refl e
  where
    by : ((x : Held) → piled ws (holds x) ≡ holds q → 0 < length x.points → Over ws x.points x.allowance q.points q.allowance) → (m : Meaning) → work w (holds h) ≡ m → piled ws m ≡ holds q → Over (w ∷ ws) h.points h.allowance q.points q.allowance
    by more (fails f) i k = over-fault ws f q k
    by more (holds x) i k = over-one w ws h x q i z (more x k)

-- a pile over no points holds none
shape-none : (w : Working) → shape w [] ≡ []
shape-none (Left t) = refl
shape-none (Right t) = refl
shape-none Raise = refl
shape-none Turn = refl

over_none : (ws : List Working) (h q : Held) → h.points ≡ [] → piled ws (holds h) ≡ holds q → q.points ≡ []
over_none [] h q n e = let k : q ≡ h = cc in ap (λ v. v.points) k ∙ n
over_none (w ∷ ws) h q n e = by (λ x i k. over_none ws x q i k) (work w (holds h)) refl e
  where
    by : ((x : Held) → x.points ≡ [] → piled ws (holds x) ≡ holds q → q.points ≡ []) → (m : Meaning) → work w (holds h) ≡ m → piled ws m ≡ holds q → q.points ≡ []
    by more (fails f) i k = over-fault ws f q k
    by more (holds x) i k =
        let s = settled-held (after w (told h)) (shape w h.points) x i in
        more x (s.2 ∙ ap (shape w) n ∙ shape-none w) k

pub over-some : (ws : List Working) (h q : Held) → 0 < length q.points → piled ws (holds h) ≡ holds q → 0 < length h.points
over-some ws h q z e = by h.points refl
  where
    by : (ps : List Point) → h.points ≡ ps → 0 < length h.points
    by [] n = let k = ap length (over_none ws h q n e) in absurd (omega arith)
    by (p ∷ ps) n = subst (λ ys. 0 < length ys) (sym n) (omega arith)

pub piled-append : (vs ws : List Working) (m : Meaning) → piled (vs ++ ws) m ≡ piled ws (piled vs m)
piled-append [] ws m = refl
piled-append (v ∷ vs) ws m = piled-append vs ws (work v m)
