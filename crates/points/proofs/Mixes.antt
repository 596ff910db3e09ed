use Rattle.std.proofs.Common.{◌≡◌, ℕ, zero, suc, ◌+◌, ◌-◌, ◌*◌, ◌/◌, ◌<◌, ◌≤◌, min, pos, sym, refl, ap, ◌∙◌, mul-le-mul_left, arith}
use mathlib.Core.Path.{fun_ext}
use native.Mathlib.Nat.{div-eq_of_lt}
use Rattle.std.proofs.lemmas.Nat.{div_below}
use Rattle.std.proofs.Math.Nat.{sub-add_cancel}
use Rattle.points.specs.declared.height.Height.{Height}
use Rattle.points.specs.declared.planar.Planar.{Planar}
use Rattle.points.specs.declared.sample.Sample.{Sample}
use Rattle.points.specs.Points.{mixed, mix_point, height, planar, sample}

-- an axis that is lacking stays so
pub mixed-zero : (w d : ℕ) → 1 ≤ d → pos 0 ≡ mixed w d (pos 0) (pos 0)
unfolding mixed
mixed-zero w d h = ap pos (sym (ap (λ x. x / (2 * d)) (omega arith) ∙ div-eq_of_lt {n = d} {m = 2 * d} (omega arith)))

-- naturals up to a bound mix to one
pub mixed-nat : (w d a b m : ℕ) → 1 ≤ d → w ≤ d → a ≤ m → b ≤ m → (n : ℕ) × (mixed w d (pos a) (pos b) ≡ pos n) × (n ≤ m)
unfolding mixed
mixed-nat w d a b m dl wd al bl =
    let E = d - w in
    let x : E * a ≤ E * m = mul-le-mul_left E al in
    let y : w * b ≤ w * m = mul-le-mul_left w bl in
    let z : E * m + w * m ≡ d * m = omega (arith, ap (λ x. x * m) (sub-add_cancel wd)) in
    let s = (2 * (E * a + w * b) + d) / (2 * d) in
    let l : s < suc m = div_below (2 * (E * a + w * b) + d) (2 * d) (suc m) (omega arith) (omega arith) in
    (s, refl, omega arith)

pub planar-mixed : (w d : ℕ) (p q r : Planar) → 1 ≤ d → r.x ≡ mixed w d p.x q.x → r.y ≡ mixed w d p.y q.y → planar r ≡ mix_point w d (planar p) (planar q)
planar-mixed w d p q r h ex ey = fun_ext at
  where
    at : (a : ℕ) → planar r a ≡ mix_point w d (planar p) (planar q) a
    at zero = ex
    at (suc zero) = ey
    at (suc (suc a)) = mixed-zero w d h

pub sample-mixed : (w d : ℕ) (p q r : Sample) → 1 ≤ d → w ≤ d → r.x ≡ mixed w d p.x q.x → r.y ≡ mixed w d p.y q.y → pos r.press ≡ mixed w d (pos (min p.press 4095)) (pos (min q.press 4095)) → sample r ≡ mix_point w d (sample p) (sample q)
sample-mixed w d p q r h wd ex ey ez = fun_ext at
  where
    at : (a : ℕ) → sample r a ≡ mix_point w d (sample p) (sample q) a
    at zero = ex
    at (suc zero) = ey
    at (suc (suc zero)) =
        let n = mixed-nat w d (min p.press 4095) (min q.press 4095) 4095 h wd (omega arith) (omega arith) in
        let e : pos r.press ≡ pos n.0 = ez ∙ n.1 in
        let k : r.press ≡ n.0 = cc in
        ap pos (omega arith) ∙ ez
    at (suc (suc (suc a))) = mixed-zero w d h

pub height-mixed : (w d : ℕ) (p q r : Height) → 1 ≤ d → r.z ≡ mixed w d p.z q.z → height r ≡ mix_point w d (height p) (height q)
height-mixed w d p q r h ez = fun_ext at
  where
    at : (a : ℕ) → height r a ≡ mix_point w d (height p) (height q) a
    at zero = ez
    at (suc a) = mixed-zero w d h
