-- The points after a working, and working in place.
use Rattle.std.proofs.Common.{◌≡◌, ℕ, ◌+◌, ◌-◌, ◌≤◌, false, cond, ltb, List, ◌++◌, map, length, take, drop, Ok, Err, Result, sym, refl, ap, ◌∙◌, arith}
use Rattle.std.proofs.lemmas.List.{length-map, length-take-le, take_all, take_at, drop_at, take-append-drop, length-reverse}
use Rattle.std.proofs.lemmas.Bool.{or_from, le-ltb}
use Rattle.exact.specs.Workings as exact
use Rattle.exact.proofs.Lists.{length-firsts, length-lasts, length-raise}
use Rattle.points.specs.declared.fault.Fault.{Fault}
use Rattle.points.specs.declared.fault.Refusal.TheVariants.{OffScale, Degree}
use Rattle.points.specs.declared.parameter.Parameter.{Parameter}
use Rattle.points.specs.Refusals.{refuse}
use Rattle.points.specs.Parameters.{off_scale}
use Rattle.points.specs.Points.{Point, mix_point}
use Rattle.polygons.specs.Buffers.{sized, scaled, Puts}
use Rattle.workings.specs.declared.working.Working.{Working}
use Rattle.workings.specs.declared.working.Working.TheVariants.{Left, Right, Raise, Turn}
use Rattle.workings.specs.Workings.{place, shape, next_degree, tested}
use Rattle.workings.proofs.Tests.{tested-ok}

-- no working lowers the degree
pub grows : (w : Working) (n : ℕ) → n ≤ next_degree w n
grows (Left t) n = omega arith
grows (Right t) n = omega arith
grows Raise n = omega arith
grows Turn n = omega arith

-- a working makes a polygon of its degree
pub length-shape : (w : Working) (ps : List Point) → 1 ≤ length ps → length (shape w ps) ≡ next_degree w (length ps - 1) + 1
length-shape (Left t) ps h = length-firsts (exact.mix_by mix_point (place t)) (length ps) ps refl ∙ omega arith
length-shape (Right t) ps h = length-lasts (exact.mix_by mix_point (place t)) (length ps) ps refl ∙ omega arith
length-shape Raise ps h = length-raise (λ i. mix_point i (length ps)) ps h ∙ omega arith
length-shape Turn ps h = length-reverse ps ∙ omega arith

-- a call on a polygon of the right size passes
pub sized-ok : (n : ℕ) → 2 ≤ n → n ≤ 17 → sized n ≡ Ok tt
sized-ok n l h = ap (λ b. cond b (Err (refuse Degree n)) (Ok tt)) (or_from (ltb n 2) (ltb 17 n) (le-ltb n 2 l) (le-ltb 17 n h))

pub scaled-ok : (t : Parameter) (n : ℕ) → off_scale t ≡ false → 2 ≤ n → n ≤ 17 → scaled t (sized n) ≡ Ok tt
scaled-ok t n o l h = ap (λ b. cond b (Err (refuse OffScale 0)) (sized n)) o ∙ sized-ok n l h

-- what a call left on the first k places of a buffer, the polygon being all of them
pub puts-part : {X : Type 0} (c : X → Point) (r : Result (Unit {0}) Fault) (qs ps : List Point) (k : ℕ) (xs ys : List X) → ps ≡ qs → length qs ≡ k → k ≤ length xs → length ys ≡ length (take k xs) → Puts c ps r (take k xs) ys → Puts c qs r xs (ys ++ drop k xs)
puts-part c (Err f) qs ps k xs ys same lq h ly p = ap (λ v. v ++ drop k xs) p ∙ take-append-drop k xs
puts-part c (Ok u) qs ps k xs ys same lq h ly p =
    let yl : length ys ≡ k = ly ∙ length-take-le k xs h in
    let ql : length ys ≡ length qs = yl ∙ sym lq in
    let all : map c ys ≡ qs = sym (ap (map c) (take_all (length ps) ys (omega (arith, ap length same)))) ∙ p.0 ∙ same in
    (ap (map c) (take_at ys (drop k xs) (length qs) ql) ∙ all, drop_at ys (drop k xs) (length qs) ql ∙ ap (λ i. drop i xs) (sym lq))

-- the working w, which is v and keeps the degree n, done by a call on the first n + 1 places of a buffer, which left ys there
pub worked-part : {X : Type 0} (c : X → Point) (w v : Working) (n m : ℕ) (xs ys : List X) (r : Result (Unit {0}) Fault) → w ≡ v → next_degree v n ≡ n → Ok m ≡ tested w n → m + 1 ≤ length xs → length ys ≡ length (take (n + 1) xs) → Puts c (shape v (map c (take (n + 1) xs))) r (take (n + 1) xs) ys → Puts c (shape w (map c (take (n + 1) xs))) r xs (ys ++ drop (n + 1) xs)
worked-part c w v n m xs ys r is same test l ly p =
    let ps = map c (take (n + 1) xs) in
    let t = tested-ok w n m (sym test) in
    let stays : next_degree w n ≡ n = ap (λ u. next_degree u n) is ∙ same in
    let h : n + 1 ≤ length xs = omega (arith, t.is) in
    let long : length ps ≡ n + 1 = length-map (take (n + 1) xs) c ∙ length-take-le (n + 1) xs h in
    let many : length (shape w ps) ≡ n + 1 = length-shape w ps (omega arith) ∙ ap (λ i. next_degree w i + 1) (let q : length ps - 1 ≡ n = omega arith in q) ∙ omega arith in
    puts-part c r (shape w ps) (shape v ps) (n + 1) xs ys (ap (λ u. shape u ps) (sym is)) many h ly p
