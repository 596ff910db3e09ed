-- The point call.
use Rattle.std.proofs.Common.{◌≡◌, ℕ, ◌+◌, ◌-◌, ◌<◌, ◌≤◌, false, cond, ltb, List, ◌++◌, map, length, get_or, take, drop, Ok, Err, sym, refl, ap, ◌∙◌, sub-one, arith}
use Rattle.std.proofs.lemmas.Bool.{le-ltb}
use Rattle.std.proofs.lemmas.List.{length-append, length-take-le, take-map, get_or-take}
use Rattle.exact.specs.Polygon.{degree}
use Rattle.exact.proofs.Lists.{length-lasts, get_or-levels}
use Rattle.points.specs.declared.fault.Refusal.TheVariants.{OffScale, Short}
use Rattle.points.specs.declared.parameter.Parameter.{Parameter}
use Rattle.points.specs.Refusals.{refuse}
use Rattle.points.specs.Parameters.{off_scale}
use Rattle.points.specs.Points.{Point, origin}
use Rattle.polygons.specs.Buffers.{Puts}
use Rattle.polygons.specs.Constructions.{mix_at, right_part_at}
use Rattle.polygons.proofs.Writes.{read_is}
use Rattle.polygons.proofs.Levels.{at, at_right}
use Rattle.workings.specs.declared.survey.Survey.{Survey}
use Rattle.workings.proofs.Shapes.{puts-part}
use Rattle.sources.specs.Meaning.{Meaning, fails, holds, Sound, told, survey_of, draw_of, Laid}
use Rattle.sources.specs.Points.{point_at, point_of, righted, pointed}
use Rattle.sources.proofs.Meanings.{drawn-told, laid_by, drop-further}

-- the right part starts with the point
right-first : (t : Parameter) (ps : List Point) → 1 ≤ length ps → at (right_part_at t ps) 0 ≡ point_at t ps
right-first t ps h = at_right (mix_at t) ps 0 (degree ps) (omega (arith, sub-one (length ps))) ∙ sym (get_or-levels (mix_at t) (degree ps) ps 0 origin (omega (arith, sub-one (length ps))))

pub length-right : (t : Parameter) (ps : List Point) → length (right_part_at t ps) ≡ length ps
length-right t ps = length-lasts (mix_at t) (length ps) ps refl

-- x stands first on a buffer that starts with the right part
pub first-is : {X : Type 0} (c : X → Point) (t : Parameter) (ps : List Point) (before fin : List X) (x : X) → 1 ≤ length ps → length ps ≤ length fin → Puts c (right_part_at t ps) (Ok tt) before fin → x ≡ get_or fin 0 x → c x ≡ point_at t ps
first-is c t ps before fin x h l p e =
    let n = length-right t ps in
    read_is c fin 0 x (omega arith) e
    ∙ sym (get_or-take (length (right_part_at t ps)) (map c fin) 0 origin (omega arith))
    ∙ ap (λ zs. at zs 0) (take-map c (length (right_part_at t ps)) fin ∙ p.0)
    ∙ right-first t ps h

-- mid is the buffer after draw, ys its first k places at the end, x the first of them
pub point-work : {X : Type 0} (c : X → Point) (t : Parameter) (m : Meaning) (s u : Survey) (k : ℕ) (before mid ys : List X) (x : X) → Sound m → Ok s ≡ survey_of m → off_scale t ≡ false → Ok u ≡ draw_of m (length before) → length mid ≡ length before → Laid c m before mid → k ≡ s.degree + 1 → length ys ≡ length (take k mid) → Puts c (right_part_at t (map c (take k mid))) (Ok tt) (take k mid) ys → x ≡ get_or (ys ++ drop k mid) 0 x → (Ok (c x, s.allowance + s.degree) ≡ point_of t m (length before)) × Laid c (pointed t m) before (ys ++ drop k mid)
point-work c t (fails f) s u k before mid ys x h es o eu em laid ek ly put ex = cc
point-work c t (holds p) s u k before mid ys x h es o eu em laid ek ly put ex =
    let ps = p.points in
    let fin = ys ++ drop k mid in
    let is : s ≡ told p = cc in
    let sd : s.degree ≡ length ps - 1 = ap (λ v. v.degree) is in
    let sa : s.allowance ≡ p.allowance = ap (λ v. v.allowance) is in
    let l : p.reach ≤ length before = (drawn-told p (length before) u eu).0 in
    let low = laid.1 l in
    let kl : k ≡ length ps = omega arith in
    let held : map c (take k mid) ≡ ps = ap (λ j. map c (take j mid)) kl ∙ low.0 in
    let whole : Puts c (right_part_at t ps) (Ok tt) mid fin = puts-part c (Ok tt) (right_part_at t ps) (right_part_at t (map c (take k mid))) k mid ys (ap (right_part_at t) held) (length-right t ps ∙ sym kl) (omega arith) ly put in
    let long : length fin ≡ length ys + length (drop k mid) = length-append ys (drop k mid) in
    let yl : length ys ≡ k = ly ∙ length-take-le k mid (omega arith) in
    let px : c x ≡ point_at t ps = first-is c t ps mid fin x (omega arith) (omega arith) whole ex in
    let mp : pointed t (holds p) ≡ holds (righted t p) = ap (λ b. cond b (fails (refuse OffScale 0)) (holds (righted t p))) o in
    let po : point_of t (holds p) (length before) ≡ Ok (point_at t ps, p.allowance + (length ps - 1)) = ap (λ b. cond b (Err (refuse OffScale 0)) (cond (ltb (length before) p.reach) (Err (refuse Short p.reach)) (Ok (point_at t ps, p.allowance + (length ps - 1))))) o ∙ ap (λ b. cond b (Err (refuse Short p.reach)) (Ok (point_at t ps, p.allowance + (length ps - 1)))) (le-ltb (length before) p.reach l) in
    let past : drop p.reach fin ≡ drop p.reach before = drop-further fin mid (length (right_part_at t ps)) p.reach (omega (arith, length-right t ps)) whole.1 ∙ low.1 in (
      ap (λ z. Ok (z, s.allowance + s.degree)) px ∙ ap (λ z. Ok (point_at t ps, z)) (omega arith) ∙ sym po,
      laid_by c (pointed t (holds p)) (holds (righted t p)) before fin mp ((λ (v : length before < p.reach). absurd (omega arith)), (λ _. (whole.0, past))),
    )

-- the polygon of a source that was surveyed has a size that passes
pub surveyed-fit : (m : Meaning) (s : Survey) → Sound m → Ok s ≡ survey_of m → (1 ≤ s.degree) × (s.degree ≤ 16) × (s.allowance ≤ 65535)
surveyed-fit (fails f) s h e = cc
surveyed-fit (holds p) s h e =
    let is : s ≡ told p = cc in
    let d : s.degree ≡ length p.points - 1 = ap (λ v. v.degree) is in
    let a : s.allowance ≡ p.allowance = ap (λ v. v.allowance) is in
    (omega arith, omega arith, omega arith)

-- and a buffer that it was drawn on has a place for each point
pub drawn-room : (m : Meaning) (s u : Survey) (n : ℕ) → Sound m → Ok s ≡ survey_of m → Ok u ≡ draw_of m n → s.degree + 1 ≤ n
drawn-room (fails f) s u n h e d = cc
drawn-room (holds p) s u n h e d =
    let is : s ≡ told p = cc in
    let g : s.degree ≡ length p.points - 1 = ap (λ v. v.degree) is in
    let l = (drawn-told p n u d).0 in
    omega arith
