-- One call of a strand.
use Rattle.std.proofs.Common.{◌≡◌, ℕ, ◌+◌, ◌≤◌, false, cond, ltb, List, ◌++◌, map, length, get_or, take, drop, Ok, Err, sym, ap, ◌∙◌, arith}
use Rattle.std.proofs.lemmas.Bool.{le-ltb}
use Rattle.std.proofs.lemmas.List.{length-map, length-take-le, length-append, take_at, drop_at}
use Rattle.points.specs.declared.fault.Refusal.TheVariants.{OffScale, Short}
use Rattle.points.specs.declared.parameter.Parameter.{Parameter}
use Rattle.points.specs.Refusals.{refuse}
use Rattle.points.specs.Parameters.{off_scale}
use Rattle.points.specs.Points.{Point}
use Rattle.polygons.specs.Buffers.{Puts}
use Rattle.polygons.specs.Constructions.{right_part_at}
use Rattle.workings.proofs.Shapes.{puts-part}
use Rattle.sources.specs.Points.{point_at}
use Rattle.sources.proofs.Pointing.{first-is, length-right}
use Rattle.strands.specs.States.{State, polygon, strand_point}

-- a strand's point: its polygon is copied onto the second buffer, cs, and the right part made there, ys
pub point-work : {X : Type 0} (c : X → Point) (t : Parameter) (s : State X) (k : ℕ) (second cs ys : List X) (x : X)
    → off_scale t ≡ false → s.degree + 1 ≤ length s.buffer → s.degree + 1 ≤ length second → k ≡ s.degree + 1 → cs ≡ take k s.buffer
    → length ys ≡ length (take k (cs ++ drop k second)) → Puts c (right_part_at t (map c (take k (cs ++ drop k second)))) (Ok tt) (take k (cs ++ drop k second)) ys → x ≡ get_or (ys ++ drop k (cs ++ drop k second)) 0 x
    → (Ok (c x, s.allowance + s.degree) ≡ strand_point c t s (length second)) × Puts c (right_part_at t (polygon c s)) (Ok tt) second (ys ++ drop k (cs ++ drop k second))
point-work c t s k second cs ys x o hb hs ek ec ly put ex =
    let d = s.degree in
    let ps = polygon c s in
    let mid = cs ++ drop k second in
    let fin = ys ++ drop k mid in
    let cl : length cs ≡ k = ap length ec ∙ length-take-le k s.buffer (omega arith) in
    let tm : take k mid ≡ cs = take_at cs (drop k second) k cl in
    let dm : drop k mid ≡ drop k second = drop_at cs (drop k second) k cl in
    let yl : length ys ≡ k = ly ∙ ap length tm ∙ cl in
    let held : map c (take k mid) ≡ ps = ap (map c) (tm ∙ ec ∙ ap (λ j. take j s.buffer) ek) in
    let lp : length ps ≡ d + 1 = length-map (take (d + 1) s.buffer) c ∙ length-take-le (d + 1) s.buffer hb in
    let ml : length mid ≡ length cs + length (drop k second) = length-append cs (drop k second) in
    let km : k ≤ length mid = omega arith in
    let whole : Puts c (right_part_at t ps) (Ok tt) mid fin = puts-part c (Ok tt) (right_part_at t ps) (right_part_at t (map c (take k mid))) k mid ys (ap (right_part_at t) held) (length-right t ps ∙ lp ∙ sym ek) km ly put in
    let fl : length fin ≡ length ys + length (drop k mid) = length-append ys (drop k mid) in
    let px : c x ≡ point_at t ps = first-is c t ps mid fin x (omega arith) (omega arith) whole ex in
    let rl : length (right_part_at t ps) ≡ k = length-right t ps ∙ lp ∙ sym ek in
    let po : strand_point c t s (length second) ≡ Ok (point_at t ps, s.allowance + d) =
    ap (λ b. cond b (Err (refuse OffScale 0)) (cond (ltb (length s.buffer) (d + 1)) (Err (refuse Short (d + 1))) (cond (ltb (length second) (d + 1)) (Err (refuse Short (d + 1))) (Ok (point_at t ps, s.allowance + d))))) o
    ∙ ap (λ b. cond b (Err (refuse Short (d + 1))) (cond (ltb (length second) (d + 1)) (Err (refuse Short (d + 1))) (Ok (point_at t ps, s.allowance + d)))) (le-ltb (length s.buffer) (d + 1) hb)
    ∙ ap (λ b. cond b (Err (refuse Short (d + 1))) (Ok (point_at t ps, s.allowance + d))) (le-ltb (length second) (d + 1) hs) in (
      ap (λ z. Ok (z, s.allowance + d)) px ∙ sym po,
      (whole.0, whole.1 ∙ ap (λ j. drop j mid) rl ∙ dm ∙ ap (λ j. drop j second) (sym rl)),
    )
