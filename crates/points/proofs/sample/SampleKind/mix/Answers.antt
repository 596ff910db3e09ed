use borrow.Author.Differences.{ints}
use Rattle.std.proofs.Common.{◌≡◌, ℕ, ◌≤◌, min, pos, sym, ◌∙◌, arith}
use Rattle.std.proofs.lemmas.Int.{to_z-of_z}
use Rattle.points.specs.Points.{mixed}
use Rattle.points.proofs.Mixes.{sample-mixed, mixed-nat}
use Rattle.points.proofs.sample.SampleKind.mix.Goals as goal

-- the mixed press, as a number up to 4095
press-is : (c : goal.After-mix_axis-2) → (n : ℕ) × (c.mix_axis-press.result ≡ pos n) × (n ≤ 4095) × (pos n ≡ mixed c.args.w.num c.args.w.den (pos (min c.args.p.press 4095)) (pos (min c.args.q.press 4095)))
press-is c =
    let w = c.args.w in
    let e : c.mix_axis-press.result ≡ mixed w.num w.den (pos (min c.args.p.press 4095)) (pos (min c.args.q.press 4095)) = grind (arith, to_z-of_z) in
    let n = mixed-nat w.num w.den (min c.args.p.press 4095) (min c.args.q.press 4095) 4095 w.weighs.0 w.weighs.2 (omega arith) (omega arith) in
    (n.0, e ∙ n.1, n.2, sym n.1)

pub overflow_cast-result : goal.overflow_cast-result
overflow_cast-result c = let n = press-is c in let e = n.1 in let l = n.2 in (omega (arith, ints, e, l), omega (arith, ints, e, l))

pub returns : goal.returns
returns c =
    let n = press-is c in
    let e = n.1 in let l = n.2 in
    let k : pos n.0 ≡ c.mix_axis-press.result = sym e in
    sample-mixed c.args.w.num c.args.w.den c.args.p c.args.q _ c.args.w.weighs.0 c.args.w.weighs.2 (grind (arith, to_z-of_z)) (grind (arith, to_z-of_z)) (omega (arith, ints, e, l) ∙ n.3)
