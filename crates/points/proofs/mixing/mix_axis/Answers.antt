use Rattle.std.proofs.Common.{◌≡◌, pos, ◌+ℤ◌, ap, ◌∙◌, arith}
use borrow.Author.Differences.{ints}
use Rattle.std.proofs.lemmas.Int.{to_z-of_z}
use Rattle.points.specs.Points.{mixed}
use Rattle.points.proofs.Rounding.{mixed-shifted, weighed-quot}
use Rattle.points.proofs.mixing.mix_axis.Goals as goal

pub shifted_back-requires : goal.shifted_back-requires
shifted_back-requires c =
    let w = c.args.w in
    rw (c.divided.ensures, c.weighed.ensures) (weighed-quot w.num w.den c.shifted.result c.shifted-2.result w.weighs.0 w.weighs.2 c.shifted.ensures.1 c.shifted-2.ensures.1)

pub returns : goal.returns
returns c =
    let w = c.args.w in
    let u : pos c.shifted.result ≡ c.args.p +ℤ pos 2147483648 = omega (arith, ints) in
    let v : pos c.shifted-2.result ≡ c.args.q +ℤ pos 2147483648 = omega (arith, ints) in
    let m : c.shifted_back.result ≡ mixed w.num w.den c.args.p c.args.q = mixed-shifted w.num w.den _ _ c.args.p c.args.q c.shifted_back.result w.weighs.0 w.weighs.2 u v (c.shifted_back.ensures ∙ ap pos (rw (c.divided.ensures, c.weighed.ensures))) in
    grind (arith, to_z-of_z)
