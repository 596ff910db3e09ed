use Rattle.std.proofs.Common.{◌≡◌, ℕ, ◌+◌, ◌-◌, drop, refl, ◌∙◌, arith}
use Rattle.std.proofs.lemmas.List.{length-take, length-drop}
use Rattle.flattening.specs.Pieces.{left_half, right_half}
use Rattle.flattening.proofs.Stacks.{halved}
use Rattle.flattening.proofs.stack.Stack.halve.Goals as goal

pub returns-clause-halved : goal.returns-clause-halved
unfolding left_half right_half
returns-clause-halved g c =
    let s = c.args.self.now in
    let xs = s.buffer.now in
    let u : ℕ = s.used in
    let n : ℕ = s.size in
    let k : ℕ = u + n - (u - n) in
    let ks : k ≡ n + n = omega arith in
    let lY = c.split.auto.buffer ∙ length-take k (drop (u - n) xs) in
    halved g.K.Kind.coord s _ c.split.new.buffer k c.requires.0 c.requires.1 ks refl refl refl (omega (arith, lY, length-drop (u - n) xs)) c.in_ok-split.ensures.split
