use Rattle.std.proofs.Common.{◌≡◌, ℕ, ◌<◌, false, None, map}
use Rattle.polygons.specs.Flatness.{off_at}
use Rattle.polygons.proofs.flatness.first_off.Given as goal

abbrev pub invariant-points : goal.invariant-points
invariant-points g l = (l.answer ≡ None) × ((j : ℕ) → j < l.i → (b : ℕ) → off_at (map g.K.Kind.coord l.p) (λ _. l.q) j b ≡ false)

abbrev pub invariant-loop-a : goal.invariant-loop-a
invariant-loop-a g l = (l.answer ≡ None) × ((b : ℕ) → b < l.a → off_at (map g.K.Kind.coord l.p) (λ _. l.q) l.i b ≡ false)
