-- Accuracy on one axis of points of any kind.
use Rattle.std.proofs.Common.{◌≡◌, ℕ, ◌+◌, ◌<◌, ◌≤◌, List, map, length, ℤ, ◌≤ℤ◌, arith}
use Rattle.std.proofs.lemmas.List.{length-map}
use Rattle.exact.specs.Mixing.{mix}
use Rattle.exact.specs.Polygon.{degree, IsPoint}
use Rattle.exact.specs.Fractions.{Fraction, WithinHalf}
use Rattle.exact.specs.Curve.{exact}
use Rattle.exact.specs.Workings.{Param, InRange, AllValid, Working, mix_by, fraction, pile, degree_over, allowance_over, carried}
use Rattle.exact.specs.Accuracy.{StandsFor, least, greatest}
use Rattle.exact.proofs.Axes.{point-on}
use Rattle.exact.proofs.Box.{bounded}
use Rattle.exact.proofs.Pile.{accurate, enclosed}

-- f reads an axis of points of the kind A, whose mixing it respects at every weight
module _ {A : Type 0} (f : A → ℤ) (mx : ℕ → ℕ → A → A → A) (respects : (w d : ℕ) → 0 < d → w ≤ d → (x y : A) → f (mx w d x y) ≡ mix w d (f x) (f y))
    (P : List A) (ws : List Working) (v : Param) (r : A) (some : 0 < length P) (valid : AllValid ws) (ok : InRange v) (point : IsPoint (mix_by mx v) (pile mx ws P) r) where
  pub accurate-on : (a : ℕ) (D : List Fraction) → StandsFor (map f P) a D → WithinHalf (allowance_over ws (degree (map f P)) a + degree_over ws (degree (map f P))) (f r) (exact D (carried ws (fraction v)))
  accurate-on a D s = accurate (map f P) a D ws v (f r) (omega (arith, length-map P f)) valid ok s (point-on f mx mix respects ws P v r valid ok point)

  pub enclosed-on : (least (map f P) ≤ℤ f r) × (f r ≤ℤ greatest (map f P))
  enclosed-on = enclosed (map f P) ws v (f r) (least (map f P)) (greatest (map f P)) (omega (arith, length-map P f)) valid ok (bounded (map f P)) (point-on f mx mix respects ws P v r valid ok point)
