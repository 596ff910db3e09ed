-- A point and the list of its axis values.
use Rattle.std.proofs.Common.{◌≡◌, ℕ, zero, suc, ◌≤◌, List, [], ◌∷◌, map, pos, sym, refl, ap, ◌∙◌, arith}
use mathlib.Core.Path.{fun_ext}
use Rattle.points.specs.Points.{Point}
use Rattle.pathformat.specs.File.{listed, point_of}

-- a point without values past its axes is the point of its list
pub point_of-listed : (w : ℕ) (p : Point) → ((a : ℕ) → w ≤ a → p a ≡ pos 0) → point_of (listed w p) ≡ p
point_of-listed w p lacks = fun_ext (at w p lacks)
  where
    at : (w : ℕ) (p : Point) → ((a : ℕ) → w ≤ a → p a ≡ pos 0) → (a : ℕ) → point_of (listed w p) a ≡ p a
    at zero p lacks a = sym (lacks a (omega arith))
    at (suc w) p lacks zero = refl
    at (suc w) p lacks (suc a) = at w (λ b. p (suc b)) (λ b h. lacks (suc b) (omega arith)) a

-- points by their axis values, from their lists
pub points-listed : {P : Type 0} (w : ℕ) (coord : P → Point) → ((p : P) (a : ℕ) → w ≤ a → coord p a ≡ pos 0) → (ps : List P) → map point_of (map (λ p. listed w (coord p)) ps) ≡ map coord ps
points-listed w coord lacks [] = refl
points-listed w coord lacks (p ∷ ps) = λ i. point_of-listed w (coord p) (lacks p) i ∷ points-listed w coord lacks ps i

-- points with the same list are the same
pub listed_same : {P : Type 0} (w : ℕ) (coord : P → Point) → ((p : P) (a : ℕ) → w ≤ a → coord p a ≡ pos 0) → (p q : P) → listed w (coord p) ≡ listed w (coord q) → coord p ≡ coord q
listed_same w coord lacks p q e = sym (point_of-listed w (coord p) (lacks p)) ∙ ap point_of e ∙ point_of-listed w (coord q) (lacks q)
