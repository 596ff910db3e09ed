-- Workings on polygons, written over any family mx of mixings (mx w d mixes by w/d), their charges, and where a parameter goes under a pile of them.
use Rattle.std.specs.Prelude.{ℕ, suc, ◌+◌, ◌^◌, ◌≤◌, List, [], ◌∷◌, length, pos}
use Rattle.std.proofs.Common.{pow_pos}
use Rattle.exact.specs.Polygon.{left, right, raise, turn}
use Rattle.exact.specs.Fractions.{Fraction, whole, ◌⊕◌, ◌⊖◌, ◌⊗◌}

-- a parameter part/2^power; it is one where it is at most 1
pub record Param : Type 0 where
  pub power : ℕ
  pub part : ℕ

abbrev pub parts : Param → ℕ
parts v = 2 ^ v.power

abbrev pub InRange : Param → Type 0
InRange v = v.part ≤ parts v

abbrev pub mix_by : {A : Type 0} → (ℕ → ℕ → A → A → A) → Param → A → A → A
mix_by mx v = mx v.part (parts v)

abbrev pub fraction : Param → Fraction
fraction v = record { num = pos v.part; den = parts v; positive = pow_pos v.power }

pub data Working : Type 0 where
  left_at : Param → Working
  right_at : Param → Working
  raised : Working
  turned : Working

-- the parameters of a working, and of all of a pile, are at most 1
abbrev pub Valid : Working → Type 0
Valid (left_at v) = InRange v
Valid (right_at v) = InRange v
Valid raised = Unit {0}
Valid turned = Unit {0}

abbrev pub AllValid : List Working → Type 0
AllValid [] = Unit {0}
AllValid (w ∷ ws) = Valid w × AllValid ws

abbrev pub worked : {A : Type 0} → (ℕ → ℕ → A → A → A) → Working → List A → List A
worked mx (left_at v) P = left (mix_by mx v) P
worked mx (right_at v) P = right (mix_by mx v) P
worked mx raised P = raise (λ i. mx i (length P)) P
worked mx turned P = turn P

-- what a working adds to the allowance, at degree n, and the degree after it
abbrev pub charge : Working → ℕ → ℕ
charge (left_at v) n = n
charge (right_at v) n = n
charge raised n = 1
charge turned n = 0

abbrev pub next_degree : Working → ℕ → ℕ
next_degree (left_at v) n = n
next_degree (right_at v) n = n
next_degree raised n = suc n
next_degree turned n = n

-- a pile of workings, from the bottom up, over the points P
abbrev pub pile : {A : Type 0} → (ℕ → ℕ → A → A → A) → List Working → List A → List A
pile mx [] P = P
pile mx (w ∷ ws) P = pile mx ws (worked mx w P)

-- its degree and its allowance, from those below
abbrev pub degree_over : List Working → ℕ → ℕ
degree_over [] n = n
degree_over (w ∷ ws) n = degree_over ws (next_degree w n)

abbrev pub allowance_over : List Working → ℕ → ℕ → ℕ
allowance_over [] n a = a
allowance_over (w ∷ ws) n a = allowance_over ws (next_degree w n) (a + charge w n)

-- carrying back: a window, and where a fraction t of it goes
pub record Window : Type 0 where
  pub start : Fraction
  pub end : Fraction

abbrev pub goes : Window → Fraction → Fraction
goes W t = W.start ⊕ t ⊗ (W.end ⊖ W.start)

abbrev pub moved : Working → Window → Window
moved (left_at v) W = record { start = W.start; end = goes W (fraction v) }
moved (right_at v) W = record { start = goes W (fraction v); end = W.end }
moved raised W = W
moved turned W = record { start = W.end; end = W.start }

abbrev pub window : List Working → Window → Window
window [] W = W
window (w ∷ ws) W = window ws (moved w W)

unfoldable pub carried : List Working → Fraction → Fraction
carried ws t = goes (window ws (record { start = whole (pos 0); end = whole (pos 1) })) t
