-- The tests of whether two points of a kind are the same say so.
use Rattle.std.proofs.Common.{◌≡◌, ◌≢◌, ℕ, ◌<◌, ◌≤◌, length, get_or, MatchBool, arith, ⊎_elim, subst, zero-add, zero, suc, Bool, true, false, min, pos, refl, sym, ap, ◌∙◌, true≢false, unsigned_abs}
use mathlib.Core.Path.{fun_ext}
use Rattle.std.specs.List.{range_with_len, AllWithin, HoldsAt}
use Rattle.std.specs.Bool.{Decides}
use Rattle.std.proofs.lemmas.Bool.{cases_lt}
use Rattle.std.proofs.lemmas.List.FromFn.{get_or-range_with_len, length-range_with_len}
use Rattle.std.proofs.lemmas.Bool.Decides.{Decides-eqb, Decides-int_eq, Decides-and, Decides-like}
use Rattle.points.specs.declared.height.Height.{Height}
use Rattle.points.specs.declared.planar.Planar.{Planar}
use Rattle.points.specs.declared.sample.Sample.{Sample}
use Rattle.points.specs.Points.{Point, height, planar, sample, height_eq, planar_eq, sample_eq, Same}

-- two points are the same if they are on the first n axes and agree on the others
pub same-on : (p q : Point) (n : ℕ) (r : Bool) → ((a : ℕ) → n ≤ a → p a ≡ q a) → MatchBool r (AllWithin (λ a. p a ≡ q a) (range_with_len 0 n) 0 (length (range_with_len 0 n))) ((k : ℕ) × (k < length (range_with_len 0 n)) × HoldsAt (λ a. p a ≢ q a) (range_with_len 0 n) k) → Same p q r
same-on p q n true out h = record { same = λ _. fun_ext each; other = λ e. absurd (true≢false e) }
  where
    each : (a : ℕ) → p a ≡ q a
    each a = ⊎_elim (λ l. subst (λ b. p b ≡ q b) (get_or-range_with_len 0 n a 0 l ∙ zero-add a) (h a 0 (omega arith) (omega (arith, length-range_with_len 0 n)))) (out a) (cases_lt a n)
same-on p q n false out h = record { same = λ e. absurd (true≢false (sym e)); other = λ _ e. h.2 0 (ap (λ (f : Point). f (get_or (range_with_len 0 n) h.0 0)) e) }

-- an answer to whether two points are the same is what any test of it says
pub same-answer : (p q : Point) (r b : Bool) → Same p q r → Decides b (p ≡ q) → r ≡ b
same-answer p q true b s d = sym (d.1 (s.same refl))
same-answer p q false true s d = absurd (s.other refl (d.0 refl))
same-answer p q false false s d = refl

pub height-decides : (p q : Height) → Decides (height_eq p q) (height p ≡ height q)
height-decides p q = Decides-like _ (λ e. fun_ext (at e)) (ap (λ (f : Point). f 0)) (Decides-int_eq p.z q.z)
  where
    at : p.z ≡ q.z → (a : ℕ) → height p a ≡ height q a
    at e zero = e
    at e (suc a) = refl

pub planar-decides : (p q : Planar) → Decides (planar_eq p q) (planar p ≡ planar q)
planar-decides p q = Decides-like _ (λ e. fun_ext (at e)) (λ e. (ap (λ (f : Point). f 0) e, ap (λ (f : Point). f 1) e)) (Decides-and _ _ (Decides-int_eq p.x q.x) (Decides-int_eq p.y q.y))
  where
    at : (p.x ≡ q.x) × (p.y ≡ q.y) → (a : ℕ) → planar p a ≡ planar q a
    at e zero = e.0
    at e (suc zero) = e.1
    at e (suc (suc a)) = refl

pub sample-decides : (p q : Sample) → Decides (sample_eq p q) (sample p ≡ sample q)
sample-decides p q =
    Decides-like _ (λ e. fun_ext (at e)) (λ e. (ap (λ (f : Point). f 0) e, (ap (λ (f : Point). f 1) e, ap unsigned_abs (ap (λ (f : Point). f 2) e))))
    (Decides-and _ _ (Decides-int_eq p.x q.x) (Decides-and _ _ (Decides-int_eq p.y q.y) (Decides-eqb (min p.press 4095) (min q.press 4095))))
  where
    at : (p.x ≡ q.x) × ((p.y ≡ q.y) × (min p.press 4095 ≡ min q.press 4095)) → (a : ℕ) → sample p a ≡ sample q a
    at e zero = e.0
    at e (suc zero) = e.1.0
    at e (suc (suc zero)) = ap pos e.1.1
    at e (suc (suc (suc a))) = refl
