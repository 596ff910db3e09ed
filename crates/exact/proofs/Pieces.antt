-- Pieces by halving.
use Rattle.std.proofs.Common.{◌≡◌, ℕ, suc, ◌+◌, ◌*◌, ◌^◌, List, ℤ, pos, ◌+ℤ◌, ◌*ℤ◌, sym, refl, ap, ◌∙◌, subst₂, pow-suc, arith, lit≤}
use mathlib.Core.Path.{fun_ext}
use Rattle.exact.specs.Mixing.{mix}
use Rattle.exact.specs.Polygon.{left, right}
use Rattle.exact.specs.Fractions.{Fraction}
use Rattle.exact.specs.Workings.{Param, left_at, right_at}
use Rattle.exact.specs.Pieces.{Piece, entire, first, second, placed}
use Rattle.exact.proofs.Ring.{ring}
use Rattle.exact.proofs.Fractions.{Is, is-as}
use Rattle.exact.proofs.Carry.{Share, both, share-path}
use Rattle.exact.proofs.Pile.{Holds, step}

abbrev half : Param
half = record { power = 1; part = 1 }

-- the share (j + u)/(c + j + 1)
abbrev pub among : ℕ → ℕ → Share → Share
among c j u = record { rest = c * both u + u.rest; part = j * both u + u.part }

-- a piece with c pieces after it holds, with its allowance; what it is a piece of holds by g
pub record Held (D : List Fraction) (n a k j : ℕ) (Q : List ℤ) (g : Share → Share) : Type 0 where
  pub after : ℕ
  pub count : after + j + 1 ≡ 2 ^ k
  pub holds : Holds D n (a + n * k) Q (λ u. g (among after j u))

double : (k c j c' j' : ℕ) → c + j + 1 ≡ 2 ^ k → c' + j' + 1 ≡ 2 * (c + j + 1) → c' + j' + 1 ≡ 2 ^ suc k
double k c j c' j' e f = f ∙ rw (e, pow-suc 2 k) (omega arith)

pub held : (P : List ℤ) (a : ℕ) (D : List Fraction) (n k j : ℕ) (Q : List ℤ) (g : Share → Share) → Holds D n a P g → Piece P k j Q → Held D n a k j Q g
held P a D n k j Q g h entire = record {
  after = 0;
  count = refl;
  holds = subst₂ (λ b g. Holds D n b P g) (let e : a ≡ a + n * 0 = omega arith in e) (fun_ext (λ u. ap g (share-path (omega arith) (omega arith)))) h;
}
held P a D n k' j' Q' g h (first {k} {j} {Q} p) =
    let r : Held D n a k j Q g = held P a D n k j Q g h p in
    record {
      after = 2 * r.after + 1;
      count = double k r.after j (2 * r.after + 1) (2 * j) r.count (omega arith);
      holds = subst₂ (λ b g. Holds D n b (left (mix 1 2) Q) g) (let e : a + n * k + n ≡ a + n * suc k = omega arith in e) (fun_ext (λ u. ap g (share-path (omega arith) (omega arith)))) (step (left_at half) (lit≤ tt) D n (a + n * k) Q (λ u. g (among r.after j u)) r.holds);
    }
held P a D n k' j' Q' g h (second {k} {j} {Q} p) =
    let r : Held D n a k j Q g = held P a D n k j Q g h p in
    record {
      after = 2 * r.after;
      count = double k r.after j (2 * r.after) (suc (2 * j)) r.count (omega arith);
      holds = subst₂ (λ b g. Holds D n b (right (mix 1 2) Q) g) (let e : a + n * k + n ≡ a + n * suc k = omega arith in e) (fun_ext (λ u. ap g (share-path (omega arith) (omega arith)))) (step (right_at half) (lit≤ tt) D n (a + n * k) Q (λ u. g (among r.after j u)) r.holds);
    }

pub placed-is : (k c j : ℕ) (t : Fraction) (u : Share) → c + j + 1 ≡ 2 ^ k → Is t (pos u.part) (both u) → Is (placed k j t) (pos (among c j u).part) (both (among c j u))
placed-is k c j t u e h =
    is-as refl (sym (rows (both u) u.rest u.part refl))
    (record { same = out (pos j) (pos t.den) t.num (pos (2 ^ k)) (pos (both u)) (pos u.part) h.same })
  where
    rows : (b x y : ℕ) → b ≡ x + y → c * b + x + (j * b + y) ≡ 2 ^ k * b
    rows b x y q = sym (rw (sym e) (omega arith))

    left-side : (J d n K b : ℤ) → (J *ℤ d +ℤ n) *ℤ (K *ℤ b) ≡ J *ℤ b *ℤ (K *ℤ d) +ℤ K *ℤ (n *ℤ b)
    left-side J d n K b = simp ring

    right_side : (J d K b p : ℤ) → J *ℤ b *ℤ (K *ℤ d) +ℤ K *ℤ (p *ℤ d) ≡ (J *ℤ b +ℤ p) *ℤ (K *ℤ d)
    right_side J d K b p = simp ring

    out : (J d n K b p : ℤ) → n *ℤ b ≡ p *ℤ d → (J *ℤ d +ℤ n) *ℤ (K *ℤ b) ≡ (J *ℤ b +ℤ p) *ℤ (K *ℤ d)
    out J d n K b p q = left-side J d n K b ∙ ap (λ x. J *ℤ b *ℤ (K *ℤ d) +ℤ K *ℤ x) q ∙ right_side J d K b p
