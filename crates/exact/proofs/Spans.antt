-- Pieces of piles, over their spans.
use Rattle.std.proofs.Common.{◌≡◌, ℕ, suc, ◌+◌, ◌*◌, ◌^◌, List, length, get_or, ℤ, pos, ◌+ℤ◌, ◌-ℤ◌, ◌*ℤ◌, ◌≤ℤ◌, sym, refl, ap, ◌∙◌, subst, arith, pow-add}
use borrow.Author.Differences.{ints}
use lib.IntN.{*ℤ_comm}
use Rattle.exact.specs.Mixing.{mix}
use Rattle.exact.specs.Polygon.{degree}
use Rattle.exact.specs.Fractions.{Fraction, Unit01, HalfApart, ◌≈◌}
use Rattle.exact.specs.Curve.{exact}
use Rattle.exact.specs.Workings.{pile, degree_over, allowance_over, carried}
use Rattle.exact.specs.Flat.{chord}
use Rattle.exact.specs.Pieces.{placed}
use Rattle.exact.specs.Spans.{mark, ◌≼◌, within, evenly, SpanNear}
use Rattle.exact.proofs.Ring.{ring}
use Rattle.exact.proofs.Fractions.{Is}
use Rattle.exact.proofs.Carry.{both, backs, carried-is}
use Rattle.exact.proofs.Pile.{begin, steps, suc-pred}
use Rattle.exact.proofs.Flat.{Shared, shared, chord-holds}
use Rattle.exact.proofs.Pieces.{among, Held, held, placed-is}
use Rattle.exact.proofs.Same.{is_same}

chord-evenly : (Q : List ℤ) (s r : ℕ) (x : Fraction) → chord Q (within s r x) ≡ evenly s r (get_or Q 0 (pos 0)) (get_or Q (degree Q) (pos 0)) x
unfolding chord evenly
chord-evenly Q s r x = refl

within-unit : (s r : ℕ) (x : Fraction) → mark s ≼ x → x ≼ mark (s + 2 ^ r) → Unit01 (within s r x)
within-unit s r x l h = record {
  low = least (pos s *ℤ pos x.den) (pos 4096 *ℤ x.num) (subst (λ y. (pos s *ℤ pos x.den) ≤ℤ y) (*ℤ_comm x.num (pos 4096)) l);
  high = most (s * x.den) (2 ^ r * x.den) ((s + 2 ^ r) * x.den) (pos 4096 *ℤ x.num) (omega arith) (subst (λ y. y ≤ℤ (pos (s + 2 ^ r) *ℤ pos x.den)) (*ℤ_comm x.num (pos 4096)) h);
}
  where
    least : (A B : ℤ) → A ≤ℤ B → pos 0 ≤ℤ (B -ℤ A)
    least A B h = omega (arith, ints)

    most : (A R S : ℕ) (B : ℤ) → S ≡ A + R → B ≤ℤ pos S → (B -ℤ pos A) ≤ℤ pos R
    most A R S B e h = omega (arith, ints)

within-placed : (k r j : ℕ) (x : Fraction) → k + r ≡ 12 → placed k j (within (j * 2 ^ r) r x) ≈ x
within-placed k r j x e =
    ap (λ y. y *ℤ pos x.den) (whole_of (pos (j * (2 ^ r * x.den))) (pos (j * 2 ^ r) *ℤ pos x.den) (pos 4096 *ℤ x.num) (ap pos (omega arith)))
    ∙ turn-over (pos 4096) x.num (pos x.den)
    ∙ ap (λ m. x.num *ℤ pos m) (sum (2 ^ k) (2 ^ r) (sym (pow-add 2 k r) ∙ ap (λ m. 2 ^ m) e))
  where
    whole_of : (A A' B : ℤ) → A ≡ A' → A +ℤ (B -ℤ A') ≡ B
    whole_of A A' B q = omega (arith, ints, q)

    turn-over : (f n d : ℤ) → f *ℤ n *ℤ d ≡ n *ℤ (f *ℤ d)
    turn-over f n d = simp ring

    sum : (K R : ℕ) → K * R ≡ 4096 → 4096 * x.den ≡ K * (R * x.den)
    sum K R q = omega (arith, ap (λ m. m * x.den) q)

pub span-near : SpanNear
span-near P a D ws q k r j Q x z some o h p flat e l m =
    let n : ℕ = degree_over ws (degree P) in
    let b : ℕ = allowance_over ws (degree P) a in
    let y : Fraction = within (j * 2 ^ r) r x in
    let c : length P ≡ suc (degree P) = suc-pred (length P) z in
    let s : Shared y = shared y (within-unit (j * 2 ^ r) r x l m) in
    let t : Held D n b k j Q (λ u. backs ws u) = held (pile mix ws P) b D n k j Q (λ u. backs ws u) (steps ws o D (degree P) a P (λ u. u) (begin P a D (degree P) c h)) p in
    let i : Is x (pos (among t.after j s.share).part) (both (among t.after j s.share)) = is_same (placed k j y) x (pos (among t.after j s.share).part) (both (among t.after j s.share)) (within-placed k r j x e) (placed-is k t.after j y s.share t.count s.is) in
    subst (λ v. HalfApart (2 * q + (b + n * k)) v (exact D (carried ws x))) (chord-evenly Q (j * 2 ^ r) r x)
    (chord-holds D n (b + n * k) q Q (λ u. backs ws (among t.after j u)) t.holds y (carried ws x) s some flat (carried-is ws x (among t.after j s.share) o i))
