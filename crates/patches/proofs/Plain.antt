-- Where there is no working, a fraction is carried back to itself.
use Rattle.std.proofs.Common.{◌≡◌, ℕ, ◌<◌, [], ℤ, ap, ◌∙◌, subst, arith}
use native.Mathlib.Bridge.{le_prop}
use borrow.Author.Differences.{ints}
use Rattle.exact.specs.Fractions.{Fraction}
use Rattle.exact.specs.Workings.{carried}

same-fraction : (x y : ℤ) (d e : ℕ) (p : 0 < d) (q : 0 < e) → x ≡ y → d ≡ e → ◌≡◌ {A = Fraction} (record { num = x; den = d; positive = p }) (record { num = y; den = e; positive = q })
same-fraction x y d e p q ex ed =
    ap (λ (z : ℤ). record { num = z; den = d; positive = p }) ex
    ∙ subst (λ (k : ℕ). (r : 0 < k) → ◌≡◌ {A = Fraction} (record { num = y; den = d; positive = p }) (record { num = y; den = k; positive = r })) ed (λ r. ap (λ (h : 0 < d). record { num = y; den = d; positive = h }) (le_prop p r)) q

pub carried_none : (t : Fraction) → carried [] t ≡ t
unfolding carried
carried_none t = same-fraction _ t.num _ t.den _ t.positive (omega (arith, ints)) (omega arith)
