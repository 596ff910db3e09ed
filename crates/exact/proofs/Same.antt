-- A fraction and its equals have the same values.
use Rattle.std.proofs.Common.{◌≡◌, ℕ, ◌<◌, ℤ, pos, ◌*ℤ◌, ◌≤ℤ◌, sym, ap, ◌∙◌, subst}
use lib.Signed.{≤ℤ_refl}
use Rattle.exact.specs.Fractions.{Fraction, ◌≈◌}
use Rattle.exact.proofs.Ring.{ring, *ℤ-cancel, ≤ℤ-antisym}
use Rattle.exact.proofs.Fractions.{Is}

pub *ℤ-cancel-same : (k : ℕ) (a b : ℤ) → 0 < k → pos k *ℤ a ≡ pos k *ℤ b → a ≡ b
*ℤ-cancel-same k a b z e =
    ≤ℤ-antisym a b
    (*ℤ-cancel k a b z (subst (λ x. (pos k *ℤ a) ≤ℤ x) e (≤ℤ_refl (pos k *ℤ a))))
    (*ℤ-cancel k b a z (subst (λ x. x ≤ℤ (pos k *ℤ a)) e (≤ℤ_refl (pos k *ℤ a))))

swap : (d g m : ℤ) → d *ℤ (g *ℤ m) ≡ g *ℤ d *ℤ m
swap d g m = simp ring

last : (f e m : ℤ) → f *ℤ e *ℤ m ≡ f *ℤ m *ℤ e
last f e m = simp ring

first : (x d e : ℤ) → x *ℤ d *ℤ e ≡ d *ℤ (x *ℤ e)
first x d e = simp ring

pub is_same : (f g : Fraction) (x : ℤ) (M : ℕ) → f ≈ g → Is f x M → Is g x M
is_same f g x M e h = record {
  same = *ℤ-cancel-same f.den (g.num *ℤ pos M) (x *ℤ pos g.den) f.positive
      (swap (pos f.den) g.num (pos M) ∙ ap (λ y. y *ℤ pos M) (sym e) ∙ last f.num (pos g.den) (pos M) ∙ ap (λ y. y *ℤ pos g.den) h.same ∙ first x (pos f.den) (pos g.den));
}
