-- Carrying back, with a parameter t as a pair of naturals s : t of which it is the share t/(s+t).
use Rattle.std.proofs.Common.{◌≡◌, ℕ, ◌+◌, ◌-◌, ◌*◌, List, [], ◌∷◌, ℤ, pos, ◌+ℤ◌, ◌-ℤ◌, ◌*ℤ◌, neg_ℤ, sym, refl, ap, ◌∙◌, subst, ap₂, arith}
use borrow.Author.Differences.{ints}
use Rattle.exact.specs.Fractions.{Fraction, ◌⊖◌, ◌⊗◌}
use Rattle.exact.specs.Workings.{Param, parts, InRange, Valid, AllValid, fraction, Working, left_at, right_at, raised, turned, Window, goes, moved, window, carried}
use Rattle.exact.proofs.Ring.{ring, *ℤ-distrib-l, *ℤ-distrib-r, *ℤ-neg}
use Rattle.exact.proofs.Fractions.{Is, is-own, is-scale, is_sum, is-product, is-as}

pub record Share : Type 0 where
  pub rest : ℕ
  pub part : ℕ

abbrev pub both : Share → ℕ
both u = u.rest + u.part

abbrev pub of_param : Param → Share
of_param v = record { rest = parts v - v.part; part = v.part }

-- where u goes under one working and under a pile
abbrev pub back : Working → Share → Share
back (left_at v) u = record { rest = both (of_param v) * u.rest + (of_param v).rest * u.part; part = v.part * u.part }
back (right_at v) u = record { rest = (of_param v).rest * u.rest; part = v.part * u.rest + both (of_param v) * u.part }
back raised u = u
back turned u = record { rest = u.part; part = u.rest }

abbrev pub backs : List Working → Share → Share
backs [] u = u
backs (w ∷ ws) u = back w (backs ws u)

-- between the shares a and b
abbrev through : Share → Share → Share → Share
through a b u = record { rest = u.rest * a.rest + u.part * b.rest; part = u.rest * a.part + u.part * b.part }

pub share-path : {a b : Share} → a.rest ≡ b.rest → a.part ≡ b.part → a ≡ b
share-path e f = λ i. record { rest = e i; part = f i }

is-difference : (f g : Fraction) (x y : ℤ) (M : ℕ) → Is f x M → Is g y M → Is (f ⊖ g) (x -ℤ y) M
is-difference f g x y M h k = record { same = out f.num (pos f.den) g.num (pos g.den) (pos M) x y h.same k.same }
  where
    minus : (a b c d : ℤ) → a *ℤ b *ℤ c -ℤ d ≡ a *ℤ c *ℤ b -ℤ d
    minus a b c d = ap (λ x. x -ℤ d) (simp ring)

    right-neg : (a b : ℤ) → neg_ℤ a *ℤ b ≡ neg_ℤ (a *ℤ b)
    right-neg a b = lib.IntN.*ℤ_comm (neg_ℤ a) b ∙ *ℤ-neg b a ∙ ap neg_ℤ (lib.IntN.*ℤ_comm b a)

    out : (a b c d m x y : ℤ) → a *ℤ m ≡ x *ℤ b → c *ℤ m ≡ y *ℤ d → (a *ℤ d -ℤ c *ℤ b) *ℤ m ≡ (x -ℤ y) *ℤ (b *ℤ d)
    out a b c d m x y e f =
        *ℤ-distrib-r (a *ℤ d) (neg_ℤ (c *ℤ b)) m
        ∙ ap₂ ◌+ℤ◌ (swap a d m ∙ ap (λ z. z *ℤ d) e ∙ fold x b d) (right-neg (c *ℤ b) m ∙ ap neg_ℤ (swap c b m ∙ ap (λ z. z *ℤ b) f ∙ fold' y d b) ∙ sym (right-neg y (b *ℤ d)))
        ∙ sym (*ℤ-distrib-r x (neg_ℤ y) (b *ℤ d))
      where
        swap : (a b c : ℤ) → a *ℤ b *ℤ c ≡ a *ℤ c *ℤ b
        swap a b c = simp ring

        fold : (a b c : ℤ) → a *ℤ b *ℤ c ≡ a *ℤ (b *ℤ c)
        fold a b c = simp ring

        fold' : (a b c : ℤ) → a *ℤ b *ℤ c ≡ a *ℤ (c *ℤ b)
        fold' a b c = simp ring

-- a window from the share a to the share b, both of B
record Spans (W : Window) (a b : Share) (B : ℕ) : Type 0 where
  start_sum : both a ≡ B
  end_sum : both b ≡ B
  start_is : Is W.start (pos a.part) B
  end_is : Is W.end (pos b.part) B

goes-is : (W : Window) (a b : Share) (B : ℕ) (t : Fraction) (u : Share) → Spans W a b B → Is t (pos u.part) (both u) → Is (goes W t) (pos (through a b u).part) (both (through a b u))
goes-is W a b B t u w h =
    is-as (mixed (pos u.rest) (pos u.part) (pos a.part) (pos b.part)) (total (both a) w.start_sum w.end_sum)
    (is_sum W.start (t ⊗ (W.end ⊖ W.start)) (pos (both u) *ℤ pos a.part) (pos u.part *ℤ (pos b.part -ℤ pos a.part)) (both u * B)
    (is-scale (both u) W.start (pos a.part) B w.start_is)
    (is-product t (W.end ⊖ W.start) (pos u.part) (pos b.part -ℤ pos a.part) (both u) B h (is-difference W.end W.start (pos b.part) (pos a.part) B w.end_is w.start_is)))
  where
    mixed : (s t a b : ℤ) → (s +ℤ t) *ℤ a +ℤ t *ℤ (b -ℤ a) ≡ s *ℤ a +ℤ t *ℤ b
    mixed s t a b = ap₂ ◌+ℤ◌ (*ℤ-distrib-r s t a) (*ℤ-distrib-l t b (neg_ℤ a) ∙ ap (λ x. t *ℤ b +ℤ x) (*ℤ-neg t a)) ∙ cancel (s *ℤ a) (t *ℤ a) (t *ℤ b)
      where
        cancel : (x y z : ℤ) → x +ℤ y +ℤ (z +ℤ neg_ℤ y) ≡ x +ℤ z
        cancel x y z = omega (arith, ints)

    total : (A : ℕ) → a.rest + a.part ≡ B → b.rest + b.part ≡ B → both u * B ≡ both (through a b u)
    total A e f = omega (arith, ap (λ x. u.rest * x) e, ap (λ x. u.part * x) f)

pub weight-both : (v : Param) → InRange v → both (of_param v) ≡ parts v
weight-both v ok = omega arith

pub weight_is : (v : Param) → InRange v → Is (fraction v) (pos v.part) (both (of_param v))
weight_is v ok = is-as refl (sym (weight-both v ok)) (is-own (fraction v))

-- the window after one working
record Moves (w : Working) (W : Window) (a b : Share) : Type 0 where
  a' : Share
  b' : Share
  B' : ℕ
  spans : Spans (moved w W) a' b' B'
  same : (u : Share) → through a' b' u ≡ through a b (back w u)

through-both : (a b u : Share) (B : ℕ) → both a ≡ B → both b ≡ B → both (through a b u) ≡ both u * B
through-both a b u B e f = omega (arith, ap (λ x. u.rest * x) e, ap (λ x. u.part * x) f)

abbrev times : ℕ → Share → Share
times k a = record { rest = k * a.rest; part = k * a.part }

times-both : (k : ℕ) (a : Share) (B : ℕ) → both a ≡ B → both (times k a) ≡ k * B
times-both k a B e = omega (arith, ap (λ x. k * x) e)

moves : (w : Working) (W : Window) (a b : Share) (B : ℕ) → Valid w → Spans W a b B → Moves w W a b
moves (left_at v) W a b B ok h = record {
  a' = times (both (of_param v)) a;
  b' = through a b (of_param v);
  B' = both (of_param v) * B;
  spans = record {
    start_sum = times-both (both (of_param v)) a B h.start_sum;
    end_sum = through-both a b (of_param v) B h.start_sum h.end_sum;
    start_is = is-scale (both (of_param v)) W.start (pos a.part) B h.start_is;
    end_is = is-as refl (through-both a b (of_param v) B h.start_sum h.end_sum) (goes-is W a b B (fraction v) (of_param v) h (weight_is v ok));
  };
  same = λ u. share-path (omega arith) (omega arith);
}
moves (right_at v) W a b B ok h = record {
  a' = through a b (of_param v);
  b' = times (both (of_param v)) b;
  B' = both (of_param v) * B;
  spans = record {
    start_sum = through-both a b (of_param v) B h.start_sum h.end_sum;
    end_sum = times-both (both (of_param v)) b B h.end_sum;
    start_is = is-as refl (through-both a b (of_param v) B h.start_sum h.end_sum) (goes-is W a b B (fraction v) (of_param v) h (weight_is v ok));
    end_is = is-scale (both (of_param v)) W.end (pos b.part) B h.end_is;
  };
  same = λ u. share-path (omega arith) (omega arith);
}
moves raised W a b B ok h = record { a' = a; b' = b; B' = B; spans = h; same = λ u. refl }
moves turned W a b B ok h = record {
  a' = b;
  b' = a;
  B' = B;
  spans = record { start_sum = h.end_sum; end_sum = h.start_sum; start_is = h.end_is; end_is = h.start_is };
  same = λ u. share-path (omega arith) (omega arith);
}

window-is : (ws : List Working) (W : Window) (a b : Share) (B : ℕ) (t : Fraction) (u : Share) → AllValid ws → Spans W a b B → Is t (pos u.part) (both u) → Is (goes (window ws W) t) (pos (through a b (backs ws u)).part) (both (through a b (backs ws u)))
window-is [] W a b B t u o h k = goes-is W a b B t u h k
window-is (w ∷ ws) W a b B t u o h k =
    let c : Moves w W a b = moves w W a b B o.0 h in
    subst (λ (x : Share). Is (goes (window ws (moved w W)) t) (pos x.part) (both x)) (c.same (backs ws u)) (window-is ws (moved w W) c.a' c.b' c.B' t u o.1 c.spans k)

-- the fraction to which a pile carries t is the share to which it carries u
pub carried-is : (ws : List Working) (t : Fraction) (u : Share) → AllValid ws → Is t (pos u.part) (both u) → Is (carried ws t) (pos (backs ws u).part) (both (backs ws u))
unfolding carried
carried-is ws t u o h =
    subst (λ (x : Share). Is (carried ws t) (pos x.part) (both x)) (whole-window (backs ws u))
    (window-is ws _ (record { rest = 1; part = 0 }) (record { rest = 0; part = 1 }) 1 t u o (record { start_sum = refl; end_sum = refl; start_is = record { same = refl }; end_is = record { same = refl } }) h)
  where
    whole-window : (x : Share) → through (record { rest = 1; part = 0 }) (record { rest = 0; part = 1 }) x ≡ x
    whole-window x = share-path (omega arith) (omega arith)
