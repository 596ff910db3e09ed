-- What the calls leave on a buffer.
use Rattle.std.proofs.Common.{◌≡◌, ℕ, ◌+◌, ◌-◌, ◌^◌, ◌<◌, ◌≤◌, List, map, reverse, length, take, drop, ℤ, Ok, sym, ap, ◌∙◌, ap₂, subst₂, add-one, sub-one, arith}
use mathlib.Core.Path.{fun_ext}
use Rattle.std.proofs.lemmas.List.{length-map, length-take-le, take_all, drop_all, take-map, get_or-take}
use Rattle.exact.specs.Polygon.{left, right, level}
use Rattle.exact.proofs.Lists.{length-level, get_or-level}
use Rattle.exact.proofs.Axes.{map-turn}
use Rattle.exact.proofs.Mirror.{mix-mirror, left-mirror}
use Rattle.points.specs.declared.parameter.Parameter.{Parameter}
use Rattle.points.specs.Points.{Point, origin, mixed, mix_point}
use Rattle.polygons.specs.Buffers.{Puts}
use Rattle.polygons.specs.Constructions.{Passed, mix_at}
use Rattle.polygons.proofs.Levels.{at, same_points}

mixed-mirror : (w d : ℕ) → w ≤ d → (p q : ℤ) → mixed (d - w) d q p ≡ mixed w d p q
unfolding mixed
mixed-mirror w d h p q = mix-mirror w d h p q

module _ {X : Type 0} (c : X → Point) where
  -- the whole slice is the polygon
  pub puts-all : (qs : List Point) (before after : List X) → length after ≡ length before → map c after ≡ qs → Puts c qs (Ok tt) before after
  puts-all qs before after l e =
      let n : length qs ≡ length after = sym (ap length e) ∙ length-map after c in (
        ap (λ k. map c (take k after)) n ∙ ap (map c) (take_all (length after) after (omega arith)) ∙ e,
        drop_all (length qs) after (omega arith) ∙ sym (drop_all (length qs) before (omega arith)),
      )

  -- one pass over all but the last place
  puts-level-by : (m : Point → Point → Point) (before after : List X) (n : ℕ) → n + 1 ≡ length before → length after ≡ length before → Passed m (map c before) (map c after) n → drop n after ≡ drop n before → Puts c (level m (map c before)) (Ok tt) before after
  puts-level-by m before after n e l p rest =
      let k : length (level m (map c before)) ≡ n = length-level m (map c before) ∙ omega (arith, length-map before c, sub-one (length (map c before))) in (
        same_points (map c (take (length (level m (map c before))) after)) (level m (map c before)) (length-map (take (length (level m (map c before))) after) c ∙ length-take-le _ after (omega arith))
            (λ i h.
            let i-below : i < n = omega (arith, length-map (take (length (level m (map c before))) after) c, length-take-le (length (level m (map c before))) after (omega arith)) in
            ap (λ zs. at zs i) (sym (take-map c (length (level m (map c before))) after)) ∙ get_or-take (length (level m (map c before))) (map c after) i origin (omega arith)
            ∙ p.mixes i i-below ∙ ap (λ j. m (at (map c before) i) (at (map c before) j)) (add-one i) ∙ sym (get_or-level m (map c before) i origin (omega (arith, length-map before c)))),
        ap (λ j. drop j after) k ∙ rest ∙ sym (ap (λ j. drop j before) k),
      )

  pub puts_level : (t : Parameter) (w d : ℕ) (before after : List X) (n : ℕ) → w ≡ t.a → d ≡ 2 ^ t.k → n + 1 ≡ length before → length after ≡ length before → Passed (mix_point w d) (map c before) (map c after) n → drop n after ≡ drop n before → Puts c (level (mix_at t) (map c before)) (Ok tt) before after
  puts_level t w d before after n ew ed e l p rest =
      puts-level-by (mix_at t) before after n e l (subst₂ (λ u v. Passed (mix_point u v) (map c before) (map c after) n) ew ed p) rest

  -- the left part, made from the other end: mid is the right part of the reversed points
  pub puts-left : (t : Parameter) (w d u v : ℕ) (before mid after : List X) → w ≤ d → w ≡ t.a → d ≡ 2 ^ t.k → u ≡ d - w → v ≡ d → length after ≡ length before → map c mid ≡ right (mix_point u v) (map c (reverse before)) → after ≡ reverse mid → Puts c (left (mix_at t) (map c before)) (Ok tt) before after
  puts-left t w d u v before mid after h ew ed eu ev l em ea =
      puts-all (left (mix_at t) (map c before)) before after l
      (ap (map c) ea ∙ map-turn c mid ∙ ap reverse (em ∙ ap₂ (λ i j. right (mix_point i j) (map c (reverse before))) eu ev ∙ ap (right (mix_point (d - w) d)) (map-turn c before))
      ∙ left-mirror (mix_point w d) (mix_point (d - w) d) (λ x y. fun_ext (λ a. mixed-mirror w d h (x a) (y a))) (map c before)
      ∙ ap₂ (λ i j. left (mix_point i j) (map c before)) ew ed)

  pub puts-turn : (before after : List X) → length after ≡ length before → after ≡ reverse before → Puts c (reverse (map c before)) (Ok tt) before after
  puts-turn before after l e = puts-all (reverse (map c before)) before after l (ap (map c) e ∙ map-turn c before)
