-- The halves of a polygon: how long they are, and where they meet.
use Rattle.std.proofs.Common.{◌≡◌, ℕ, ◌-◌, ◌<◌, List, length, get_or, sym, refl, ap, ◌∙◌, sub-one, arith}
use Rattle.exact.specs.Polygon.{level_at}
use Rattle.exact.proofs.Lists.{length-firsts, get_or-firsts, length-lasts, get_or-lasts}
use Rattle.points.specs.Points.{Point, origin, mix_point}
use Rattle.flattening.specs.Pieces.{left_half, right_half}
use Rattle.flattening.specs.Vertices.{first_of, last_of}

level : List Point → ℕ → ℕ → Point
level ps r i = level_at (mix_point 1 2) (λ k. get_or ps k origin) r i

pub length-left : (ps : List Point) → length (left_half ps) ≡ length ps
unfolding left_half
length-left ps = length-firsts (mix_point 1 2) (length ps) ps refl

pub length-right : (ps : List Point) → length (right_half ps) ≡ length ps
unfolding right_half
length-right ps = length-lasts (mix_point 1 2) (length ps) ps refl

left_at : (ps : List Point) (i : ℕ) → i < length ps → get_or (left_half ps) i origin ≡ level ps i 0
unfolding left_half level
left_at ps i h = get_or-firsts (mix_point 1 2) (length ps) ps i origin refl h

right-at : (ps : List Point) (i : ℕ) → i < length ps → get_or (right_half ps) i origin ≡ level ps (length ps - 1 - i) i
unfolding right_half level
right-at ps i h = get_or-lasts (mix_point 1 2) (length ps) ps i origin refl h ∙ ap (λ n. level ps (n - i) i) (sym (sub-one (length ps)))

level-none : (ps : List Point) (i : ℕ) → level ps 0 i ≡ get_or ps i origin
unfolding level
level-none ps i = refl

module _ (ps : List Point) (h : 0 < length ps) where
  pub left-first : first_of (left_half ps) ≡ first_of ps
  left-first = left_at ps 0 h ∙ level-none ps 0

  left-last : last_of (left_half ps) ≡ level ps (length ps - 1) 0
  left-last = ap (λ n. get_or (left_half ps) (n - 1) origin) (length-left ps) ∙ left_at ps (length ps - 1) (omega arith)

  right-first : first_of (right_half ps) ≡ level ps (length ps - 1) 0
  right-first = right-at ps 0 h ∙ ap (λ n. level ps n 0) (omega arith)

  pub right-last : last_of (right_half ps) ≡ last_of ps
  right-last =
      let z : length ps - 1 - (length ps - 1) ≡ 0 = omega arith in
      ap (λ n. get_or (right_half ps) (n - 1) origin) (length-right ps) ∙ right-at ps (length ps - 1) (omega arith) ∙ ap (λ n. level ps n (length ps - 1)) z ∙ level-none ps (length ps - 1)

  pub halves-meet : last_of (left_half ps) ≡ first_of (right_half ps)
  halves-meet = left-last ∙ sym right-first
