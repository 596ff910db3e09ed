-- Both parts in place: the levels from the right on the polygon's places, and their first points on those of the left part.
use Rattle.std.proofs.Common.{◌≡◌, ℕ, ◌+◌, ◌^◌, ◌<◌, ◌≤◌, List, ◌++◌, map, length, get_or, take, drop, set, Ok, sym, ap, ◌∙◌, ap₂, refl, subst, append_assoc, below_more, arith}
use Rattle.std.proofs.lemmas.List.{length-append, length-map, take_at, drop_at, drop-drop, map-append}
use Rattle.exact.specs.Polygon.{level_at, left, right}
use Rattle.exact.proofs.Lists.{length-firsts, get_or-firsts}
use Rattle.points.specs.declared.parameter.Parameter.{Parameter}
use Rattle.points.specs.Points.{Point, origin, mix_point}
use Rattle.polygons.specs.Buffers.{Puts}
use Rattle.polygons.specs.Constructions.{Passed, both_parts_at}
use Rattle.polygons.proofs.Levels.{at, same_points, RightDone, right-none, right-next}
use Rattle.polygons.proofs.Writes.{read_is, write_same, write-other}

-- r levels are done on the polygon's places qs, and rs holds the first points of levels 0 to r
pub record BothDone (f : Point → Point → Point) (ps qs rs : List Point) (r : ℕ) : Type 0 where
  pub done : RightDone f ps qs r
  pub firsts : (k : ℕ) → k < r + 1 → at rs k ≡ level_at f (at ps) k 0

module _ {X : Type 0} (c : X → Point) (f : Point → Point → Point) where
  -- level r is done, and x is its first point
  first-done : (ps : List Point) (ys zs : List X) (x : X) (r : ℕ) → length ys ≡ length ps → length zs ≡ length ps → r < length ps → RightDone f ps (map c ys) r → x ≡ get_or ys 0 x → at (map c (set zs r x)) r ≡ level_at f (at ps) r 0
  first-done ps ys zs x r ly lz l done ex = write_same c zs r x (omega arith) ∙ read_is c ys 0 x (omega arith) ex ∙ done.low 0 (omega arith)

  pub both-none : (xs zs : List X) (x : X) (r : ℕ) → 0 ≡ r → 1 ≤ length xs → length zs ≡ length xs → x ≡ get_or xs 0 x → BothDone f (map c xs) (map c xs) (map c (set zs 0 x)) r
  both-none xs zs x r er l e ex =
      let ps = map c xs in
      let start : BothDone f ps ps (map c (set zs 0 x)) 0 = record {
        done = right-none f ps;
        firsts = λ k h. let z : 0 ≡ k = omega arith in subst (λ i. at (map c (set zs 0 x)) i ≡ level_at f (at ps) i 0) z (first-done ps xs zs x 0 (sym (length-map xs c)) (e ∙ sym (length-map xs c)) (omega (arith, length-map xs c)) (right-none f ps) ex);
      } in
      subst (λ n. BothDone f ps ps (map c (set zs 0 x)) n) er start

  -- one level more: m points are mixed, and x is the first of them
  pub both-next : (ps : List Point) (xs ys zs : List X) (x : X) (r s m : ℕ) → s ≡ r + 1 → length ys ≡ length ps → length zs ≡ length ps → m + s ≡ length ps → 1 ≤ m → BothDone f ps (map c xs) (map c zs) r → Passed f (map c xs) (map c ys) m → x ≡ get_or ys 0 x → BothDone f ps (map c ys) (map c (set zs s x)) s
  both-next ps xs ys zs x r s m es ly lz e h inv pass ex =
      let done : RightDone f ps (map c ys) s = right-next f ps (map c xs) (map c ys) r s m es e inv.done pass in
      record {
        done = done;
        firsts = below_more (λ k. at (map c (set zs s x)) k ≡ level_at f (at ps) k 0) s (λ k l. write-other c zs s k x (omega arith) ∙ inv.firsts k (omega arith)) (first-done ps ys zs x s ly lz (omega arith) done ex);
      }

pub both-left : (f : Point → Point → Point) (ps qs rs : List Point) (r : ℕ) → length rs ≡ length ps → length ps ≤ r + 1 → BothDone f ps qs rs r → rs ≡ left f ps
both-left f ps qs rs r e l inv = same_points rs (left f ps) (e ∙ sym (length-firsts f (length ps) ps refl)) (λ k h. inv.firsts k (omega arith) ∙ sym (get_or-firsts f (length ps) ps k origin refl (omega arith)))

-- both parts from the start of a buffer, each on n places
pub puts-both : {X : Type 0} (c : X → Point) (t : Parameter) (w d n m : ℕ) (before rest xs ys : List X) → w ≡ t.a → d ≡ 2 ^ t.k → length xs ≡ n → length ys ≡ n → m ≡ n → rest ≡ drop n before → map c xs ≡ right (mix_point w d) (map c (take n before)) → map c ys ≡ left (mix_point w d) (map c (take n before)) → Puts c (both_parts_at t (map c (take n before))) (Ok tt) before (xs ++ (ys ++ drop m rest))
puts-both c t w d n m before rest xs ys ew ed lx ly em er ex ey =
    let ps = map c (take n before) in
    let N = length (both_parts_at t ps) in
    let is : map c (xs ++ ys) ≡ both_parts_at t ps = map-append c xs ys ∙ ap₂ ◌++◌ ex ey ∙ ap₂ (λ u v. right (mix_point u v) ps ++ left (mix_point u v) ps) ew ed in
    let many : length (xs ++ ys) ≡ N = sym (length-map (xs ++ ys) c) ∙ ap length is in
    let both : N ≡ n + n = sym many ∙ omega (arith, length-append xs ys) in
    let seam : xs ++ (ys ++ drop m rest) ≡ (xs ++ ys) ++ drop m rest = sym (append_assoc xs ys (drop m rest)) in (
      ap (λ zs. map c (take N zs)) seam ∙ ap (map c) (take_at (xs ++ ys) (drop m rest) N many) ∙ is,
      ap (drop N) seam ∙ drop_at (xs ++ ys) (drop m rest) N many ∙ ap₂ drop em er ∙ drop-drop n n before ∙ ap (λ k. drop k before) (sym both),
    )
