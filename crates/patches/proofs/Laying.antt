-- Columns of a patch, copied and worked in place.
use Rattle.std.proofs.Common.{◌≡◌, ℕ, ◌+◌, ◌*◌, ◌<◌, ◌≤◌, false, List, [], ◌∷◌, ◌++◌, map, length, get_or, take, drop, set, Ok, Result, sym, refl, ap, ◌∙◌, subst, ⊎_elim, mul-le-mul_right, length-append, arith, below_more}
use borrow.Rule.Slice.PartMut.{put_mid}
use Rattle.std.proofs.lemmas.Bool.{cases_lt}
use Rattle.std.proofs.lemmas.Grind.{common_steps, rows}
use Rattle.std.proofs.lemmas.Nat.{mul-add-lt}
use Rattle.std.proofs.lemmas.List.FromFn.{fill_by_all}
use Rattle.std.proofs.lemmas.List.{length-map, map-set, length-take-le, take-map, map-append, get_or_append_left, get_or-drop, drop_at, drop-drop, length-drop}
use Rattle.points.specs.declared.fault.Fault.{Fault}
use Rattle.points.specs.declared.parameter.Parameter.{Parameter}
use Rattle.points.specs.Parameters.{off_scale}
use Rattle.points.specs.Points.{Point, origin}
use Rattle.polygons.specs.Buffers.{sized, scaled, Puts}
use Rattle.polygons.specs.Constructions.{right_part_at}
use Rattle.polygons.proofs.Writes.{read_is, write_same}
use Rattle.workings.proofs.Shapes.{scaled-ok}
use Rattle.sources.specs.Points.{point_at}
use Rattle.sources.proofs.Pointing.{first-is}
use Rattle.patches.specs.Nets.{place_of, column, cut_points, Gridded}

-- every point (i, j) has its place
pub in-grid : (m n i j points : ℕ) → Gridded m n points → i < m + 1 → j ≤ n → place_of m n i j < points
in-grid m n i j points g l h = omega (arith, mul-add-lt i (n + 1) j (m + 1) l (omega arith), g.grid)

-- Row after row comes. Where i rows came, xs without them is left.
module _ {X : Type 0} (m n i : ℕ) (xs : List X) (g : Gridded m n (length xs)) where
  -- where less than a row is left, every row came
  pub rows-all : length (drop (i * (n + 1)) xs) < n + 1 → m + 1 ≤ i
  rows-all h = grind (arith, common_steps, rows)

  row-in : (row rest : List X) → drop (i * (n + 1)) xs ≡ row ++ rest → length row ≡ n + 1 → i < m + 1
  row-in row rest e l = ⊎_elim (λ k. k)
      (λ (k : m + 1 ≤ i). absurd (omega (arith, mul-le-mul_right (n + 1) k, g.grid, length-drop (i * (n + 1)) xs, ap length e, length-append row rest)))
      (cases_lt i (m + 1))

module _ {X : Type 0} (c : X → Point) where
  -- one point more of a column is copied
  pub copied_more : (m n j i : ℕ) (xs room : List X) (x : X) → Gridded m n (length xs) → j ≤ n → i < m + 1 → length room ≡ m + 1
      → ((k : ℕ) → k < i → get_or (map c room) k origin ≡ get_or (map c xs) (place_of m n k j) origin) → x ≡ get_or xs (place_of m n i j) x
      → (k : ℕ) → k < i + 1 → get_or (map c (set room i x)) k origin ≡ get_or (map c xs) (place_of m n k j) origin
  copied_more m n j i xs room x g h l lr inv e =
      below_more (λ k. get_or (map c (set room i x)) k origin ≡ get_or (map c xs) (place_of m n k j) origin) i
      (λ k q. grind (arith, common_steps, map-set, inv k q))
      (write_same c room i x (omega arith) ∙ read_is c xs (place_of m n i j) x (in-grid m n i j (length xs) g l h) e)

  -- row i comes, and its point j is copied
  pub row_copied : (m n j i : ℕ) (xs room left row rest : List X) (x : X) → Gridded m n (length xs) → j ≤ n → length room ≡ m + 1
      → left ≡ drop (i * (n + 1)) xs → left ≡ row ++ rest → length row ≡ n + 1 → x ≡ get_or row j x → ((k : ℕ) → k < i → get_or (map c room) k origin ≡ get_or (map c xs) (place_of m n k j) origin)
      → (rest ≡ drop ((i + 1) * (n + 1)) xs) × ((k : ℕ) → k < i + 1 → get_or (map c (set room i x)) k origin ≡ get_or (map c xs) (place_of m n k j) origin)
  row_copied m n j i xs room left row rest x g h lr was came l q inv = let e = sym was ∙ came in (
    grind (arith, common_steps, rows, drop_at row rest (n + 1) l, drop-drop (n + 1) (i * (n + 1)) xs),
    copied_more m n j i xs room x g h (row-in m n i xs g row rest e l) lr inv (grind (arith, common_steps, get_or_append_left row rest x j, get_or-drop (i * (n + 1)) xs j x)),
  )

  pub copied_all : (m n j : ℕ) (xs room : List X) → length room ≡ m + 1 → ((k : ℕ) → k < m + 1 → get_or (map c room) k origin ≡ get_or (map c xs) (place_of m n k j) origin) → map c room ≡ column origin m n (map c xs) j
  copied_all m n j xs room l inv = fill_by_all (λ i. get_or (map c xs) (place_of m n i j) origin) (map c room) (m + 1) origin (length-map room c ∙ l) inv

  first_of : (t : Parameter) (ps : List Point) (before after : List X) → 1 ≤ length ps → length ps ≤ length after → Puts c (right_part_at t ps) (Ok tt) before after → get_or (map c after) 0 origin ≡ point_at t ps
  first_of t ps before [] h l p = absurd (omega arith)
  first_of t ps before (y ∷ ys) h l p = first-is c t ps before (y ∷ ys) y h l p refl

  -- the right part of a column starts with its point
  pub column-first : (s : Parameter) (ps : List Point) (before after : List X) (r : Result (Unit {0}) Fault) → map c before ≡ ps → off_scale s ≡ false → 2 ≤ length before → length before ≤ 17 → length after ≡ length before
      → r ≡ scaled s (sized (length before)) → Puts c (right_part_at s (map c before)) r before after → get_or (map c after) 0 origin ≡ point_at s ps
  column-first s ps before after r e ok l h la er p =
      let k : length (map c before) ≡ length before = length-map before c in
      first_of s (map c before) before after (omega arith) (omega arith) (subst (λ v. Puts c (right_part_at s (map c before)) v before after) (er ∙ scaled-ok s (length before) ok l h) p)
      ∙ ap (point_at s) e

  -- one column more: ys stands on k places from j on, and its first is point j
  pub laid_more : (f : ℕ → Point) (j k : ℕ) (xs ys : List X) → length ys ≡ k → 1 ≤ k → j + k ≤ length xs → ((i : ℕ) → i < j → get_or (map c xs) i origin ≡ f i) → get_or (map c ys) 0 origin ≡ f j
      → (i : ℕ) → i < j + 1 → get_or (map c (put_mid j k xs ys)) i origin ≡ f i
  laid_more f j k xs ys ly l h inv e = below_more (λ i. get_or (map c (put_mid j k xs ys)) i origin ≡ f i) j
      (λ i q. grind (arith, common_steps, map-append, take-map, inv i q))
      (grind (arith, common_steps, map-append))

  pub laid-all : (f : ℕ → Point) (n : ℕ) (xs : List X) → n + 1 ≤ length xs → ((i : ℕ) → i < n + 1 → get_or (map c xs) i origin ≡ f i) → (i : ℕ) → i < n + 1 → get_or (map c (take (n + 1) xs)) i origin ≡ f i
  laid-all f n xs h inv i l = grind (arith, common_steps, take-map, inv i l)

  pub cut_all : (s : Parameter) (m n : ℕ) (ps : List Point) (xs : List X) → n + 1 ≤ length xs → ((i : ℕ) → i < n + 1 → get_or (map c xs) i origin ≡ point_at s (column origin m n ps i)) → map c (take (n + 1) xs) ≡ cut_points s m n ps
  cut_all s m n ps xs h inv =
      fill_by_all (λ j. point_at s (column origin m n ps j)) (map c (take (n + 1) xs)) (n + 1) origin (length-map (take (n + 1) xs) c ∙ length-take-le (n + 1) xs h)
      (laid-all (λ j. point_at s (column origin m n ps j)) n xs h inv)
