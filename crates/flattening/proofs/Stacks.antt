-- The top of a stack, and halving it in place.
use Rattle.std.proofs.Common.{◌≡◌, ℕ, ◌+◌, ◌-◌, ◌≤◌, List, ◌++◌, map, length, take, drop, Ok, sym, ap, ◌∙◌, arith}
use borrow.Rule.Slice.PartMut.{put_mid}
use Rattle.std.proofs.lemmas.List.{length-map, length-take, length-drop, length-append, take_all, take-map, drop-map, take_at, drop_at, take-take, drop-drop}
use Rattle.std.proofs.lemmas.Slice.{take-put_mid_below, drop-put_mid, between-put_mid, between_is}
use Rattle.points.specs.Points.{Point}
use Rattle.polygons.specs.Buffers.{Puts}
use Rattle.flattening.specs.declared.stack.Stack.{Stack}
use Rattle.flattening.specs.Pieces.{left_half, right_half}
use Rattle.flattening.specs.Stacks.{top_of, Topped, Roomy, Halved}
use Rattle.flattening.proofs.Halves.{length-left, length-right}

pub length-top : {K : Type 0} (s : Stack K) → Topped s → length (top_of s) ≡ s.size
length-top s h = omega (arith, s.fits, length-drop (s.used - s.size) (take s.used s.buffer.now), length-take s.used s.buffer.now)

-- a write to a part keeps the length
pub length-put_mid : {X : Type 0} (a k : ℕ) (xs ys : List X) → a + k ≤ length xs → length ys ≡ k → length (put_mid a k xs ys) ≡ length xs
length-put_mid a k xs ys h e = omega (arith, length-append (take a xs) (ys ++ drop k (drop a xs)), length-append ys (drop k (drop a xs)), length-drop k (drop a xs), length-drop a xs, length-take a xs)

-- The piece in the s places from a on, and the s places above it, were overwritten by Y: its first s places stand in the piece's, the others above.
module _ {X : Type 0} (xs Y : List X) (a s u k : ℕ) (au : a + s ≡ u) (ks : k ≡ s + s) (room : u + s ≤ length xs) (lY : length Y ≡ s + s) where
  long-end : length (put_mid a k xs Y) ≡ length xs
  long-end = length-put_mid a k xs Y (omega arith) (omega arith)

  below_end : take a (put_mid a k xs Y) ≡ take a xs
  below_end = take-put_mid_below a k xs Y a (omega arith) (omega arith)

  above-end : drop (u + s) (put_mid a k xs Y) ≡ drop (u + s) xs
  above-end = drop-put_mid a k xs Y (u + s) (omega arith) (omega arith) (omega arith)

  both_at : take (u + s - a) (drop a (put_mid a k xs Y)) ≡ Y
  both_at = between-put_mid a k xs Y (u + s) (omega arith) (omega arith)

  left_at : drop u (take (u + s) (put_mid a k xs Y)) ≡ drop s Y
  left_at =
      ap (λ n. drop n (take (u + s) (put_mid a k xs Y))) (sym au)
      ∙ sym (drop-drop s a (take (u + s) (put_mid a k xs Y)))
      ∙ ap (drop s) (sym (between_is (put_mid a k xs Y) a (u + s)) ∙ both_at)

  right-at : drop a (take u (put_mid a k xs Y)) ≡ take s Y
  right-at =
      sym (between_is (put_mid a k xs Y) a u)
      ∙ ap (λ n. take n (drop a (put_mid a k xs Y))) (let q : u - a ≡ s = omega arith in q)
      ∙ sym (take-take s (u + s - a) (drop a (put_mid a k xs Y)) (omega arith))
      ∙ ap (take s) both_at

  piece-at : take s (take k (drop a xs)) ≡ drop a (take u xs)
  piece-at = take-take s k (drop a xs) (omega arith) ∙ ap (λ n. take n (drop a xs)) (let q : s ≡ u - a = omega arith in q) ∙ between_is xs a u

-- a stack whose top piece was split at 1/2
module _ {K : Type 0} (c : K → Point) (s t : Stack K) (Y : List K) (k : ℕ) (top : Topped s) (room : Roomy s) (ks : k ≡ s.size + s.size) where
  pub halved : t.buffer.now ≡ put_mid (s.used - s.size) k s.buffer.now Y → t.size ≡ s.size → t.used ≡ s.used + s.size
      → length Y ≡ s.size + s.size
      → Puts c (right_half (map c (take s.size (take k (drop (s.used - s.size) s.buffer.now)))) ++ left_half (map c (take s.size (take k (drop (s.used - s.size) s.buffer.now))))) (Ok tt) (take k (drop (s.used - s.size) s.buffer.now)) Y
      → Halved c s t
  halved eb es eu lY put =
      let xs = s.buffer.now in
      let u : ℕ = s.used in
      let n : ℕ = s.size in
      let a : ℕ = u - n in
      let au : a + n ≡ u = omega arith in
      let T : List K = take n (take k (drop a xs)) in
      let piece : T ≡ top_of s = piece-at xs Y a n u k au ks room lY in
      let lT : length (map c T) ≡ n = length-map T c ∙ ap length piece ∙ length-top s top in
      let lR = length-right (map c T) in
      let lL = length-left (map c T) in
      let R : List Point = right_half (map c T) in
      let L : List Point = left_half (map c T) in
      let isY : map c Y ≡ R ++ L = sym (ap (map c) (take_all (length (R ++ L)) Y (omega (arith, length-append R L)))) ∙ put.0 in
      let isR : map c (take n Y) ≡ right_half (map c (top_of s)) = sym (take-map c n Y) ∙ ap (take n) isY ∙ take_at R L n (omega arith) ∙ ap (λ z. right_half (map c z)) piece in
      let isL : map c (drop n Y) ≡ left_half (map c (top_of s)) = sym (drop-map c n Y) ∙ ap (drop n) isY ∙ drop_at R L n (omega arith) ∙ ap (λ z. left_half (map c z)) piece in
      record {
        size = es;
        used = eu;
        long = ap length eb ∙ long-end xs Y a n u k au ks room lY;
        below = ap (take a) eb ∙ below_end xs Y a n u k au ks room lY;
        above = ap (drop (u + n)) eb ∙ above-end xs Y a n u k au ks room lY;
        left = ap (λ i. map c (drop i (take t.used t.buffer.now))) (let q : t.used - t.size ≡ u = omega arith in q) ∙ ap (λ i. map c (drop u (take i t.buffer.now))) eu ∙ ap (λ z. map c (drop u (take (u + n) z))) eb ∙ ap (map c) (left_at xs Y a n u k au ks room lY) ∙ isL;
        right = ap (λ i. map c (drop i (take (t.used - t.size) t.buffer.now))) (let q : t.used - t.size - t.size ≡ a = omega arith in q) ∙ ap (λ i. map c (drop a (take i t.buffer.now))) (let q : t.used - t.size ≡ u = omega arith in q) ∙ ap (λ z. map c (drop a (take u z))) eb ∙ ap (map c) (right-at xs Y a n u k au ks room lY) ∙ isR;
      }
