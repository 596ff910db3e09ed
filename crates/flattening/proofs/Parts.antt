-- The pieces of a polygon, axis by axis, and how they follow one another.
use Rattle.std.proofs.Common.{◌≡◌, ℕ, zero, suc, pred, ◌+◌, ◌-◌, ◌*◌, ◌^◌, ◌<◌, ◌≤◌, Bool, true, false, List, [], ◌∷◌, ◌++◌, length, get_or, ℤ, pos, ◌+ℤ◌, ◌-ℤ◌, ◌*ℤ◌, nat_abs, sym, refl, ap, ◌∙◌, subst, pow-suc, sub-one, arith}
use Rattle.std.proofs.lemmas.List.{length-map}
use Rattle.std.proofs.lemmas.Bool.{ltb-false}
use Rattle.exact.specs.Mixing.{mix, blend}
use Rattle.exact.specs.Polygon.{degree, left, right}
use Rattle.exact.specs.Fractions.{apart}
use Rattle.exact.specs.Flat.{Flat}
use Rattle.exact.specs.Pieces as exact
use Rattle.exact.proofs.Axes.{map-left, map-right}
use Rattle.points.specs.Points.{Point, origin, mixed, mix_point}
use Rattle.polygons.specs.Flatness.{off_by}
use Rattle.sources.specs.Accuracy.{along}
use Rattle.flattening.specs.Pieces.{left_half, right_half, Piece, pieces, WhenKept}
use Rattle.flattening.specs.Flat.{flat?}
use Rattle.flattening.specs.Vertices.{first_of, last_of}
use Rattle.flattening.proofs.Halves.{length-left, length-right, left-first, right-last, halves-meet}
use Rattle.flattening.proofs.Pieces.{when-kept, pieces-all}
use Rattle.flattening.proofs.Flats.{none-off}

along-left : (a : ℕ) (ps : List Point) → along a (left_half ps) ≡ left (mix 1 2) (along a ps)
unfolding left_half mixed
along-left a ps = map-left (λ (x : Point). x a) (mix_point 1 2) (mix 1 2) (λ x y. refl) ps

along-right : (a : ℕ) (ps : List Point) → along a (right_half ps) ≡ right (mix 1 2) (along a ps)
unfolding right_half mixed
along-right a ps = map-right (λ (x : Point). x a) (mix_point 1 2) (mix 1 2) (λ x y. refl) ps

pub along-at : (a : ℕ) (ps : List Point) (i : ℕ) → get_or (along a ps) i (pos 0) ≡ get_or ps i origin a
along-at a [] i = refl
along-at a (p ∷ ps) zero = refl
along-at a (p ∷ ps) (suc i) = along-at a ps i

pub along-degree : (a : ℕ) (ps : List Point) → degree (along a ps) ≡ length ps - 1
along-degree a ps = ap pred (length-map ps (λ x. x a)) ∙ sym (sub-one (length ps))

-- qs is the piece of ps that starts at s and may be halved h times more: at depth 12 − h, the one with `place` pieces of its depth before it
pub record Part (ps : List Point) (h s : ℕ) (qs : List Point) : Type 0 where
  pub depth : ℕ
  pub place : ℕ
  pub levels : depth + h ≡ 12
  pub starts : s ≡ place * 2 ^ h
  pub long : length qs ≡ length ps
  pub axis : (a : ℕ) → exact.Piece (along a ps) depth place (along a qs)

pub part-whole : (ps : List Point) → Part ps 12 0 ps
part-whole ps = record { depth = 0; place = 0; levels = refl; starts = refl; long = refl; axis = λ a. exact.entire }

pub part_left : (ps : List Point) (h s : ℕ) (qs : List Point) → Part ps (suc h) s qs → Part ps h s (left_half qs)
part_left ps h s qs p = record {
  depth = suc p.depth;
  place = 2 * p.place;
  levels = omega (arith, p.levels);
  starts = omega (arith, p.starts, ap (λ z. p.place * z) (pow-suc 2 h));
  long = length-left qs ∙ p.long;
  axis = λ a. subst (exact.Piece (along a ps) (suc p.depth) (2 * p.place)) (sym (along-left a qs)) (exact.first (p.axis a));
}

pub part_right : (ps : List Point) (h s : ℕ) (qs : List Point) → Part ps (suc h) s qs → Part ps h (s + 2 ^ h) (right_half qs)
part_right ps h s qs p = record {
  depth = suc p.depth;
  place = suc (2 * p.place);
  levels = omega (arith, p.levels);
  starts = omega (arith, p.starts, ap (λ z. p.place * z) (pow-suc 2 h));
  long = length-right qs ∙ p.long;
  axis = λ a. subst (exact.Piece (along a ps) (suc p.depth) (suc (2 * p.place))) (sym (along-right a qs)) (exact.second (p.axis a));
}

off-bound : (n i q : ℕ) (x y z : ℤ) → off_by n i q x y z ≡ false → apart (pos n *ℤ y) (blend (n - i) i x z) ≤ n * q
unfolding off_by
off-bound n i q x y z e = ltb-false (n * q) (nat_abs (pos n *ℤ y -ℤ (pos (n - i) *ℤ x +ℤ pos i *ℤ z))) e

-- a flat polygon is flat on every axis
pub flat-along : (width : ℕ) (tol : ℕ → ℕ) (ps : List Point) → 0 < length ps → flat? width tol ps ≡ true → (a : ℕ) → a < width → Flat (tol a) (along a ps)
flat-along width tol ps z e a l i h =
    subst (λ n. apart (pos n *ℤ get_or (along a ps) i (pos 0)) (blend (n - i) i (get_or (along a ps) 0 (pos 0)) (get_or (along a ps) n (pos 0))) ≤ n * tol a) (sym (along-degree a ps))
    (rw (along-at a ps i, along-at a ps 0, along-at a ps (length ps - 1))
    (off-bound (length ps - 1) i (tol a) (first_of ps a) (get_or ps i origin a) (last_of ps a) (none-off width tol ps e i a (omega (arith, h, along-degree a ps)) l)))

-- pieces whose polygons meet, from the point p to the point q
abbrev pub Linked : Point → Point → List Piece → Type 0
Linked p q [] = p ≡ q
Linked p q (x ∷ xs) = (first_of x.points ≡ p) × Linked (last_of x.points) q xs

linked-append : (p q r : Point) (xs ys : List Piece) → Linked p q xs → Linked q r ys → Linked p r (xs ++ ys)
linked-append p q r [] ys k l = subst (λ x. Linked x r ys) (sym k) l
linked-append p q r (x ∷ xs) ys k l = (k.0, linked-append (last_of x.points) q r xs ys k.1 l)

Meet : List Point → List Piece → Type 0
Meet ps xs = 0 < length ps → Linked (first_of ps) (last_of ps) xs

meet-halves : (ps : List Point) (xs ys : List Piece) → Meet (left_half ps) xs → Meet (right_half ps) ys → Meet ps (xs ++ ys)
unfolding Meet
meet-halves ps xs ys k l z =
    linked-append (first_of ps) (last_of (left_half ps)) (last_of ps) xs ys
    (subst (λ p. Linked p (last_of (left_half ps)) xs) (left-first ps z) (k (omega (arith, length-left ps))))
    (subst (λ q. Linked (last_of (left_half ps)) q ys) (right-last ps z) (subst (λ p. Linked p (last_of (right_half ps)) ys) (sym (halves-meet ps z)) (l (omega (arith, length-right ps)))))

-- the pieces' polygons meet, from the polygon's first point to its last
pub linked : (test : List Point → Bool) (h s : ℕ) (ps : List Point) → 0 < length ps → WhenKept (pieces test h s ps) (Linked (first_of ps) (last_of ps))
unfolding Meet
linked test h s ps z =
    when-kept (pieces test h s ps) (Meet ps) (Linked (first_of ps) (last_of ps)) (λ xs m. m z)
    (pieces-all test (λ h s ps xs. Meet ps xs) (λ h s ps e z. (refl, refl)) (λ h s ps xs ys e k l. meet-halves ps xs ys k l) h s ps)
