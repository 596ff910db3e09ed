-- The chord bound, from the pieces that are kept.
use Rattle.std.proofs.Common.{◌≡◌, ℕ, zero, suc, pred, ◌+◌, ◌-◌, ◌*◌, ◌^◌, ◌<◌, ◌≤◌, Bool, true, List, [], ◌∷◌, ◌++◌, length, get_or, ℤ, pos, sym, refl, ap, ◌∙◌, subst, subst₂, sub-one, arith}
use Rattle.std.specs.List.{AllByRecursion as All}
use Rattle.std.proofs.lemmas.List.{length-map, length-append, get_or_append_left}
use Rattle.std.proofs.lemmas.Nat.{pow_pos}
use Rattle.exact.specs.Mixing.{mix}
use Rattle.exact.specs.Polygon.{degree}
use Rattle.exact.specs.Fractions.{Fraction, HalfApart}
use Rattle.exact.specs.Curve.{exact}
use Rattle.exact.specs.Accuracy.{StandsFor}
use Rattle.exact.specs.Workings.{pile, carried, degree_over, allowance_over}
use Rattle.exact.specs.Pieces as exact
use Rattle.exact.specs.Spans.{mark, ◌≼◌, evenly}
use Rattle.exact.proofs.Axes.{map-pile}
use Rattle.exact.proofs.Spans.{span-near}
use Rattle.points.specs.Points.{Point, origin, mixed, mix_point}
use Rattle.workings.specs.declared.working.Working.{Working}
use Rattle.workings.specs.Workings.{steps}
use Rattle.sources.specs.Meaning.{Meaning, fails, holds, Held}
use Rattle.sources.specs.Piles.{piled}
use Rattle.sources.specs.Accuracy.{Drawing, along, Stands}
use Rattle.sources.proofs.Piling.{Over, over, over-some, over-fault}
use Rattle.flattening.specs.Pieces.{Piece, end_of, kept, WhenKept}
use Rattle.flattening.specs.Flat.{flat?, flat_pieces}
use Rattle.flattening.specs.Vertices.{first_of, last_of, ends, marks}
use Rattle.flattening.specs.Chords.{piece_allowance, Chord, Chords}
use Rattle.flattening.proofs.Pieces.{Runs, pieces-run, pieces-each}
use Rattle.flattening.proofs.Parts.{Part, part-whole, part_left, part_right, along-at, along-degree, flat-along, Linked, linked}

module _ (width : ℕ) (tol : ℕ → ℕ) (h : Held) (two : 2 ≤ length h.points) where
  -- a piece, over a bottom b that holds points, on one axis
  module _ (b : Held) (ws : List Working) (made : holds h ≡ piled ws (holds b)) (a : ℕ) (D : List Fraction) (stands : StandsFor (along a b.points) b.allowance D) where
    z : 0 < length b.points
    z = over-some ws b h (omega (arith, two)) (sym made)

    o : Over ws b.points b.allowance h.points h.allowance
    o = over ws b h (sym made) z

    same-degree : degree (along a b.points) ≡ degree b.points
    same-degree = ap pred (length-map b.points (λ x. x a))

    numbers : degree_over (steps ws) (degree (along a b.points)) ≡ length h.points - 1
    numbers = ap (degree_over (steps ws)) same-degree ∙ sym o.numbers ∙ sym (sub-one (length h.points))

    allowance : allowance_over (steps ws) (degree (along a b.points)) b.allowance ≡ h.allowance
    allowance = ap (λ n. allowance_over (steps ws) n b.allowance) same-degree ∙ sym o.allowance

    axis : along a h.points ≡ pile mix (steps ws) (along a b.points)
    unfolding mixed
    axis = ap (along a) o.points ∙ map-pile (λ (x : Point). x a) mix_point mix (λ w d _ _ x y. refl) (steps ws) o.valid b.points

    Near : ℕ → ℕ → ℤ → ℤ → Fraction → ℕ → Type 0
    Near r s p p' x e = HalfApart (2 * tol a + e) (evenly s r p p' x) (exact D (carried (steps ws) x))

    piece-near : (r s : ℕ) (qs : List Point) → (p : Part h.points r s qs) → flat? width tol qs ≡ true → a < width → (x : Fraction) → mark s ≼ x → x ≼ mark (s + 2 ^ r) →
        HalfApart (2 * tol a + piece_allowance h p.depth) (evenly s r (first_of qs a) (last_of qs a) x) (exact D (carried (steps ws) x))
    unfolding Near
    piece-near r s qs p f l x low high =
        let k : ℕ = p.depth in
        let q = along a qs in
        subst₂ (λ (n e : ℕ). Near r s (first_of qs a) (last_of qs a) x (e + n * k)) numbers allowance
        (subst₂ (λ (u v : ℤ). Near r s u v x (allowance_over (steps ws) (degree (along a b.points)) b.allowance + degree_over (steps ws) (degree (along a b.points)) * k))
        (along-at a qs 0) (ap (λ n. get_or q n (pos 0)) (along-degree a qs) ∙ along-at a qs (length qs - 1))
        (subst (λ (i : ℕ). Near r i (get_or q 0 (pos 0)) (get_or q (degree q) (pos 0)) x (allowance_over (steps ws) (degree (along a b.points)) b.allowance + degree_over (steps ws) (degree (along a b.points)) * k)) (sym p.starts)
        (span-near (along a b.points) b.allowance D (steps ws) (tol a) k r p.place q x
        (omega (arith, z, length-map b.points (λ x. x a))) (omega (arith, numbers, two)) o.valid stands
        (subst (λ P. exact.Piece P k p.place q) axis (p.axis a))
        (flat-along width tol qs (omega (arith, p.long, two)) f a l) p.levels
        (subst (λ i. mark i ≼ x) p.starts low) (subst (λ i. x ≼ mark (i + 2 ^ r)) p.starts high))))

  -- the chord of a piece
  part-chord : (r s : ℕ) (qs : List Point) → Part h.points r s qs → flat? width tol qs ≡ true → Chord width tol h s (s + 2 ^ r) (first_of qs) (last_of qs)
  part-chord r s qs p f = record { depth = p.depth; few = omega (arith, p.levels); spans = ap (λ k. s + 2 ^ k) is; near = near }
    where
      is : r ≡ 12 - p.depth
      is = omega (arith, p.levels)

      near : (bottom : Meaning) (ws : List Working) → holds h ≡ piled ws bottom → (D : Drawing) → Stands width bottom D → (a : ℕ) → a < width → (x : Fraction) → mark s ≼ x → x ≼ mark (s + 2 ^ r) → HalfApart (2 * tol a + piece_allowance h p.depth) (evenly s (12 - p.depth) (first_of qs a) (last_of qs a) x) (exact (along a D) (carried (steps ws) x))
      near (fails g) ws m D st a l x low high = over-fault ws g h (sym m)
      near (holds b) ws m D st a l x low high =
          subst (λ k. HalfApart (2 * tol a + piece_allowance h p.depth) (evenly s k (first_of qs a) (last_of qs a) x) (exact (along a D) (carried (steps ws) x))) is
          (piece-near b ws m a (along a D) (st a l) r s qs p f l x low high)

  abbrev Good : Piece → Type 0
  Good x = Part h.points x.halvings x.start x.points × (flat? width tol x.points ≡ true)

  -- neighbours among the vertices of pieces that follow one another
  neighbours : (xs : List Piece) (s e : ℕ) (p q : Point) → Runs s e xs → Linked p q xs → All Good xs → (i : ℕ) → i < length xs → Chord width tol h (get_or (s ∷ marks xs) i 0) (get_or (marks xs) i 0) (get_or (p ∷ ends xs) i origin) (get_or (ends xs) i origin)
  neighbours [] s e p q r k g i l = absurd (omega arith)
  neighbours (x ∷ xs) s e p q r k g zero l =
      subst₂ (λ (u : ℕ) (v : Point). Chord width tol h u (end_of x) v (last_of x.points)) r.0 k.0 (part-chord x.halvings x.start x.points g.0.0 g.0.1)
  neighbours (x ∷ xs) s e p q r k g (suc i) l = neighbours xs (end_of x) e (last_of x.points) q r.1 k.1 g.1 i (omega arith)

  ends_at : (xs : List Piece) (s e : ℕ) → Runs s e xs → get_or (s ∷ marks xs) (length xs) 0 ≡ e
  ends_at [] s e r = r
  ends_at (x ∷ xs) s e r = ends_at xs (end_of x) e r.1

  some-piece : (xs : List Piece) → Runs 0 4096 xs → 1 ≤ length xs
  some-piece [] r = absurd (omega (arith, r))
  some-piece (x ∷ xs) r = omega arith

  -- the vertices vs and the parameters ts, with whatever stands past them
  pub chords-kept : (xs : List Piece) → flat_pieces width tol h.points ≡ kept xs → (us : List Point) (ms : List ℕ) (vs : List Point) (ts : List ℕ) → vs ≡ (first_of h.points ∷ ends xs) ++ us → ts ≡ (0 ∷ marks xs) ++ ms → Chords width tol h (1 + length xs) vs ts
  chords-kept xs q us ms vs ts ev et =
      let F : List Point → Bool = flat? width tol in
      let runs : Runs 0 4096 xs = subst (λ o. WhenKept o (Runs 0 4096)) q (pieces-run F 12 0 h.points) in
      let links : Linked (first_of h.points) (last_of h.points) xs = subst (λ o. WhenKept o (Linked (first_of h.points) (last_of h.points))) q (linked F 12 0 h.points (omega (arith, two))) in
      let good : All Good xs = subst (λ o. WhenKept o (All Good)) q (pieces-each F (Part h.points) (part_left h.points) (part_right h.points) 12 0 h.points (part-whole h.points)) in
      let le : length (ends xs) ≡ length xs = length-map xs (λ x. last_of x.points) in
      let lm : length (marks xs) ≡ length xs = length-map xs end_of in
      let lv : length vs ≡ suc (length (ends xs)) + length us = ap length ev ∙ length-append (first_of h.points ∷ ends xs) us in
      let lt : length ts ≡ suc (length (marks xs)) + length ms = ap length et ∙ length-append (0 ∷ marks xs) ms in
      let v : (i : ℕ) → i < 1 + length xs → get_or vs i origin ≡ get_or (first_of h.points ∷ ends xs) i origin = λ i l. ap (λ ys. get_or ys i origin) ev ∙ get_or_append_left (first_of h.points ∷ ends xs) us origin i (omega arith) in
      let t : (i : ℕ) → i < 1 + length xs → get_or ts i 0 ≡ get_or (0 ∷ marks xs) i 0 = λ i l. ap (λ ys. get_or ys i 0) et ∙ get_or_append_left (0 ∷ marks xs) ms 0 i (omega arith) in
      let each : (i : ℕ) → suc i < 1 + length xs → Chord width tol h (get_or ts i 0) (get_or ts (suc i) 0) (get_or vs i origin) (get_or vs (suc i) origin) = λ i l.
      subst₂ (λ (a b : ℕ). Chord width tol h a b (get_or vs i origin) (get_or vs (suc i) origin)) (sym (t i (omega arith))) (sym (t (suc i) l))
      (subst₂ (λ (a b : Point). Chord width tol h (get_or (0 ∷ marks xs) i 0) (get_or (marks xs) i 0) a b) (sym (v i (omega arith))) (sym (v (suc i) l))
      (neighbours xs 0 4096 (first_of h.points) (last_of h.points) runs links good i (omega arith))) in
      record {
        many = omega (arith, some-piece xs runs);
        points = omega (arith, lv, le);
        parameters = omega (arith, lt, lm);
        begins = t 0 (omega arith);
        ends = ap (λ i. get_or ts i 0) (let n : 1 + length xs - 1 ≡ length xs = omega arith in n) ∙ t (length xs) (omega arith) ∙ ends_at xs 0 4096 runs;
        rises = λ i l. let c = each i l in omega (arith, c.spans, pow_pos (12 - c.depth));
        each = each;
      }
