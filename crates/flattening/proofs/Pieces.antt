-- The pieces of a polygon: what they are in each case, and induction over them, for any test.
use Rattle.std.proofs.Common.{◌≡◌, ℕ, zero, suc, ◌+◌, ◌-◌, ◌^◌, ◌<◌, ◌≤◌, Bool, true, false, cond, List, [], ◌∷◌, ◌++◌, length, sym, refl, ap, ◌∙◌, subst, ⊎_elim, pow-suc, arith}
use Rattle.std.specs.List.{AllByRecursion as All}
use Rattle.std.proofs.lemmas.Nat.{pow_pos}
use Rattle.std.proofs.ByRecursion.{All-append}
use Rattle.std.proofs.lemmas.Bool.{cases_Bool}
use Rattle.points.specs.Points.{Point}
use Rattle.flattening.specs.Pieces.{left_half, right_half, Piece, end_of, Outcome, bent, kept, join, pieces, WhenKept}

pub pow_more : (h : ℕ) → 2 ^ suc h ≡ 2 ^ h + 2 ^ h
pow_more h = omega (arith, pow-suc 2 h)

pub when-kept : (o : Outcome) (Q R : List Piece → Type 0) → ((xs : List Piece) → Q xs → R xs) → WhenKept o Q → WhenKept o R
when-kept (bent s) Q R f q = tt
when-kept (kept xs) Q R f q = f xs q

abbrev pub piece : ℕ → ℕ → List Point → Piece
piece h s ps = record { halvings = h; start = s; points = ps }

module _ (test : List Point → Bool) where
  pub pieces_kept : (h s : ℕ) (ps : List Point) → test ps ≡ true → pieces test h s ps ≡ kept (piece h s ps ∷ [])
  unfolding pieces
  pieces_kept zero s ps e = ap (λ b. cond b (kept (piece 0 s ps ∷ [])) (bent s)) e
  pieces_kept (suc h) s ps e = ap (λ b. cond b (kept (piece (suc h) s ps ∷ [])) (join (pieces test h s (left_half ps)) (pieces test h (s + 2 ^ h) (right_half ps)))) e

  pub pieces-bent : (h s : ℕ) (ps : List Point) → h ≡ 0 → test ps ≡ false → pieces test h s ps ≡ bent s
  unfolding pieces
  pieces-bent zero s ps z e = ap (λ b. cond b (kept (piece 0 s ps ∷ [])) (bent s)) e
  pieces-bent (suc h) s ps z e = absurd (omega arith)

  pub pieces-halved : (h s : ℕ) (ps : List Point) → test ps ≡ false → pieces test (suc h) s ps ≡ join (pieces test h s (left_half ps)) (pieces test h (s + 2 ^ h) (right_half ps))
  unfolding pieces
  pieces-halved h s ps e = ap (λ b. cond b (kept (piece (suc h) s ps ∷ [])) (join (pieces test h s (left_half ps)) (pieces test h (s + 2 ^ h) (right_half ps)))) e

  -- the same, by the halvings that there are
  pub pieces-split : (h s : ℕ) (ps : List Point) → 0 < h → test ps ≡ false → pieces test h s ps ≡ join (pieces test (h - 1) s (left_half ps)) (pieces test (h - 1) (s + 2 ^ (h - 1)) (right_half ps))
  pieces-split zero s ps z e = absurd (omega arith)
  pieces-split (suc h) s ps z e = pieces-halved h s ps e ∙ ap (λ n. join (pieces test n s (left_half ps)) (pieces test n (s + 2 ^ n) (right_half ps))) (omega arith)

  -- Induction over pieces. What holds of a piece that passes, by itself, and of the pieces of a polygon that does not, if it holds of those of its halves,
  -- holds of the pieces of every polygon.
  module _ (Q : ℕ → ℕ → List Point → List Piece → Type 0)
      (one : (h s : ℕ) (ps : List Point) → test ps ≡ true → Q h s ps (piece h s ps ∷ []))
      (two : (h s : ℕ) (ps : List Point) (xs ys : List Piece) → test ps ≡ false → Q h s (left_half ps) xs → Q h (s + 2 ^ h) (right_half ps) ys → Q (suc h) s ps (xs ++ ys)) where
    joined : (h s : ℕ) (ps : List Point) (o o' : Outcome) → test ps ≡ false → WhenKept o (Q h s (left_half ps)) → WhenKept o' (Q h (s + 2 ^ h) (right_half ps)) → WhenKept (join o o') (Q (suc h) s ps)
    joined h s ps (bent r) o' e q q' = tt
    joined h s ps (kept xs) (bent r) e q q' = tt
    joined h s ps (kept xs) (kept ys) e q q' = two h s ps xs ys e q q'

    pub pieces-all : (h s : ℕ) (ps : List Point) → WhenKept (pieces test h s ps) (Q h s ps)
    pieces-all zero s ps =
        ⊎_elim
        (λ e. subst (λ o. WhenKept o (Q 0 s ps)) (sym (pieces_kept 0 s ps e)) (one 0 s ps e))
        (λ e. subst (λ o. WhenKept o (Q 0 s ps)) (sym (pieces-bent 0 s ps refl e)) tt)
        (cases_Bool (test ps))
    pieces-all (suc h) s ps =
        ⊎_elim
        (λ e. subst (λ o. WhenKept o (Q (suc h) s ps)) (sym (pieces_kept (suc h) s ps e)) (one (suc h) s ps e))
        (λ e. subst (λ o. WhenKept o (Q (suc h) s ps)) (sym (pieces-halved h s ps e)) (joined h s ps (pieces test h s (left_half ps)) (pieces test h (s + 2 ^ h) (right_half ps)) e (pieces-all h s (left_half ps)) (pieces-all h (s + 2 ^ h) (right_half ps))))
        (cases_Bool (test ps))

  -- what holds of the whole, and of the halves of every piece that is halved, holds of every kept piece, which also passed
  module _ (P : ℕ → ℕ → List Point → Type 0)
      (onl : (h s : ℕ) (ps : List Point) → P (suc h) s ps → P h s (left_half ps))
      (onr : (h s : ℕ) (ps : List Point) → P (suc h) s ps → P h (s + 2 ^ h) (right_half ps)) where
    abbrev pub Passed : Piece → Type 0
    Passed x = P x.halvings x.start x.points × (test x.points ≡ true)

    pub pieces-each : (h s : ℕ) (ps : List Point) → P h s ps → WhenKept (pieces test h s ps) (All Passed)
    pieces-each h s ps p =
        when-kept (pieces test h s ps) (λ xs. P h s ps → All Passed xs) (All Passed) (λ xs f. f p)
        (pieces-all (λ h s ps xs. P h s ps → All Passed xs) (λ h s ps e q. ((q, e), tt)) (λ h s ps xs ys e f g q. All-append Passed xs ys (f (onl h s ps q)) (g (onr h s ps q))) h s ps)

-- pieces that follow one another, from a to b
abbrev pub Runs : ℕ → ℕ → List Piece → Type 0
Runs a b [] = a ≡ b
Runs a b (x ∷ xs) = (x.start ≡ a) × Runs (end_of x) b xs

runs_append : (a b c : ℕ) (xs ys : List Piece) → Runs a b xs → Runs b c ys → Runs a c (xs ++ ys)
runs_append a b c [] ys r s = subst (λ n. Runs n c ys) (sym r) s
runs_append a b c (x ∷ xs) ys r s = (r.0, runs_append (end_of x) b c xs ys r.1 s)

pub pieces-run : (test : List Point → Bool) (h s : ℕ) (ps : List Point) → WhenKept (pieces test h s ps) (Runs s (s + 2 ^ h))
pieces-run test =
    pieces-all test (λ h s ps xs. Runs s (s + 2 ^ h) xs) (λ h s ps e. (refl, refl))
    (λ h s ps xs ys e q q'. runs_append s (s + 2 ^ h) (s + 2 ^ suc h) xs ys q (subst (λ n. Runs (s + 2 ^ h) n ys) (let r : s + 2 ^ h + 2 ^ h ≡ s + 2 ^ suc h = omega (arith, pow_more h) in r) q'))

-- there are at most as many pieces as parts of the parameter
pub runs-few : (a b : ℕ) (xs : List Piece) → Runs a b xs → a + length xs ≤ b
runs-few a b [] r = omega arith
runs-few a b (x ∷ xs) r = omega (arith, runs-few (end_of x) b xs r.1, pow_pos x.halvings, r.0)
