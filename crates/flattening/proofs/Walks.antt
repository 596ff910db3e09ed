-- The walk over the pieces of a stack's top piece, case by case.
use Rattle.std.proofs.Common.{◌≡◌, ℕ, zero, suc, ◌+◌, ◌-◌, ◌*◌, ◌^◌, ◌<◌, ◌≤◌, Bool, true, false, List, ◌++◌, map, length, take, drop, set, Ok, Err, Result, sym, refl, ap, ◌∙◌, subst, arith}
use Rattle.std.proofs.lemmas.List.{length-map, map-append, take-take}
use Rattle.points.specs.declared.fault.Fault.{Fault}
use Rattle.points.specs.declared.fault.Refusal.TheVariants.{Bent}
use Rattle.points.specs.Refusals.{refuse}
use Rattle.points.specs.Points.{Point}
use Rattle.sources.proofs.Meanings.{drop-further}
use Rattle.flattening.specs.declared.stack.Stack.{Stack}
use Rattle.flattening.specs.declared.vertices.Vertices.{Vertices}
use Rattle.flattening.specs.Pieces.{left_half, right_half, Piece, end_of, Outcome, bent, kept, join, pieces, WhenKept}
use Rattle.flattening.specs.Vertices.{last_of, ends, marks}
use Rattle.flattening.specs.Stacks.{top_of, Popped, Halved}
use Rattle.flattening.specs.Walks.{Adds, walked, Walkable, Walk}
use Rattle.flattening.proofs.Pieces.{pieces_kept, pieces-bent, pieces-split, Runs, pieces-run, runs-few, pow_more}
use Rattle.flattening.proofs.Puts.{adds_one, adds-more}

-- an outcome by what was answered
pub kept_from : (o : Outcome) (u : Unit {0}) → Ok u ≡ walked o → (xs : List Piece) × (o ≡ kept xs)
kept_from (bent s) u e = cc
kept_from (kept xs) u e = (xs, refl)

pub bent-from : (o : Outcome) (f : Fault) → Err f ≡ walked o → (s : ℕ) × (o ≡ bent s)
bent-from (bent s) f e = (s, refl)
bent-from (kept xs) f e = cc

take-fewer : {X : Type 0} (n m : ℕ) (xs ys : List X) → m ≤ n → take n xs ≡ take n ys → take m xs ≡ take m ys
take-fewer n m xs ys h e = sym (take-take m n xs h) ∙ ap (take m) e ∙ take-take m n ys h

pub rows : (h n : ℕ) → 0 < h → h * n ≡ (h - 1) * n + n
rows zero n z = absurd (omega arith)
rows (suc h) n z = let e : h * n + n ≡ (suc h - 1) * n + n = ap (λ k. k * n + n) (omega arith) in omega (arith, e)

-- the vertices of two rows of pieces, one after the other
adds-joined : {K : Type 0} (c : K → Point) (xs ys : List Piece) (u v w : Vertices K) → Adds c (ends xs) (marks xs) u v → Adds c (ends ys) (marks ys) v w → Adds c (ends (xs ++ ys)) (marks (xs ++ ys)) u w
adds-joined c xs ys u v w a b =
    subst (λ ms. Adds c (ends (xs ++ ys)) ms u w) (sym (map-append end_of xs ys))
    (subst (λ ps. Adds c ps (marks xs ++ marks ys) u w) (sym (map-append (λ (x : Piece). last_of x.points) xs ys)) (adds-more c (ends xs) (ends ys) (marks xs) (marks ys) u v w a b))

module _ {K : Type 0} (c : K → Point) (test : List Point → Bool) (h start : ℕ) (s : Stack K) (v : Vertices K) where
  abbrev P : List Point
  P = map c (top_of s)

  -- a piece that is kept
  pub walk_kept : (t : Stack K) (x : K) (span : ℕ) (w : Vertices K) → test (map c (top_of s)) ≡ true → Popped s t → c x ≡ last_of (map c (top_of s)) → span ≡ 2 ^ h
      → w.count ≡ v.count + 1 → w.points.now ≡ set v.points.now v.count x → w.parameters.now ≡ set v.parameters.now v.count (start + span)
      → Walk c (pieces test h start (map c (top_of s))) h s t v w (Ok tt)
  walk_kept t x span w e p ex es en exs ems =
      subst (λ o. Walk c o h s t v w (Ok tt)) (sym (pieces_kept test h start P e))
      (record {
        answer = refl;
        stack = record { size = p.size; long = ap length p.buffer; below = ap (take (s.used - s.size)) p.buffer; above = ap (drop (s.used + h * s.size)) p.buffer; popped = p.used };
        vertices = adds_one c v w x (last_of P) (start + 2 ^ h) (start + span) en exs ems ex (ap (λ n. start + n) es);
      })

  -- one that is bent
  pub walk-bent : test (map c (top_of s)) ≡ false → h ≡ 0 → Walk c (pieces test h start (map c (top_of s))) h s s v v (Err (refuse Bent start))
  walk-bent e z =
      subst (λ o. Walk c o h s s v v (Err (refuse Bent start))) (sym (pieces-bent test h start P z e))
      (record { answer = refl; stack = record { size = refl; long = refl; below = refl; above = refl; popped = tt }; vertices = tt })

  -- one that is halved, into s₁
  module _ (s₁ : Stack K) (ready : Walkable h start s v) (some : 0 < h) (bends : test (map c (top_of s)) ≡ false) (halved : Halved c s s₁) where
    O₁ : Outcome
    O₁ = pieces test (h - 1) start (left_half (map c (top_of s)))

    O₂ : Outcome
    O₂ = pieces test (h - 1) (start + 2 ^ (h - 1)) (right_half (map c (top_of s)))

    split : pieces test h start P ≡ join O₁ O₂
    unfolding O₁ O₂
    split = pieces-split test h start P some bends

    power : 2 ^ h ≡ 2 ^ (h - 1) + 2 ^ (h - 1)
    power = ap (λ n. 2 ^ n) (omega arith) ∙ pow_more (h - 1)

    wait₁ : s₁.used + (h - 1) * s₁.size ≡ s.used + h * s.size
    wait₁ = omega (arith, halved.used, ap (λ n. (h - 1) * n) halved.size, rows h s.size some)

    -- the walk of the left half, from s₁ to s₂ and from v to v₂, answered r₁
    module _ (s₂ : Stack K) (r₁ : Result (Unit {0}) Fault) (v₂ : Vertices K) (w : Walk c (pieces test (h - 1) start (map c (top_of s₁))) (h - 1) s₁ s₂ v v₂ r₁) where
      first : Walk c O₁ (h - 1) s₁ s₂ v v₂ r₁
      unfolding O₁
      first = subst (λ ps. Walk c (pieces test (h - 1) start ps) (h - 1) s₁ s₂ v v₂ r₁) halved.left w

      size₂ : s₂.size ≡ s.size
      size₂ = w.stack.size ∙ halved.size

      long₂ : length s₂.buffer.now ≡ length s.buffer.now
      long₂ = w.stack.long ∙ halved.long

      below₂ : take (s.used - s.size) s₂.buffer.now ≡ take (s.used - s.size) s.buffer.now
      below₂ = take-fewer (s₁.used - s₁.size) (s.used - s.size) s₂.buffer.now s₁.buffer.now (omega (arith, halved.size, halved.used)) w.stack.below ∙ halved.below

      above₂ : drop (s.used + h * s.size) s₂.buffer.now ≡ drop (s.used + h * s.size) s.buffer.now
      above₂ = subst (λ n. drop n s₂.buffer.now ≡ drop n s₁.buffer.now) wait₁ w.stack.above ∙ drop-further s₁.buffer.now s.buffer.now (s.used + s.size) (s.used + h * s.size) (omega (arith, rows h s.size some)) halved.above

      -- the left half has a bent piece
      pub walk-broken : (f : Fault) → r₁ ≡ Err f → (r : Result (Unit {0}) Fault) → r ≡ Err f → Walk c (pieces test h start (map c (top_of s))) h s s₂ v v₂ r
      walk-broken f e r is =
          let b = bent-from O₁ f (sym e ∙ first.answer) in
          let o : pieces test h start P ≡ bent b.0 = split ∙ ap (λ o. join o O₂) b.1 in
          subst (λ o. Walk c o h s s₂ v v₂ r) (sym o)
          (record {
            answer = is ∙ sym e ∙ first.answer ∙ ap walked b.1;
            stack = record { size = size₂; long = long₂; below = below₂; above = above₂; popped = tt };
            vertices = tt;
          })

      -- it has none; the walk of the right half, from s₂ to s₃ and from v₂ to v₃, answered r₃
      module _ (u : Unit {0}) (went : r₁ ≡ Ok u) where
        left-kept : (ps : List Piece) × (O₁ ≡ kept ps)
        left-kept = kept_from O₁ u (sym went ∙ first.answer)

        used₂ : s₂.used ≡ s.used
        used₂ = let u : s₂.used ≡ s₁.used - s₁.size = subst (λ o. WhenKept o (λ _. s₂.used ≡ s₁.used - s₁.size)) left-kept.1 first.stack.popped in omega (arith, u, halved.size, halved.used)

        top₂ : map c (top_of s₂) ≡ right_half (map c (top_of s))
        top₂ =
            let e : s₂.used ≡ s₁.used - s₁.size = omega (arith, used₂, halved.size, halved.used) in
            ap (λ n. map c (drop (n - s₂.size) (take n s₂.buffer.now))) e
            ∙ ap (λ n. map c (drop (s₁.used - s₁.size - n) (take (s₁.used - s₁.size) s₂.buffer.now))) w.stack.size
            ∙ ap (λ z. map c (drop (s₁.used - s₁.size - s₁.size) z)) w.stack.below
            ∙ halved.right

        vertices₂ : Adds c (ends left-kept.0) (marks left-kept.0) v v₂
        vertices₂ = subst (λ o. WhenKept o (λ ps. Adds c (ends ps) (marks ps) v v₂)) left-kept.1 first.vertices

        fewer : v₂.count ≤ v.count + 2 ^ (h - 1)
        unfolding O₁
        fewer = omega (arith, vertices₂.count, length-map left-kept.0 (λ (x : Piece). last_of x.points), runs-few start (start + 2 ^ (h - 1)) left-kept.0 (subst (λ o. WhenKept o (Runs start (start + 2 ^ (h - 1)))) left-kept.1 (pieces-run test (h - 1) start (left_half P))))

        wait₂ : s₂.used + (h - 1) * s₂.size ≤ s.used + h * s.size
        wait₂ = omega (arith, used₂, ap (λ n. (h - 1) * n) size₂, rows h s.size some)

        module _ (span : ℕ) (is : span ≡ 2 ^ (h - 1)) where
          pub ready₂ : Walkable (h - 1) (start + span) s₂ v₂
          ready₂ = record {
            some = omega (arith, size₂, used₂, ready.some);
            room = omega (arith, wait₂, long₂, ready.room);
            few = omega (arith, ready.few);
            within = omega (arith, power, ready.within);
            after = omega (arith, fewer, ready.after);
          }

          module _ (s₃ : Stack K) (r₃ : Result (Unit {0}) Fault) (v₃ : Vertices K) (w₃ : Walk c (pieces test (h - 1) (start + span) (map c (top_of s₂))) (h - 1) s₂ s₃ v₂ v₃ r₃) where
            second : Walk c O₂ (h - 1) s₂ s₃ v₂ v₃ r₃
            unfolding O₂
            second = subst (λ o. Walk c o (h - 1) s₂ s₃ v₂ v₃ r₃) (ap (λ n. pieces test (h - 1) (start + n) (map c (top_of s₂))) is ∙ ap (pieces test (h - 1) (start + 2 ^ (h - 1))) top₂) w₃

            below₃ : take (s.used - s.size) s₃.buffer.now ≡ take (s.used - s.size) s.buffer.now
            below₃ = subst (λ n. take n s₃.buffer.now ≡ take n s₂.buffer.now) (let e : s₂.used - s₂.size ≡ s.used - s.size = omega (arith, used₂, size₂) in e) w₃.stack.below ∙ below₂

            above₃ : drop (s.used + h * s.size) s₃.buffer.now ≡ drop (s.used + h * s.size) s.buffer.now
            above₃ = drop-further s₃.buffer.now s₂.buffer.now (s₂.used + (h - 1) * s₂.size) (s.used + h * s.size) wait₂ w₃.stack.above ∙ above₂

            after : (o : Outcome) → Walk c o (h - 1) s₂ s₃ v₂ v₃ r₃ → Walk c (join (kept left-kept.0) o) h s s₃ v v₃ r₃
            after (bent k) x = record {
              answer = x.answer;
              stack = record { size = x.stack.size ∙ size₂; long = x.stack.long ∙ long₂; below = below₃; above = above₃; popped = tt };
              vertices = tt;
            }
            after (kept qs) x = record {
              answer = x.answer;
              stack = record { size = x.stack.size ∙ size₂; long = x.stack.long ∙ long₂; below = below₃; above = above₃; popped = x.stack.popped ∙ omega (arith, used₂, size₂) };
              vertices = adds-joined c left-kept.0 qs v v₂ v₃ vertices₂ x.vertices;
            }

            pub walk-joined : Walk c (pieces test h start (map c (top_of s))) h s s₃ v v₃ r₃
            walk-joined = subst (λ o. Walk c o h s s₃ v v₃ r₃) (sym (split ∙ ap (λ o. join o O₂) left-kept.1)) (after O₂ second)

-- what the test of the top piece was, by its answer
pub tested : {b t v : Bool} → ◌≡◌ {A = Result Bool Fault} (Ok b) (Ok t) → b ≡ v → t ≡ v
tested {b} {t} {v} e is = cc
