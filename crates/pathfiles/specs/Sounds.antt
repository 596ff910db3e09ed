-- Whatever an opened file means fits: reading a file never refuses as a short buffer does.
use Rattle.std.specs.Prelude.{◌≡◌, ℕ, zero, suc, min, Bool, true, false, cond, List, [], ◌∷◌, map, ◌==◌, ◌≢◌}
use Rattle.std.proofs.Common.{arith}
use Rattle.points.specs.declared.fault.Refusal.{Refusal}
use Rattle.points.specs.declared.fault.Refusal.TheVariants.{OffScale, Short, Cut, Press, Letter}
use Rattle.workings.specs.declared.working.Working.TheVariants.{Left, Right, Raise, Turn}
use Rattle.sources.specs.Meaning.{Sound}
use Rattle.sources.specs.Sounds.{memory_sound}
use Rattle.pathformat.specs.declared.kind.FileKind.{FileKind}
use Rattle.pathformat.specs.Reading.{Read, took, bad, fault, after, one, two, four, checked, many}
use Rattle.pathformat.specs.File.{Field, axis, press, fields, point_of, press_at, field_at, fields_at, point_at, pair_at, parameter_at, working_at}
use Rattle.pathfiles.specs.declared.opened.Opened.{Opened}
use Rattle.pathfiles.specs.Opened.{points_of, workings_of, says}
use Rattle.pathfiles.specs.Filed.{filed}

abbrev NotShort : {X : Type 0} → Read X → Type 0
NotShort (took x r) = Unit {0}
NotShort (bad e) = e.refusal ≡ Short → ⊥

-- a refusal of reading is another one
cut : Cut ≡ Short → ⊥
cut s = cc

after-not : {X Y : Type 0} (q : Read X) (f : X → List ℕ → Read Y) → NotShort q → ((x : X) (r : List ℕ) → NotShort (f x r)) → NotShort (after q f)
after-not (took x r) f h k = k x r
after-not (bad e) f h k = h

one-not : (n : ℕ) (bs : List ℕ) → NotShort (one n bs)
one-not n [] = cut
one-not n (x ∷ bs) = tt

two-not : (n : ℕ) (bs : List ℕ) → NotShort (two n bs)
two-not n [] = cut
two-not n (x ∷ []) = cut
two-not n (x ∷ y ∷ bs) = tt

four-not : (n : ℕ) (bs : List ℕ) → NotShort (four n bs)
four-not n [] = cut
four-not n (x ∷ []) = cut
four-not n (x ∷ y ∷ []) = cut
four-not n (x ∷ y ∷ z ∷ []) = cut
four-not n (x ∷ y ∷ z ∷ u ∷ bs) = tt

checked-not : {X : Type 0} (ok : X → Bool) (w : Refusal) (rd : ℕ → List ℕ → Read X) → (w ≢ Short) → ((n : ℕ) (bs : List ℕ) → NotShort (rd n bs)) → (n : ℕ) (bs : List ℕ) → NotShort (checked ok w rd n bs)
checked-not {X = X} ok w rd d h n bs = after-not (rd n bs) _ (h n bs) (λ x r. by (ok x) x r)
  where
    by : (b : Bool) (x : X) (r : List ℕ) → NotShort (cond b (took x r) (bad (fault w n bs)))
    by true x r = tt
    by false x r = d

many-not : {X : Type 0} (rd : ℕ → List ℕ → Read X) → ((n : ℕ) (bs : List ℕ) → NotShort (rd n bs)) → (k n : ℕ) (bs : List ℕ) → NotShort (many rd k n bs)
many-not rd h zero n bs = tt
many-not rd h (suc k) n bs = after-not (rd n bs) _ (h n bs) (λ x r. after-not (many rd k n r) _ (many-not rd h k n r) (λ xs s. tt))

press-not : (n : ℕ) (bs : List ℕ) → NotShort (press_at n bs)
press-not = checked-not _ Press two (λ s. cc) two-not

field-not : (f : Field) (n : ℕ) (bs : List ℕ) → NotShort (field_at f n bs)
field-not axis n bs = four-not n bs
field-not press n bs = after-not (press_at n bs) _ (press-not n bs) (λ p r. tt)

fields-not : (fs : List Field) (n : ℕ) (bs : List ℕ) → NotShort (fields_at fs n bs)
fields-not [] n bs = tt
fields-not (f ∷ fs) n bs = after-not (field_at f n bs) _ (field-not f n bs) (λ z r. after-not (fields_at fs n r) _ (fields-not fs n r) (λ zs s. tt))

pair-not : (n : ℕ) (bs : List ℕ) → NotShort (pair_at n bs)
pair-not n bs = after-not (one n bs) _ (one-not n bs) (λ k r. after-not (two n r) _ (two-not n r) (λ a s. tt))

parameter-not : (n : ℕ) (bs : List ℕ) → NotShort (parameter_at n bs)
parameter-not = checked-not _ OffScale pair_at (λ s. cc) pair-not

letter-not : (n : ℕ) (bs r : List ℕ) (l m u t : Bool) → NotShort (cond l (after (parameter_at n r) (λ p s. took (Left p) s)) (cond m (after (parameter_at n r) (λ p s. took (Right p) s)) (cond u (took Raise r) (cond t (took Turn r) (bad (fault Letter n bs))))))
letter-not n bs r true m u t = after-not (parameter_at n r) _ (parameter-not n r) (λ p s. tt)
letter-not n bs r false true u t = after-not (parameter_at n r) _ (parameter-not n r) (λ p s. tt)
letter-not n bs r false false true t = tt
letter-not n bs r false false false true = tt
letter-not n bs r false false false false = λ s. cc

working-not : (n : ℕ) (bs : List ℕ) → NotShort (working_at n bs)
working-not n bs = after-not (one n bs) _ (one-not n bs) (λ b r. letter-not n bs r (b == 76) (b == 82) (b == 85) (b == 84))

says-not : {K : Type 0} (k : FileKind) (o : Opened K) → NotShort (says k o)
says-not k o =
    after-not (points_of k o) _ (many-not (point_at k) (fields-not (fields k)) o.points.count o.points.items.total _) (λ ps _. after-not (workings_of o) _ (many-not working_at working-not o.workings.count o.workings.items.total _) (λ ws _. tt))

pub filed_sound : {K : Type 0} (k : FileKind) (o : Opened K) → Sound (filed (says k o))
filed_sound k o = by (says k o) (says-not k o)
  where
    by : (q : Read _) → NotShort q → Sound (filed q)
    by (took f r) h = memory_sound (map point_of f.points) (min f.allowance 65535) (omega arith)
    by (bad e) h = h
