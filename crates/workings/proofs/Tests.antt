-- What follows from the tests of a working.
use Rattle.std.proofs.Common.{◌≡◌, ℕ, ◌+◌, ◌≤◌, max, Bool, true, false, cond, ◌||◌, ltb, Ok, Err, Result, sym, refl, ap, ◌∙◌, arith}
use Rattle.std.proofs.lemmas.Bool.{or_parts, ltb-false}
use Rattle.points.specs.declared.fault.Fault.{Fault}
use Rattle.points.specs.declared.fault.Refusal.TheVariants.{OffScale, Short, Degree, Worn}
use Rattle.points.specs.Refusals.{refuse}
use Rattle.workings.specs.declared.survey.Survey.{Survey}
use Rattle.workings.specs.declared.working.Working.{Working}
use Rattle.workings.specs.Workings.{off_scale_in, charge_of, next_degree, tested, charged, after}

-- an answer is never both
pub err-ok : {A B : Type 0} (f : Fault) (x : A) → ◌≡◌ {A = Result A Fault} (Err f) (Ok x) → B
err-ok f x e = cc

-- a test that did not refuse
pub passed : {A : Type 0} (b : Bool) (f : Fault) (r : Result A Fault) (x : A) → cond b (Err f) r ≡ Ok x → (b ≡ false) × (r ≡ Ok x)
passed true f r x e = err-ok f x e
passed false f r x e = (refl, e)

pub record Fit (w : Working) (n m : ℕ) : Type 0 where
  pub scale : off_scale_in w ≡ false
  pub low : 1 ≤ n
  pub high : n ≤ 16
  pub is : m ≡ next_degree w n
  pub most : m ≤ 16

pub tested-ok : (w : Working) (n m : ℕ) → tested w n ≡ Ok m → Fit w n m
tested-ok w n m e =
    let a = passed (off_scale_in w) (refuse OffScale 0) _ m e in
    let b = passed (ltb n 1 || ltb 16 n) (refuse Degree n) _ m a.1 in
    let c = passed (ltb 16 (next_degree w n)) (refuse Degree (next_degree w n)) _ m b.1 in
    let o = or_parts (ltb n 1) (ltb 16 n) b.0 in
    let q = c.1 in
    let i : m ≡ next_degree w n = cc in
    let l = ltb-false 16 (next_degree w n) c.0 in
    record { scale = a.0; low = ltb-false n 1 o.0; high = ltb-false 16 n o.1; is = i; most = omega arith }

-- what is told above an accepted working
pub record Above (w : Working) (s t : Survey) : Type 0 where
  pub fit : Fit w s.degree t.degree
  pub allowance : t.allowance ≡ s.allowance + charge_of w s.degree
  pub most : t.allowance ≤ 65535
  pub reach : t.reach ≡ max s.reach (t.degree + 1)

charged-ok : (w : Working) (s t : Survey) (r : Result ℕ Fault) → charged w s r ≡ Ok t → (r ≡ Ok t.degree) × (t.allowance ≡ s.allowance + charge_of w s.degree) × (t.allowance ≤ 65535) × (t.reach ≡ max s.reach (t.degree + 1))
charged-ok w s t (Err f) e = err-ok f t e
charged-ok w s t (Ok n) e =
    let a = passed (ltb 65535 (s.allowance + charge_of w s.degree)) (refuse Worn (charge_of w s.degree)) _ t e in
    let q = a.1 in
    let i : t ≡ record { degree = n; allowance = s.allowance + charge_of w s.degree; reach = max s.reach (n + 1) } = cc in
    let d : t.degree ≡ n = ap (λ v. v.degree) i in
    let l = ltb-false 65535 (s.allowance + charge_of w s.degree) a.0 in
    let b : t.allowance ≡ s.allowance + charge_of w s.degree = ap (λ v. v.allowance) i in
    (ap Ok (sym d), b, omega arith, ap (λ v. v.reach) i ∙ ap (λ k. max s.reach (k + 1)) (sym d))

pub after-ok : (w : Working) (s t : Survey) → after w s ≡ Ok t → Above w s t
after-ok w s t e =
    let c = charged-ok w s t (tested w s.degree) e in
    record { fit = tested-ok w s.degree t.degree c.0; allowance = c.1; most = c.2; reach = c.3 }

-- the same, with its test
pub after-tested : (w : Working) (s t : Survey) → after w s ≡ Ok t → tested w s.degree ≡ Ok t.degree
after-tested w s t e = (charged-ok w s t (tested w s.degree) e).0

-- a refusal of a working is never that of a short buffer
abbrev NotShort : Fault → Type 0
NotShort f = f.refusal ≡ Short → ⊥

refusing : {A : Type 0} (b : Bool) (g f : Fault) (r : Result A Fault) → NotShort g → (r ≡ Err f → NotShort f) → cond b (Err g) r ≡ Err f → NotShort f
refusing true g f r n k e s = let q : g.refusal ≡ f.refusal = cc in n (q ∙ s)
refusing false g f r n k e s = k e s

ok-err : {A B : Type 0} (x : A) (f : Fault) → ◌≡◌ {A = Result A Fault} (Ok x) (Err f) → B
ok-err x f e = cc

tested-err : (w : Working) (n : ℕ) (f : Fault) → tested w n ≡ Err f → NotShort f
tested-err w n f = refusing (off_scale_in w) (refuse OffScale 0) f _ (λ e. cc) (refusing (ltb n 1 || ltb 16 n) (refuse Degree n) f _ (λ e. cc) (refusing (ltb 16 (next_degree w n)) (refuse Degree (next_degree w n)) f _ (λ e. cc) (ok-err (next_degree w n) f)))

charged-err : (w : Working) (s : Survey) (r : Result ℕ Fault) (f : Fault) → (r ≡ Err f → NotShort f) → charged w s r ≡ Err f → NotShort f
charged-err w s (Err g) f k e = k (let q : g ≡ f = cc in ap Err q)
charged-err w s (Ok n) f k e = refusing (ltb 65535 (s.allowance + charge_of w s.degree)) (refuse Worn (charge_of w s.degree)) f _ (λ e. cc) (ok-err _ f) e

pub after-err : (w : Working) (s : Survey) (f : Fault) → after w s ≡ Err f → f.refusal ≡ Short → ⊥
after-err w s f e = charged-err w s (tested w s.degree) f (tested-err w s.degree f) e
