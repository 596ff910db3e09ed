-- What answers of survey and draw say of a meaning.
use Rattle.std.proofs.Common.{◌≡◌, ℕ, ◌+◌, ◌-◌, ◌≤◌, cond, ltb, List, length, drop, Ok, Err, Result, sym, refl, ap, ◌∙◌, subst, arith}
use Rattle.std.proofs.lemmas.Bool.{le-ltb, ltb-false}
use Rattle.std.proofs.lemmas.List.{drop-drop}
use Rattle.points.specs.declared.fault.Fault.{Fault}
use Rattle.points.specs.declared.fault.Refusal.TheVariants.{Short}
use Rattle.points.specs.Refusals.{refuse}
use Rattle.points.specs.Points.{Point}
use Rattle.polygons.specs.Buffers.{sized}
use Rattle.workings.specs.declared.survey.Survey.{Survey}
use Rattle.workings.proofs.Tests.{err-ok, passed}
use Rattle.sources.specs.Meaning.{Meaning, fails, holds, Held, told, survey_of, draw_of, Laid, holding, in_memory}

pub surveyed-err : (m : Meaning) (f : Fault) → survey_of m ≡ Err f → m ≡ fails f
surveyed-err (fails g) f e = ap fails (cc)
surveyed-err (holds h) f e = cc

-- the answer of draw where the buffer is long enough
pub drawn-ok : (h : Held) (n : ℕ) (s : Survey) (m : Meaning) → m ≡ holds h → s ≡ told h → h.reach ≤ n → Ok s ≡ draw_of m n
drawn-ok h n s m em es l = sym (ap (λ v. draw_of v n) em ∙ ap (λ b. cond b (Err (refuse Short h.reach)) (Ok (told h))) (le-ltb n h.reach l) ∙ ap Ok (sym es))

-- a draw that was taken had places enough
pub drawn-told : (h : Held) (n : ℕ) (s : Survey) → Ok s ≡ draw_of (holds h) n → (h.reach ≤ n) × (s ≡ told h)
drawn-told h n s q =
    let p = passed (ltb n h.reach) (refuse Short h.reach) (Ok (told h)) s (sym q) in
    let e = p.1 in
    (ltb-false n h.reach p.0, (cc))

pub laid_by : {X : Type 0} (c : X → Point) (m m' : Meaning) (before after : List X) → m ≡ m' → Laid c m' before after → Laid c m before after
laid_by c m m' before after e h = subst (λ v. Laid c v before after) (sym e) h

pub drop-further : {X : Type 0} (xs ys : List X) (k n : ℕ) → k ≤ n → drop k xs ≡ drop k ys → drop n xs ≡ drop n ys
drop-further xs ys k n h e =
    let q : k + (n - k) ≡ n = omega arith in
    ap (λ i. drop i xs) (sym q) ∙ sym (drop-drop (n - k) k xs) ∙ ap (drop (n - k)) e ∙ drop-drop (n - k) k ys ∙ ap (λ i. drop i ys) q

-- points in memory, of which there are n
abbrev pub given : List Point → ℕ → ℕ → Held
given ps e n = record { points = ps; allowance = e; reach = n }

pub memory-err : (ps : List Point) (e n : ℕ) (f : Fault) → length ps ≡ n → sized n ≡ Err f → in_memory ps e ≡ fails f
memory-err ps e n f l q = ap (λ k. holding (sized k) (given ps e k)) l ∙ ap (λ v. holding v (given ps e n)) q

pub memory-ok : (ps : List Point) (e n : ℕ) → length ps ≡ n → sized n ≡ Ok tt → in_memory ps e ≡ holds (given ps e n)
memory-ok ps e n l q = ap (λ k. holding (sized k) (given ps e k)) l ∙ ap (λ v. holding v (given ps e n)) q

pub memory-told : (ps : List Point) (e n : ℕ) → length ps ≡ n → sized n ≡ Ok tt → Ok (record { degree = n - 1; allowance = e; reach = n }) ≡ survey_of (in_memory ps e)
memory-told ps e n l q = sym (ap survey_of (memory-ok ps e n l q) ∙ ap (λ k. Ok (record { degree = k - 1; allowance = e; reach = n })) l)

pub memory-surveyed : (ps : List Point) (e n : ℕ) (s : Survey) → length ps ≡ n → Ok s ≡ survey_of (in_memory ps e) → (in_memory ps e ≡ holds (given ps e n)) × (s ≡ told (given ps e n)) × (s.reach ≡ n)
memory-surveyed ps e n s l q = by (sized n) refl
  where
    by : (v : Result (Unit {0}) Fault) → sized n ≡ v → (in_memory ps e ≡ holds (given ps e n)) × (s ≡ told (given ps e n)) × (s.reach ≡ n)
    by (Err f) k = err-ok f s (sym (q ∙ ap survey_of (memory-err ps e n f l k)))
    by (Ok u) k =
        let m = memory-ok ps e n l k in
        let o : Ok s ≡ Ok (told (given ps e n)) = q ∙ ap survey_of m in
        let t : s ≡ told (given ps e n) = cc in
        (m, t, ap (λ v. v.reach) t)
