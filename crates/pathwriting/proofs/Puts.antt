-- Bytes put one after another.
use Rattle.std.proofs.Common.{◌≡◌, ℕ, ◌+◌, ◌-◌, ◌≤◌, List, ◌++◌, length, take, drop, sym, ap, ◌∙◌, append_assoc, arith}
use borrow.Rule.Slice.PartMut.{put_mid}
use Rattle.std.proofs.lemmas.Grind.{common_steps}
use Rattle.std.proofs.lemmas.List.{take_at, drop_at, length-append, length-take-le, drop-drop}
use Rattle.pathwriting.specs.Puts.{put}

-- bytes put where others end are put together
pub put-put : (at : ℕ) (s t d : List ℕ) (to : ℕ) → to ≡ at + length s → at + length s ≤ length d → put to t (put at s d) ≡ put at (s ++ t) d
put-put at s t d to e h =
    let lead = take at d ++ s in
    let tail = drop (at + length s) d in
    let shape : put at s d ≡ lead ++ tail = sym (append_assoc (take at d) s tail) in
    let long : length lead ≡ to = omega (arith, length-append (take at d) s, length-take-le at d (omega arith)) in
    let front : take to (put at s d) ≡ lead = ap (take to) shape ∙ take_at lead tail to long in
    let back : drop to (put at s d) ≡ tail = ap (drop to) shape ∙ drop_at lead tail to long in
    let far : drop (to + length t) (put at s d) ≡ drop (at + length (s ++ t)) d = sym (drop-drop (length t) to (put at s d)) ∙ ap (drop (length t)) back ∙ drop-drop (length t) (at + length s) d ∙ ap (λ n. drop n d) (omega (arith, length-append s t)) in
    ap (λ a. a ++ (t ++ drop (to + length t) (put at s d))) front ∙ ap (λ b. lead ++ (t ++ b)) far ∙ append_assoc (take at d) s (t ++ drop (at + length (s ++ t)) d) ∙ ap (λ b. take at d ++ b) (sym (append_assoc s t (drop (at + length (s ++ t)) d)))

pub then-put : (at to : ℕ) (s t d d₁ d₂ : List ℕ) → d₁ ≡ put at s d → d₂ ≡ put to t d₁ → to ≡ at + length s → at + length s ≤ length d → d₂ ≡ put at (s ++ t) d
then-put at to s t d d₁ d₂ e f h l = f ∙ ap (put to t) e ∙ put-put at s t d to h l

-- bytes put first onto the rest of a buffer are put where it begins
pub rest_put : (to : ℕ) (s b part : List ℕ) (k : ℕ) → to ≤ length b → k ≡ length b - to → part ≡ put 0 s (drop to b) → to + length s ≤ length b → put_mid to k b part ≡ put to s b
rest_put to s b part k h e p r = grind (arith, common_steps)
