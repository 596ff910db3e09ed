-- A whole file, from its three steps.
use Rattle.std.proofs.Common.{◌≡◌, ℕ, ◌+◌, ◌<◌, ◌≤◌, true, false, List, [], ◌∷◌, ◌++◌, length, take, drop, Ok, Result, sym, refl, ap, ◌∙◌, zero-add, arith}
use Rattle.std.proofs.lemmas.List.{take_at, drop_at, length-append}
use Rattle.std.proofs.lemmas.Grind.{common_steps}
use Rattle.points.specs.declared.fault.Fault.{Fault}
use Rattle.points.specs.declared.fault.Refusal.TheVariants.{OffScale}
use Rattle.points.specs.Refusals.{refuse}
use Rattle.polygons.specs.Buffers.{sized}
use Rattle.workings.specs.declared.working.Working.{Working}
use Rattle.workings.specs.declared.working.Working.TheVariants.{Left, Right, Raise, Turn}
use Rattle.workings.specs.Workings.{off_scale_in}
use Rattle.workings.proofs.Tests.{passed}
use Rattle.pathformat.specs.Writing.{bytes_each, Bytes, Each}
use Rattle.pathformat.specs.File.{File, fields, few_points, few_workings, point_bytes, working_bytes, encode, decode, FieldsOk, WorkingOk, Fileable}
use Rattle.pathformat.proofs.Trip.{reads-back, is-file}
use Rattle.pathwriting.specs.Puts.{put, room_for}
use Rattle.pathwriting.specs.Steps.{begin_bytes, name_test, parameters_test, count_test, then_test, SoFar}
use Rattle.pathwriting.specs.Written.{write_test, WroteFile}
use Rattle.pathwriting.proofs.Puts.{then-put}

-- what a file that was taken has passed
pub record Passes (f : File) (places : ℕ) : Type 0 where
  pub parameters : parameters_test f.workings ≡ Ok tt
  pub name : name_test f.name ≡ Ok tt
  pub count : count_test f.workings ≡ Ok tt
  pub size : sized (length f.points) ≡ Ok tt
  pub room : length (encode f) ≤ places

pub passes : (f : File) (places end : ℕ) → Ok end ≡ write_test f places → Passes f places × (end ≡ length (encode f))
passes f places end e = grind (arith, common_steps)

-- where a step that was taken ends
pub ends_at : (own : Result (Unit {0}) Fault) (n places end : ℕ) → then_test own (room_for n places) ≡ Ok end → end ≡ n
ends_at own n places end e = grind (arith, common_steps)

-- a step that was taken puts its bytes behind the file so far
pub behind : (own : Result (Unit {0}) Fault) (at : ℕ) (bytes before after : List ℕ) (end : ℕ) → then_test own (room_for (at + length bytes) (length before)) ≡ Ok end → after ≡ put at bytes before → take end after ≡ take at before ++ bytes
behind own at bytes before after end e w = grind (arith, common_steps)

pub continued : (own : Result (Unit {0}) Fault) (at : ℕ) (bytes before after : List ℕ) (end : ℕ) → then_test own (room_for (at + length bytes) (length before)) ≡ Ok end → after ≡ put at bytes before → (sofar : List ℕ) → SoFar at sofar before → SoFar end (sofar ++ bytes) after
continued own at bytes before after end e w sofar h = behind own at bytes before after end e w ∙ ap (λ s. s ++ bytes) h

-- the three sections in a row are the file
pub sections-encode : (f : File) → (begin_bytes f.kind f.allowance f.name ++ bytes_each (point_bytes f.kind) f.points) ++ bytes_each working_bytes f.workings ≡ encode f
sections-encode f = grind (arith, common_steps)

pub length-encode : (f : File) → length (encode f) ≡ length (begin_bytes f.kind f.allowance f.name) + (length (bytes_each (point_bytes f.kind) f.points) + length (bytes_each working_bytes f.workings))
length-encode f = grind (arith, common_steps)

-- what was passed can be filed
short-name : (nm : List ℕ) → name_test nm ≡ Ok tt → length nm ≤ 64
short-name nm e = grind (arith, common_steps)

few-points : (n : ℕ) → sized n ≡ Ok tt → few_points n ≡ true
few-points n e = grind (arith, common_steps)

few-workings : (ws : List Working) → count_test ws ≡ Ok tt → few_workings (length ws) ≡ true
few-workings ws e = grind (arith, common_steps)

on-scale : (w : Working) → off_scale_in w ≡ false → WorkingOk w
on-scale (Left t) e = e
on-scale (Right t) e = e
on-scale Raise e = tt
on-scale Turn e = tt

each-on-scale : (ws : List Working) → parameters_test ws ≡ Ok tt → Each WorkingOk ws
each-on-scale [] e = tt
each-on-scale (w ∷ ws) e =
    let p = passed (off_scale_in w) (refuse OffScale 0) (parameters_test ws) tt e in
    (on-scale w p.0, each-on-scale ws p.1)

pub can-be-filed : (f : File) (places : ℕ) → Passes f places → f.allowance < 65536 → Bytes f.name → Each (FieldsOk (fields f.kind)) f.points → Fileable f
can-be-filed f places p a b s = record {
  allowance = a;
  name = (short-name f.name p.name, b);
  points = (few-points (length f.points) p.size, s);
  workings = (few-workings f.workings p.count, each-on-scale f.workings p.parameters);
}

-- the three steps, one after another on one buffer, leave the file
module _ (f : File) (d e₁ e₂ e₃ : List ℕ) (at₁ at₂ n : ℕ) where
  pub whole : at₁ ≡ 0 + length (begin_bytes f.kind f.allowance f.name) → at₂ ≡ at₁ + length (bytes_each (point_bytes f.kind) f.points) → n ≡ at₂ + length (bytes_each working_bytes f.workings) → e₁ ≡ put 0 (begin_bytes f.kind f.allowance f.name) d → e₂ ≡ put at₁ (bytes_each (point_bytes f.kind) f.points) e₁ → e₃ ≡ put at₂ (bytes_each working_bytes f.workings) e₂ → length (encode f) ≤ length d → Fileable f → (n ≡ length (encode f)) × WroteFile f d e₃ n
  whole q₁ q₂ q₃ w₁ w₂ w₃ room fine =
      let s₁ = begin_bytes f.kind f.allowance f.name in
      let s₂ = bytes_each (point_bytes f.kind) f.points in
      let s₃ = bytes_each working_bytes f.workings in
      let size = length-encode f in
      let p₂ : e₂ ≡ put 0 (s₁ ++ s₂) d = then-put 0 at₁ s₁ s₂ d e₁ e₂ w₁ w₂ q₁ (omega arith) in
      let l₂ = length-append s₁ s₂ in
      let p₃ : e₃ ≡ put 0 ((s₁ ++ s₂) ++ s₃) d = then-put 0 at₂ (s₁ ++ s₂) s₃ d e₂ e₃ p₂ w₃ (omega arith) (omega arith) in
      let same = sections-encode f in
      let len : length (encode f) ≡ n = omega arith in
      let all : e₃ ≡ encode f ++ drop n d = p₃ ∙ ap (λ s. s ++ drop (0 + length s) d) same ∙ ap (λ j. encode f ++ drop j d) (zero-add (length (encode f)) ∙ len) in
      let bytes : take n e₃ ≡ encode f = ap (take n) all ∙ take_at (encode f) (drop n d) n len in (
        sym len,
        record {
          file = record { bytes = bytes; kind = refl; fileable = fine };
          rest = ap (drop n) all ∙ drop_at (encode f) (drop n d) n len;
          opens = ap (decode f.kind) bytes ∙ reads-back f fine;
          rewrites = λ bs b r. bytes ∙ sym (is-file f.kind bs f [] b r).bytes;
        },
      )
