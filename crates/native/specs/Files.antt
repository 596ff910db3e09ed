-- What opening answers, and what it puts on the buffer, by what the bytes say.
use Rattle.std.specs.Prelude.{◌≡◌, ℕ, ◌<◌, ◌≤◌, cond, List, map, length, take, drop, nat_lt}
use Rattle.points.specs.declared.fault.Fault.{Fault}
use Rattle.points.specs.declared.fault.Refusal.TheVariants.{Short}
use Rattle.points.specs.declared.planar.Planar.{Planar}
use Rattle.points.specs.Refusals.{refuse}
use Rattle.points.specs.Points.{planar}
use Rattle.pathformat.specs.Reading.{Read, took, bad}
use Rattle.pathformat.specs.File.{File, listed}
use Rattle.native.specs.declared.opening.FileAnswer.{FileAnswer}
use Rattle.native.specs.Answers.{accepted_with, refused_by}

abbrev pub no_numbers : Fault → FileAnswer
no_numbers f = record { answer = refused_by f; allowance = 0; name = 0; points = 0; workings = 0 }

abbrev pub numbers_of : File → FileAnswer
numbers_of f = record { answer = accepted_with 0; allowance = f.allowance; name = length f.name; points = length f.points; workings = length f.workings }

-- the fault of reading, 2 for the buffer, or the numbers of the file
abbrev pub file_answer_of : Read File → ℕ → FileAnswer
file_answer_of (bad e) room = no_numbers e
file_answer_of (took f r) room = cond (nat_lt room (length f.points)) (no_numbers (refuse Short (length f.points))) (numbers_of f)

-- the points first and the later places untouched, or all as found
abbrev pub FiledOn : Read File → List Planar → List Planar → Type 0
FiledOn (bad e) before after = after ≡ before
FiledOn (took f r) before after =
    (length before < length f.points → after ≡ before) ×
    (length f.points ≤ length before → (map (λ p. listed 2 (planar p)) (take (length f.points) after) ≡ f.points) × (drop (length f.points) after ≡ drop (length f.points) before))
