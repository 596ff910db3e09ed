-- Answers as plain numbers, from the answers of the kernel.
use Rattle.std.specs.Prelude.{ℕ, pos, Ok, Err, Result}
use Rattle.points.specs.declared.fault.Fault.{Fault}
use Rattle.points.specs.declared.parameter.Parameter.{Parameter}
use Rattle.points.specs.Refusals.{number_of}
use Rattle.points.specs.Points.{Point}
use Rattle.native.specs.declared.answer.Answer.{Answer}
use Rattle.native.specs.declared.evaluation.PointAnswer.{PointAnswer}

-- the pair of numbers as a/2^k, which need not be a parameter
abbrev pub fraction : ℕ → ℕ → Parameter
fraction a k = record { a = a; k = k }

abbrev pub accepted_with : ℕ → Answer
accepted_with n = record { refusal = 0; storey = 0; place = n }

abbrev pub refused_by : Fault → Answer
refused_by f = record { refusal = number_of f.refusal; storey = f.storey; place = f.place }

-- a call that answers nothing more, and one that answers a count
abbrev pub end_of : Result (Unit {0}) Fault → Answer
end_of (Ok u) = accepted_with 0
end_of (Err f) = refused_by f

abbrev pub count_of : Result ℕ Fault → Answer
count_of (Ok n) = accepted_with n
count_of (Err f) = refused_by f

-- the point and its allowance
abbrev pub point_answer_of : Result (Point × ℕ) Fault → PointAnswer
point_answer_of (Ok x) = record { answer = accepted_with 0; point = record { x = x.0 0; y = x.0 1 }; allowance = x.1 }
point_answer_of (Err f) = record { answer = refused_by f; point = record { x = pos 0; y = pos 0 }; allowance = 0 }
