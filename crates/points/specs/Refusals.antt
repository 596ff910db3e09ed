-- The twelve refusals by number, and faults.
use Rattle.std.specs.Prelude.{ℕ, List, ◌++◌, cond, Ok, Err, Result, nat_lt, codes, decimal}
use Rattle.points.specs.declared.fault.Fault.{Fault}
use Rattle.points.specs.declared.fault.Refusal.{Refusal}
use Rattle.points.specs.declared.fault.Refusal.TheVariants.{OffScale, Short, Degree, Worn, Foreign, Cut, Tail, Press, Bent, Grid, Letter, Overlong}

abbrev pub number_of : Refusal → ℕ
number_of OffScale = 1
number_of Short = 2
number_of Degree = 3
number_of Worn = 4
number_of Foreign = 5
number_of Cut = 6
number_of Tail = 7
number_of Press = 8
number_of Bent = 9
number_of Grid = 10
number_of Letter = 11
number_of Overlong = 12

-- the fault of a call itself
abbrev pub refuse : Refusal → ℕ → Fault
refuse r p = record { refusal = r; storey = 0; place = p }

-- a buffer of so many places, of which so many are needed; else refusal 2
abbrev pub placed : ℕ → ℕ → Result (Unit {0}) Fault
placed needed places = cond (nat_lt places needed) (Err (refuse Short needed)) (Ok tt)

-- how a fault is printed
abbrev pub refusal_text : Fault → List ℕ
refusal_text f = codes "refused " ++ decimal (number_of f.refusal) ++ codes " at " ++ decimal f.place
