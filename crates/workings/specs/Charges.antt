-- What a charge adds to an allowance.
use Rattle.std.specs.Prelude.{ℕ, ◌+◌, cond, Ok, Err, Result, nat_lt}
use Rattle.points.specs.declared.fault.Fault.{Fault}
use Rattle.points.specs.declared.fault.Refusal.TheVariants.{Worn}
use Rattle.points.specs.Refusals.{refuse}

-- the allowance after a charge; one past 65,535 is refused with 4
abbrev pub charge_added : ℕ → ℕ → Result ℕ Fault
charge_added e c = cond (nat_lt 65535 (e + c)) (Err (refuse Worn c)) (Ok (e + c))
