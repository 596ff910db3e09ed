-- Refusals as the trials print them.
use Rattle.std.specs.Prelude.{ℕ, List, ◌++◌, codes, decimal}
use Rattle.points.specs.declared.fault.Fault.{Fault}
use Rattle.points.specs.Refusals.{number_of}

-- by number and place
abbrev pub placed_text : Fault → List ℕ
placed_text f = codes "refused " ++ decimal (number_of f.refusal) ++ codes " place " ++ decimal f.place

-- by number, storey and place
abbrev pub storeyed_text : Fault → List ℕ
storeyed_text f = codes "refused " ++ decimal (number_of f.refusal) ++ codes " storey " ++ decimal f.storey ++ codes " place " ++ decimal f.place
