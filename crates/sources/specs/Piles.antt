-- Workings over a source.
use Rattle.std.specs.Prelude.{◌+◌, min, List, [], ◌∷◌, Ok, Err, Result}
use Rattle.points.specs.declared.fault.Fault.{Fault}
use Rattle.points.specs.Points.{Point}
use Rattle.workings.specs.declared.survey.Survey.{Survey}
use Rattle.workings.specs.declared.working.Working.{Working}
use Rattle.workings.specs.Workings.{after, shape}
use Rattle.sources.specs.Meaning.{Meaning, fails, holds, told}

-- a fault one storey further up, at most 255
abbrev pub climbed : Fault → Fault
climbed f = record { refusal = f.refusal; storey = min (f.storey + 1) 255; place = f.place }

abbrev pub climbing : {T : Type 0} → Result T Fault → Result T Fault
climbing (Ok x) = Ok x
climbing (Err f) = Err (climbed f)

-- the points with the allowance and the reach that are told, or the fault
abbrev pub settled : Result Survey Fault → List Point → Meaning
settled (Ok s) ps = holds (record { points = ps; allowance = s.allowance; reach = s.reach })
settled (Err f) ps = fails f

-- what a working over a source means: a fault below comes first, then its own
abbrev pub work : Working → Meaning → Meaning
work w (fails f) = fails (climbed f)
work w (holds h) = settled (after w (told h)) (shape w h.points)

-- workings put one above the other, the lowest first
abbrev pub piled : List Working → Meaning → Meaning
piled [] m = m
piled (w ∷ ws) m = piled ws (work w m)
