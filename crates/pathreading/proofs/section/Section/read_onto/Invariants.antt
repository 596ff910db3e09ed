use Rattle.std.proofs.Common.{◌≡◌, map, take}
use Rattle.pathformat.specs.Reading.{many, took}
use Rattle.pathreading.proofs.section.Section.read_onto.Given as goal

-- the items read so far stand first
abbrev pub invariant-loop-place : goal.invariant-loop-place
invariant-loop-place g l =
    (many g.I.Item.reads l.place-index l.self.items.total l.self.items.rest.now ≡ took (map g.I.Item.value (take l.place-index l.place-items)) l.rest.rest.now) × (l.rest.total ≡ l.self.items.total)
