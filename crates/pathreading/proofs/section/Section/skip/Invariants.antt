use Rattle.std.proofs.Common.{◌≡◌}
use Rattle.pathformat.specs.Reading.{many, Ends}
use Rattle.pathreading.proofs.section.Section.skip.Given as goal

-- the items so far read, and the rest is after them
abbrev pub invariant-loop : goal.invariant-loop
invariant-loop g l =
    Ends (many g.I.Item.reads l.counter l.self.items.total l.self.items.rest.now) l.rest.rest.now × (l.rest.total ≡ l.self.items.total)
