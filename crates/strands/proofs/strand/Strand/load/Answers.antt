use Rattle.std.proofs.Common.{sym, ap}
use Rattle.strands.specs.States.{told}
use Rattle.strands.specs.Histories.{loaded}
use Rattle.strands.proofs.strand.Strand.load.Goals as goal

pub returns-clause-begins : goal.returns-clause-begins
returns-clause-begins g c = loaded c.args.buffer.now (g.S.Source.sound c.args.source.now) (sym (ap told c.in_ok-s.ensures.answer)) c.draw.ensures.laid
