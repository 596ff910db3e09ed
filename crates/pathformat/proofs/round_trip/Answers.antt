use Rattle.pathformat.proofs.Trip.{reads-back, is-file}
use Rattle.pathformat.proofs.round_trip.Goals as goal

pub returns : goal.returns
returns c = record { reads = reads-back; writes = is-file }
