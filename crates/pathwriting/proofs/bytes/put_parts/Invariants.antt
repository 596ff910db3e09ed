use Rattle.std.proofs.Common.{◌≡◌, length, take}
use Rattle.pathwriting.specs.Puts.{put, joined}
use Rattle.pathwriting.proofs.bytes.put_parts.Given as goal

-- the parts so far are put, and the next one goes where they end
abbrev pub invariant-loop-part : goal.invariant-loop-part
invariant-loop-part l =
    (l.to ≡ length (joined (take l.part-index l.parts))) × (l.buffer ≡ put 0 (joined (take l.part-index l.parts)) l.initial.buffer)
