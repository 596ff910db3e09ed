use Rattle.std.proofs.Common.{◌≡◌, length, take}
use Rattle.std.specs.List.{flat_map}
use Rattle.pathformat.specs.Writing.{Each}
use Rattle.pathwriting.specs.Puts.{put}
use Rattle.pathwriting.proofs.section.put_items.Given as goal

-- the items so far are written, and the next one goes where they end
abbrev pub invariant-loop-item : goal.invariant-loop-item
invariant-loop-item g l =
    (l.to ≡ length (flat_map g.I.Encode.bytes (take l.item-index l.items))) × (l.buffer ≡ put 0 (flat_map g.I.Encode.bytes (take l.item-index l.items)) l.initial.buffer) × Each g.I.Encode.sound (take l.item-index l.items)
