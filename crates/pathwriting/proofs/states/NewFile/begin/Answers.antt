use Rattle.std.proofs.Common.{◌≡◌, ◌+◌, length, Ok, arith}
use Rattle.std.proofs.lemmas.Grind.{common_steps}
use Rattle.pathwriting.specs.Puts.{put, room_for}
use Rattle.pathwriting.specs.Steps.{begin_bytes, name_test, then_test}
use Rattle.pathwriting.proofs.Files.{behind}
use Rattle.pathwriting.proofs.states.NewFile.begin.Goals as goal

pub returns-clause-begins : goal.returns-clause-begins
returns-clause-begins g c =
    let d = c.args.buffer.now in
    let bs = begin_bytes g.K.Filed.kind c.args.allowance c.args.name.now in
    let taken : then_test (name_test c.args.name.now) (room_for (0 + length bs) (length d)) ≡ Ok c.in_ok-end.end = grind (arith, common_steps) in
    let first : c.put_head.new.buffer ≡ put 0 bs d = grind (arith, common_steps) in
    behind (name_test c.args.name.now) 0 bs d c.put_head.new.buffer c.in_ok-end.end taken first
