use Rattle.std.proofs.Common.{◌≡◌, ◌+◌, ◌-◌, length, Ok, arith}
use borrow.Rule.Slice.PartMut.{put_mid}
use Rattle.std.proofs.lemmas.Grind.{common_steps}
use Rattle.polygons.specs.Buffers.{sized}
use Rattle.pathformat.specs.File.{fields, FieldsOk}
use Rattle.pathwriting.specs.Puts.{put, room_for}
use Rattle.pathwriting.specs.Steps.{bytes_of_points, then_test}
use Rattle.pathwriting.proofs.Items.{each_map}
use Rattle.pathwriting.proofs.Stepping.{bytes_of_points-each}
use Rattle.pathwriting.proofs.Files.{continued}
use Rattle.pathwriting.proofs.states.Begun.points.Goals as goal

pub returns-in_err-end-clause-step : goal.returns-in_err-end-clause-step
returns-in_err-end-clause-step g c =
    let same = bytes_of_points-each g.K.Filed.kind g.K.Kind.width g.K.Kind.coord c.args.points.now in
    grind (arith, common_steps, same)

pub returns : goal.returns
returns g c =
    let k = g.K.Filed.kind in
    let ps = c.args.points.now in
    let d = c.args.buffer.now in
    let at = c.args.self.end in
    let end = c.in_ok-end.end in
    let own = sized (length ps) in
    let bs = bytes_of_points k g.K.Kind.width g.K.Kind.coord ps in
    let same = bytes_of_points-each k g.K.Kind.width g.K.Kind.coord ps in
    let e = put_mid at (length d - at) d c.put_section.new.buffer in
    let step : (then_test own (room_for (at + length bs) (length d)) ≡ Ok end) × (e ≡ put at bs d) = grind (arith, common_steps, same) in
    record {
      step = step;
      continues = continued own at bs d e end step.0 step.1;
      sound = each_map (FieldsOk (fields k)) _ ps c.put_section.ensures.sound;
    }
