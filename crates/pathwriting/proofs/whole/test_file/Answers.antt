use Rattle.std.proofs.Common.{◌≡◌, ◌+◌, length, sym, ap, ◌∙◌, arith}
use Rattle.std.proofs.lemmas.Grind.{common_steps}
use Rattle.pathformat.specs.File.{File, encode}
use Rattle.pathwriting.specs.Puts.{room_for}
use Rattle.pathwriting.specs.Steps.{axis_values}
use Rattle.pathwriting.specs.Written.{file_of, write_test}
use Rattle.pathwriting.proofs.Stepping.{bytes_of_points-each}
use Rattle.pathwriting.proofs.Files.{length-encode}
use Rattle.pathwriting.proofs.whole.test_file.Goals as goal

pub returns : goal.returns
returns g c =
    let k = g.K.Filed.kind in
    let ps = c.args.points.now in
    let f : File = file_of k 0 c.args.name.now (axis_values g.K.Kind.width g.K.Kind.coord ps) c.args.workings.now in
    let points = ap length (bytes_of_points-each k g.K.Kind.width g.K.Kind.coord ps) in
    let size : 11 + length c.args.name.now + c.items_size.result + c.items_size-2.result ≡ length (encode f) = omega (arith, length-encode f, points, c.items_size.ensures.0, c.items_size-2.ensures.0) in
    let tested : write_test f c.args.places ≡ room_for (length (encode f)) c.args.places = grind (arith, common_steps) in
    let placed : c.test_room.result ≡ room_for (length (encode f)) c.args.places = c.test_room.ensures ∙ ap (λ n. room_for n c.args.places) size in
    placed ∙ sym tested
