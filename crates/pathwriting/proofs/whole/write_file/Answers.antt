use Rattle.std.proofs.Common.{◌≡◌, ◌+◌, ◌≤◌, length, Ok, refl, sym, ap, ◌∙◌, arith}
use Rattle.std.proofs.lemmas.Grind.{common_steps}
use Rattle.polygons.specs.Buffers.{sized}
use Rattle.pathformat.specs.Writing.{bytes_each, Each}
use Rattle.pathformat.specs.File.{File, fields, working_bytes, FieldsOk}
use Rattle.pathformat.proofs.Fields.{bytes-from}
use Rattle.pathwriting.specs.Puts.{put, room_for}
use Rattle.pathwriting.specs.Steps.{begin_bytes, axis_values, bytes_of_points, name_test, parameters_test, workings_test, then_test}
use Rattle.pathwriting.specs.Written.{file_of}
use Rattle.pathwriting.proofs.Files.{passes, ends_at, length-encode, can-be-filed, whole}
use Rattle.pathwriting.proofs.whole.write_file.Goals as goal

pub returns : goal.returns
returns g c =
    let k = g.K.Filed.kind in
    let ps = c.args.points.now in
    let nm = c.args.name.now in
    let d = c.args.buffer.now in
    let f : File = file_of k c.args.allowance nm (axis_values g.K.Kind.width g.K.Kind.coord ps) c.args.workings.now in
    let p = passes f (length d) _ c.in_ok-test_file.ensures in
    let b : (then_test (name_test nm) (room_for (0 + length (begin_bytes k c.args.allowance nm)) (length d)) ≡ Ok c.in_ok-begun.begun.end) × (c.begin.new.buffer ≡ put 0 (begin_bytes k c.args.allowance nm) d) = grind (arith, common_steps, c.in_ok-begun.was, c.map_err.ensures.cases, c.begin.ensures.step) in
    let bs₂ = bytes_of_points k g.K.Kind.width g.K.Kind.coord ps in
    let v : (then_test (sized (length ps)) (room_for (c.in_ok-begun.begun.end + length bs₂) (length c.begin.new.buffer)) ≡ Ok c.in_ok-pointed.pointed.end) × (c.points.new.buffer ≡ put c.in_ok-begun.begun.end bs₂ c.begin.new.buffer) = grind (arith, common_steps, c.in_ok-pointed.was, c.map_err-2.ensures.cases, c.points.ensures.step) in
    let sound : Each (FieldsOk (fields k)) f.points = grind (arith, common_steps, c.in_ok-pointed.was, c.map_err-2.ensures.cases, c.points.ensures.sound) in
    let at₁ = ends_at (name_test nm) (0 + length (begin_bytes k c.args.allowance nm)) (length d) _ b.0 in
    let at₂ = ends_at (sized (length ps)) (c.in_ok-begun.begun.end + length bs₂) (length c.begin.new.buffer) _ v.0 in
    let bs₃ = bytes_each working_bytes c.args.workings.now in
    let room : c.in_ok-pointed.pointed.end + length bs₃ ≤ length c.points.new.buffer = omega (arith, p.0.room, length-encode f, at₁, at₂, c.begin.auto.buffer, c.points.auto.buffer) in
    let own : workings_test c.args.workings.now ≡ Ok tt = ap (λ t. then_test t (parameters_test c.args.workings.now)) p.0.count ∙ p.0.parameters in
    let w : (c.map_err-3.result ≡ Ok (c.in_ok-pointed.pointed.end + length bs₃)) × (c.close.new.buffer ≡ put c.in_ok-pointed.pointed.end bs₃ c.points.new.buffer) = grind (arith, common_steps, c.map_err-3.ensures.cases, c.close.ensures.step) in
    let fine = can-be-filed f (length d) p.0 (omega arith) (bytes-from nm c.type_inv.name) sound in
    let all = whole f d c.begin.new.buffer c.points.new.buffer c.close.new.buffer _ _ _ at₁ at₂ refl b.1 v.1 w.1 p.0.room fine in
    record {
      answer = w.0 ∙ ap Ok (all.0 ∙ sym p.1) ∙ c.in_ok-test_file.ensures;
      written = rw w.0 all.1;
    }
