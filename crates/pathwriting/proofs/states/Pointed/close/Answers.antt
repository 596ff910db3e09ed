use Rattle.std.proofs.Common.{◌≡◌, ◌+◌, ◌-◌, ◌≤◌, length, drop, Ok, refl, ◌∙◌, arith}
use Rattle.std.proofs.lemmas.Grind.{common_steps}
use Rattle.pathformat.specs.Writing.{bytes_each}
use Rattle.pathformat.specs.File.{working_bytes}
use Rattle.pathwriting.specs.Puts.{put, room_for}
use Rattle.pathwriting.specs.Steps.{workings_test, then_test}
use Rattle.pathwriting.specs.Written.{file_of}
use Rattle.pathwriting.proofs.Puts.{rest_put}
use Rattle.pathwriting.proofs.Files.{continued, sections-encode}
use Rattle.pathwriting.proofs.states.Pointed.close.Goals as goal

pub returns : goal.returns
returns c =
    let ws = c.args.workings.now in
    let d = c.args.buffer.now in
    let at = c.args.self.end in
    let end = c.in_ok-end.end in
    let bs = bytes_each working_bytes ws in
    let room : at + length bs ≤ length d = grind (arith, common_steps) in
    let taken : then_test (workings_test ws) (room_for (at + length bs) (length d)) ≡ Ok end = grind (arith, common_steps) in
    let part : c.put_section.new.buffer ≡ put 0 bs (drop at d) = grind (arith, common_steps) in
    let all = rest_put at bs d c.put_section.new.buffer (length d - at) (omega arith) refl part room in
    record {
      step = (taken, all);
      ends = λ k a nm ps h. continued (workings_test ws) at bs d _ end taken all _ h ∙ sections-encode (file_of k a nm ps ws);
    }
