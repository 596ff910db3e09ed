use Rattle.std.proofs.Common.{ℕ, ◌+◌, ◌≤◌, List, [], length, get_or, Bor, arith, rules}
use Rattle.std.proofs.lemmas.List.Folds.{length-flat_map-take}
use Rattle.pathwriting.proofs.bytes.put_parts.Goals as goal

pub slice_bounds-copy_from_slice-end : goal.slice_bounds-copy_from_slice-end
slice_bounds-copy_from_slice-end c =
    let xs = c.args.parts.now in
    let i = c.loop-part.part-index in
    let d : Bor (List ℕ) = record { ref_ptr = (0, 0); now = [] } in
    let room : c.loop-part.to + length (get_or xs i d).now ≤ length c.loop-part.buffer = omega (arith, length-flat_map-take (λ (p : Bor (List ℕ)). p.now) xs i d c.loop-part-test.true) in
    search rules
