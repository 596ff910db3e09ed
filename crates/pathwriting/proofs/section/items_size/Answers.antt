use Rattle.std.proofs.Common.{◌≡◌, length, min, sum_by, sym, ◌∙◌, arith, rules}
use Rattle.std.proofs.lemmas.List.Concat.{length-flat_map}
use Rattle.std.proofs.lemmas.List.Sums.{sum_by-le}
use Rattle.pathwriting.proofs.section.items_size.Goals as goal

pub returns : goal.returns
returns g c =
    let bytes = g.I.Encode.bytes in
    let xs = c.args.items.now in
    let sum : c.sum.result ≡ sum_by (λ x. length (bytes x)) xs = search rules in
    let capped : c.sum.result ≡ sum_by (λ x. min (length (bytes x)) 12) xs = search rules in
    let most = sum_by-le (λ x. min (length (bytes x)) 12) 12 xs (λ i d. search rules) in
    (sum ∙ sym (length-flat_map bytes xs), omega arith)
