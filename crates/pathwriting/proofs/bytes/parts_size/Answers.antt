use Rattle.std.proofs.Common.{◌≡◌, ℕ, ◌≤◌, List, length, Bor, sum_by, sym, ◌∙◌, arith, rules}
use Rattle.std.proofs.lemmas.List.Concat.{length-flat_map}
use Rattle.pathwriting.proofs.bytes.parts_size.Goals as goal

pub sum-requires-clause-fits : goal.sum-requires-clause-fits
sum-requires-clause-fits c =
    let small : sum_by (λ (p : Bor (List ℕ)). length p.now) c.args.parts.now ≤ 12 = omega (arith, length-flat_map (λ (p : Bor (List ℕ)). p.now) c.args.parts.now) in
    search rules

pub returns : goal.returns
returns c =
    let sum : c.sum.result ≡ sum_by (λ (p : Bor (List ℕ)). length p.now) c.args.parts.now = search rules in
    sum ∙ sym (length-flat_map (λ (p : Bor (List ℕ)). p.now) c.args.parts.now)
