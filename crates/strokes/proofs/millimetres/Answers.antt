use Rattle.std.proofs.Common.{sym, ap, ◌∙◌, subst, w32}
use lib.Ieee.{binary64, div, of_bits, of_int}
use Rattle.std.proofs.lemmas.Int.{to_z-of_z}
use Rattle.strokes.specs.Strokes.{InMillimetres}
use Rattle.strokes.proofs.Parts.{exact}
use Rattle.strokes.proofs.millimetres.Goals as goal

pub returns : goal.returns
returns c =
    subst (λ y. InMillimetres c.args.value (div binary64 y (of_bits binary64 4643211215818981376)))
    (sym (c.from.ensures ∙ ap (of_int binary64) (to_z-of_z w32 c.args.value c.ranges.value)))
    (exact c.args.value c.ranges.value)
