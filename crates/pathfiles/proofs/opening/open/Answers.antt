use Rattle.std.proofs.Common.{sym, ap, ◌∙◌, subst, arith}
use Rattle.pathformat.specs.Reading.{bad}
use Rattle.pathfiles.specs.Opened.{OpensBy}
use Rattle.pathformat.proofs.Fields.{bytes-from}
use Rattle.pathfiles.proofs.Opens.{overlong, not-overlong, no-file, exactly}
use Rattle.pathfiles.proofs.opening.open.Goals as goal

pub returns-then-total-gt-LONGEST_FILE-clause-exactly : goal.returns-then-total-gt-LONGEST_FILE-clause-exactly
returns-then-total-gt-LONGEST_FILE-clause-exactly g c =
    let bs = c.args.file.now in
    no-file g.K.Filed.kind bs c.new.result (overlong g.K.Filed.kind bs (omega arith) ∙ ap bad (sym c.new.ensures))

pub returns-clause-exactly : goal.returns-clause-exactly
returns-clause-exactly g c =
    let k = g.K.Filed.kind in
    let bs = c.args.file.now in
    exactly k bs (bytes-from bs c.type_inv.file) _ (subst (λ q. OpensBy q k c.read_sections.result) (sym (not-overlong k bs (omega arith))) c.read_sections.ensures)
