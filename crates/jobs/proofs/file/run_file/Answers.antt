use Rattle.std.proofs.Common.{refl}
use Rattle.std.proofs.lemmas.Result.{err_from_is_err_and}
use Rattle.jobs.proofs.Files.{too_many}
use Rattle.jobs.proofs.file.run_file.Goals as goal

pub returns-in_err-n : goal.returns-in_err-n
returns-in_err-n g c =
    let p = err_from_is_err_and c.from_residual-in_err-n.result c.from_residual-in_err-n.ensures.1 in
    rw (p.1, p.2) (too_many g.K.Filed.kind c.args.file.now c.in_ok-check.ensures g.K.Kind.coord g.K.Kind.width c.args.buffer.now c.args.buffer.now _ c.in_err-n.ensures.answer refl)
