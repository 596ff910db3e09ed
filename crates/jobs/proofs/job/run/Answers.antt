use Rattle.std.proofs.Common.{◌≡◌, length, take, None, refl, subst, arith}
use Rattle.strands.specs.States.{state}
use Rattle.jobs.specs.Jobs.{Ran, Carries}
use Rattle.jobs.proofs.Runs.{rest_since, ran, done_more, done-stop}
use Rattle.jobs.proofs.job.run.Goals as goal

pub returns-in-Err : goal.returns-in-Err
returns-in-Err g c =
    let co = g.S.K.Kind.coord in
    let m = g.S.Source.means c.args.source.now in
    let s = state c.loop-done.strand c.loop-done.buffer in
    let s' = state c.work.new.self c.work.new.buffer in
    let rest = rest_since co m _ c.args.buffer.now c.loop-done.buffer (state c.in_ok-strand.strand c.load.new.buffer) c.in_ok-strand.ensures.answer c.load.ensures.laid c.loop-done.invariant.1 c.loop-done.invariant.0.1 in
    let both = done-stop co m c.args.workings.now c.loop-done.done _ _ c.load.new.buffer s s' c.loop-done-test.true refl c.in-Err.f c.args.buffer.now c.in-Err.ensures.step c.loop-done.invariant.0.0 rest g.S.K.Kind.width in
    record { answers = both.0; carries = both.1 }

pub loop-done-preserved : goal.loop-done-preserved
loop-done-preserved g c =
    let co = g.S.K.Kind.coord in
    let m = g.S.Source.means c.args.source.now in
    let s = state c.loop-done.strand c.loop-done.buffer in
    let s' = state c.work.new.self c.work.new.buffer in
    let d = done_more co m c.args.workings.now c.loop-done.done _ _ c.load.new.buffer s s' c.loop-done-test.true refl _ c.in_default.ensures.continues c.in_default.ensures.step c.loop-done.invariant.0 in
    (d.0, omega (arith, d.1))

pub returns : goal.returns
returns g c =
    let co = g.S.K.Kind.coord in
    let m = g.S.Source.means c.args.source.now in
    let rest = rest_since co m _ c.args.buffer.now c.loop-done.buffer (state c.in_ok-strand.strand c.load.new.buffer) c.in_ok-strand.ensures.answer c.load.ensures.laid c.loop-done.invariant.1 c.loop-done.invariant.0.1 in
    let s = state c.loop-done.strand c.loop-done.buffer in
    let ws = c.args.workings.now in
    let all : c.loop-done.done ≡ length ws = omega arith in
    let both = subst (λ n. Ran co m ws n None c.args.buffer.now s × Carries co g.S.K.Kind.width m (take n ws) s) all (ran co g.S.K.Kind.width m ws c.loop-done.done None c.args.buffer.now s c.loop-done.invariant.0.0 all rest) in
    record { answers = both.0; carries = both.1 }
