use Rattle.patches.specs.Nets.{net_of}
use Rattle.surfaces.proofs.Bounds.{cut-is, chords-on-surface}
use Rattle.surfaces.proofs.isoparametric.isoparametric_flatten.Goals as goal

pub returns-clause-surface : goal.returns-clause-surface
returns-clause-surface g c =
    let P = net_of g.K.Kind.coord c.args.patch.now in
    let r = c.cut.result in
    chords-on-surface g.K.Kind.width P c.args.s (λ _. c.args.tolerance) c.flatten.result _ _ (rw (cut-is P (net_of g.K.Kind.coord r.patch) c.args.s r.at c.cut.ensures.cut) at c.flatten.ensures.chords)
