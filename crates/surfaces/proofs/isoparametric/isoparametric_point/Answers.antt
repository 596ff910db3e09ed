use Rattle.patches.specs.Nets.{net_of}
use Rattle.surfaces.proofs.Bounds.{cut-is, on-surface}
use Rattle.surfaces.proofs.isoparametric.isoparametric_point.Goals as goal

pub returns-clause-surface : goal.returns-clause-surface
returns-clause-surface g c =
    let P = net_of g.K.Kind.coord c.args.patch.now in
    let r = c.cut.result in
    on-surface g.K.Kind.width P c.args.s c.args.t _ (rw (cut-is P (net_of g.K.Kind.coord r.patch) c.args.s r.at c.cut.ensures.cut) at c.point.ensures.accurate)
