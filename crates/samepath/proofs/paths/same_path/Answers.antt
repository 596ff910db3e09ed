use Rattle.std.proofs.Common.{false}
use Rattle.std.proofs.lemmas.Bool.Decides.{Decides-at}
use Rattle.samepath.proofs.Pairs.{refuted, unsaid-first, unsaid-second, other-points, by-workings}
use Rattle.samepath.proofs.Equivalences.{same-path}
use Rattle.samepath.proofs.paths.same_path.Goals as goal

pub returns-in_default : goal.returns-in_default
returns-in_default g c = record { decides = refuted (unsaid-first g.K.Filed.kind c.args.a.now c.args.b.now _ c.in_default.ensures); equivalence = same-path }

pub returns-in_default-check : goal.returns-in_default-check
returns-in_default-check g c = record { decides = refuted (unsaid-second g.K.Filed.kind c.args.a.now c.args.b.now _ c.in_default-check.ensures); equivalence = same-path }

pub returns-then-same_points : goal.returns-then-same_points
returns-then-same_points g c = record {
  decides = by-workings g.K.Filed.kind c.args.a.now c.args.b.now c.same_points.result c.same_points.ensures c.if-same_points.true c.same_workings.result c.in-Ok.ensures c.in-Ok-check.ensures c.same_workings.ensures;
  equivalence = same-path;
}

pub returns-else-same_points : goal.returns-else-same_points
returns-else-same_points g c = record {
  decides = Decides-at c.same_points.result false c.if-same_points.false (refuted (other-points g.K.Filed.kind c.args.a.now c.args.b.now c.same_points.result c.same_points.ensures c.if-same_points.false));
  equivalence = same-path;
}
