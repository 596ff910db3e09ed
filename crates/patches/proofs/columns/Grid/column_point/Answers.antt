use Rattle.std.proofs.Common.{arith}
use Rattle.patches.proofs.Laying.{column-first}
use Rattle.patches.proofs.columns.Grid.column_point.Goals as goal

pub returns : goal.returns
returns g c = column-first g.K.Kind.coord c.args.s _ c.copy_column.new.room c.right.new.polygon c.right.result c.copy_column.ensures c.requires.on_scale (omega arith) (omega arith) c.right.auto.polygon c.right.ensures.answer c.right.ensures.right
