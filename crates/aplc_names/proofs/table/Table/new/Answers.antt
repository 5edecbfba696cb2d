use Rattle.std.proofs.Common.{arith}
use Rattle.aplc_names.proofs.Firsts.{noted}
use Rattle.aplc_names.proofs.table.Table.new.Goals as goal

pub loop-i-preserved : goal.loop-i-preserved
loop-i-preserved c = λ n. noted n _ c.loop-i.i _ (omega arith) _ _ (c.in_ok-note.ensures n) (c.loop-i.invariant n)
