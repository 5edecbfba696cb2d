use Rattle.std.proofs.Common.{sym, arith}
use Rattle.aplc_infer.proofs.Raised.{in_blocks}
use Rattle.aplc_infer.proofs.tables.Blocks.raise.Goals as goal

pub returns : goal.returns
returns c = in_blocks _ _ _ c.index_mut.result.now c.raise.new.self _ _ _ c.in_ok-rose.rose (sym c.self.view_is) (omega arith) c.index_mut.ensures.value c.in_ok-rose.ensures
