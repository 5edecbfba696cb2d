use Rattle.std.proofs.Common.{sym, arith}
use Rattle.aplc_infer.proofs.Raised.{passed_blocks}
use Rattle.aplc_infer.proofs.tables.Blocks.pass.Goals as goal

pub returns : goal.returns
returns c = passed_blocks c.args.self.now c.self.inside.blocks.items c.args.i c.index_mut.result.now c.pass.new.self c.args.l c.args.m c.args.k c.in_ok-rose.rose (sym c.self.view_is) (omega arith) c.index_mut.ensures.value c.in_ok-rose.ensures
