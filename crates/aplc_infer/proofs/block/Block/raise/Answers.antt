use Rattle.std.proofs.Common.{sym, length, arith}
use Rattle.aplc_infer.proofs.Pooled.{row_there, rows_set, all_housed, block_rose}
use Rattle.aplc_infer.proofs.block.Block.raise.Goals as goal

pub raise_in-requires : goal.raise_in-requires
raise_in-requires c = record { housed = row_there (length c.self.inside.pool) c.self.inside.rows.items c.args.l c.index_mut-row.result.now (omega arith) c.index_mut-row.ensures.value c.self.invariant }

pub invariant_of-self : goal.invariant_of-self
invariant_of-self c = rows_set (length c.raise_in.new.pool) c.self.inside.rows.items c.args.l c.raise_in.new.row c.in_err-rose.ensures.housed (all_housed c.self.inside.pool c.raise_in.new.pool c.self.inside.rows.items c.in_err-rose.ensures.grows c.self.invariant)

pub invariant_of-self-2 : goal.invariant_of-self-2
invariant_of-self-2 c = rows_set (length c.raise_in.new.pool) c.self.inside.rows.items c.args.l c.raise_in.new.row c.in_ok-rose.ensures.housed (all_housed c.self.inside.pool c.raise_in.new.pool c.self.inside.rows.items c.in_ok-rose.ensures.grows c.self.invariant)

pub returns : goal.returns
returns c = block_rose c.args.self.now c.self.inside.pool c.raise_in.new.pool c.self.inside.rows.items c.args.l c.index_mut-row.result.now c.raise_in.new.row c.args.k c.args.fact.now c.in_ok-rose.rose (sym c.self.view_is) c.self.invariant (omega arith) c.index_mut-row.ensures.value c.in_ok-rose.ensures.grows c.in_ok-rose.ensures.rises
