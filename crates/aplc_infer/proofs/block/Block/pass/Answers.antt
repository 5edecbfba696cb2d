use Rattle.std.proofs.Common.{sym, subst, length, arith}
use Rattle.aplc_infer.specs.Seeing.{at}
use Rattle.aplc_infer.specs.Pools.{all_spelled}
use Rattle.aplc_infer.specs.Rising.{RowsRise}
use Rattle.aplc_infer.proofs.Pooled.{row_there, number_there, rows_set, all_housed, block_rose, block_at}
use Rattle.std.proofs.Common.{set}
use Rattle.aplc_infer.proofs.block.Block.pass.Goals as goal

pub pass_in-requires-clause-housed : goal.pass_in-requires-clause-housed
pass_in-requires-clause-housed c = row_there (length c.self.inside.pool) c.self.inside.rows.items c.args.m c.index_mut-row.result.now (omega arith) c.index_mut-row.ensures.value c.self.invariant

pub pass_in-requires-clause-within : goal.pass_in-requires-clause-within
pass_in-requires-clause-within c = number_there (length c.self.inside.pool) c.index-source.result.now c.args.k c.at-from.result (omega arith) c.at-from.ensures (row_there (length c.self.inside.pool) c.self.inside.rows.items c.args.l c.index-source.result.now (omega arith) c.index-source.ensures c.self.invariant)

pub invariant_of-self : goal.invariant_of-self
invariant_of-self c = rows_set (length c.pass_in.new.pool) c.self.inside.rows.items c.args.m c.pass_in.new.row c.in_err-rose.ensures.housed (all_housed c.self.inside.pool c.pass_in.new.pool c.self.inside.rows.items c.in_err-rose.ensures.grows c.self.invariant)

pub invariant_of-self-2 : goal.invariant_of-self-2
invariant_of-self-2 c = rows_set (length c.pass_in.new.pool) c.self.inside.rows.items c.args.m c.pass_in.new.row c.in_ok-rose.ensures.housed (all_housed c.self.inside.pool c.pass_in.new.pool c.self.inside.rows.items c.in_ok-rose.ensures.grows c.self.invariant)

pub returns : goal.returns
returns c =
    let p = c.self.inside.pool in
    let q = c.pass_in.new.pool in
    let rs = c.self.inside.rows.items in
    subst (λ f. RowsRise c.args.self.now (all_spelled q (set rs c.args.m c.pass_in.new.row)) (c.args.m, c.args.k) f c.in_ok-rose.rose)
    (sym (block_at c.args.self.now p rs c.args.l c.index-source.result.now c.args.k c.at-from.result (sym c.self.view_is) (omega arith) c.index-source.ensures (omega arith) c.at-from.ensures))
    (block_rose c.args.self.now p q rs c.args.m c.index_mut-row.result.now c.pass_in.new.row c.args.k (at p c.at-from.result) c.in_ok-rose.rose (sym c.self.view_is) c.self.invariant (omega arith) c.index_mut-row.ensures.value c.in_ok-rose.ensures.grows c.in_ok-rose.ensures.rises)
