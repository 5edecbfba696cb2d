use Rattle.std.proofs.Common.{◌<◌, sym, subst, length, arith}
use Rattle.aplc_infer.proofs.Pooled.{blanks_housed, block_blank}
use Rattle.aplc_infer.proofs.block.Block.blank.Goals as goal

pub invariant_of-result : goal.invariant_of-result
invariant_of-result c = blanks_housed c.in_ok-rows.rows.items (length c.in_ok-pool.pool) (subst (λ xs. 0 < length xs) (sym c.in_ok-pool.ensures) (omega arith)) c.in_ok-rows.ensures

pub returns : goal.returns
returns c = block_blank c.in_ok-pool.pool c.in_ok-rows.rows.items c.in_ok-pool.ensures c.in_ok-rows.ensures
