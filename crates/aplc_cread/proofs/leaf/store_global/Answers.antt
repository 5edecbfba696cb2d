use Rattle.std.proofs.lemmas.Result.{err_from_is_err_and}
use Rattle.aplc_cread.specs.Exprs.{scope}
use Rattle.aplc_cread.proofs.Rules.{reads_later, halts_first}
use Rattle.aplc_cread.proofs.Leaves.{joint_store_global}
use Rattle.aplc_cread.proofs.leaf.store_global.Goals as goal

pub returns-in_err-n : goal.returns-in_err-n
returns-in_err-n c = let p = err_from_is_err_and c.from_residual.result c.from_residual.ensures.1 in rw (p.1, p.2) (halts_first (joint_store_global (scope c.args.names) c.args.room) c.in_err-n.ensures)

pub returns : goal.returns
returns c = reads_later c.stored.result (joint_store_global (scope c.args.names) c.args.room) c.in_ok-n.ensures c.stored.ensures
