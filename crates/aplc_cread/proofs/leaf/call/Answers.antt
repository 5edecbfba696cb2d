use Rattle.std.proofs.lemmas.Result.{err_from_is_err_and}
use Rattle.aplc_cread.specs.Exprs.{scope}
use Rattle.aplc_cread.proofs.Rules.{reads_later, halts_first}
use Rattle.aplc_cread.proofs.Leaves.{joint_call}
use Rattle.aplc_cread.proofs.leaf.call.Goals as goal

pub returns-in_err-i : goal.returns-in_err-i
returns-in_err-i c = let p = err_from_is_err_and c.from_residual.result c.from_residual.ensures.1 in rw (p.1, p.2) (halts_first (joint_call (scope c.args.names) c.args.room c.args.x) c.in_err-i.ensures)

pub returns : goal.returns
returns c = reads_later c.call_behind.result (joint_call (scope c.args.names) c.args.room c.args.x) c.in_ok-i.ensures c.call_behind.ensures
