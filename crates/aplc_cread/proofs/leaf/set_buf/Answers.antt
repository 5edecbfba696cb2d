use Rattle.std.proofs.lemmas.Result.{err_from_is_err_and}
use Rattle.aplc_cread.specs.Exprs.{scope}
use Rattle.aplc_cread.proofs.Rules.{reads_later, halts_first}
use Rattle.aplc_cread.proofs.Leaves.{joint_source}
use Rattle.aplc_cread.proofs.leaf.set_buf.Goals as goal

pub returns-in_err-i : goal.returns-in_err-i
returns-in_err-i c = let p = err_from_is_err_and c.from_residual.result c.from_residual.ensures.1 in rw (p.1, p.2) (halts_first (joint_source (scope c.args.names) c.args.room c.args.p) c.in_err-i.ensures)

pub returns : goal.returns
returns c = reads_later c.source_behind.result (joint_source (scope c.args.names) c.args.room c.args.p) c.in_ok-i.ensures c.source_behind.ensures
