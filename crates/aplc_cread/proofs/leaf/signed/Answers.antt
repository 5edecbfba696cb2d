use Rattle.std.proofs.lemmas.Result.{err_from_is_err_and}
use Rattle.aplc_cread.proofs.Rules.{halts_within, within_found, halts_first, halts_later, halts_map, found_map, bind_found}
use Rattle.aplc_cread.proofs.Leaves.{within_signed, joint_signed}
use Rattle.aplc_cread.proofs.Rules.{pair}
use Rattle.aplc_cread.proofs.leaf.signed.Goals as goal

pub returns-in_err-n : goal.returns-in_err-n
returns-in_err-n c = let p = err_from_is_err_and c.from_residual.result c.from_residual.ensures.1 in rw (p.1, p.2) (halts_within (within_signed _) (halts_first (joint_signed _) c.in_err-n.ensures))

pub returns-in_err-i : goal.returns-in_err-i
returns-in_err-i c = let p = err_from_is_err_and c.from_residual-in_err-i.result c.from_residual-in_err-i.ensures.1 in rw (p.1, p.2) (halts_within (within_signed _) (halts_later (joint_signed _) c.in_ok-n.ensures (halts_map (pair c.in_ok-n.n) c.in_err-i.ensures)))

pub returns : goal.returns
returns c = within_found (within_signed _) (bind_found (joint_signed _) c.in_ok-n.ensures (found_map (pair c.in_ok-n.n) c.in_ok-i.ensures))
