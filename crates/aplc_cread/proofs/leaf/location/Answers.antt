use Rattle.std.proofs.lemmas.Result.{err_from_is_err_and}
use Rattle.aplc_cprof.specs.declared.syntax.CStmt.TheVariants as st
use Rattle.aplc_cread.proofs.Rules.{halts_first, halts_later, halts_map, found_map, bind_found}
use Rattle.aplc_cread.proofs.Leaves.{joint_at}
use Rattle.std.proofs.Common.{pos}
use Rattle.aplc_cread.proofs.Exprs.{pos_of}
use Rattle.aplc_cread.proofs.leaf.location.Goals as goal

pub returns-in_err-name : goal.returns-in_err-name
returns-in_err-name c = let p = err_from_is_err_and c.from_residual.result c.from_residual.ensures.1 in rw (p.1, p.2) (halts_first joint_at c.in_err-name.ensures)

pub returns-in_err-n : goal.returns-in_err-n
returns-in_err-n c = let p = err_from_is_err_and c.from_residual-in_err-n.result c.from_residual-in_err-n.ensures.1 in rw (p.1, p.2) (halts_later joint_at c.in_ok-name.ensures (halts_map (λ n. st.At c.in_ok-name.name (pos n)) c.in_err-n.ensures))

pub returns : goal.returns
returns c = rw (pos_of c.in_ok-n.n c.in_ok-n.ensures.is.below) (bind_found joint_at c.in_ok-name.ensures (found_map (λ n. st.At c.in_ok-name.name (pos n)) c.in_ok-n.ensures))
