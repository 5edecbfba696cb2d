use Rattle.std.proofs.lemmas.Result.{err_from_is_err_and}
use Rattle.aplc_cprof.specs.declared.syntax.CStmt.TheVariants as st
use Rattle.aplc_cread.proofs.Rules.{halts_map}
use Rattle.aplc_cread.specs.Stmts.{fault_at}
use Rattle.aplc_cread.proofs.leaf.fault.Goals as goal

pub returns-in_err-i : goal.returns-in_err-i
returns-in_err-i c = let p = err_from_is_err_and c.from_residual.result c.from_residual.ensures.1 in rw (p.1, p.2) (halts_map (λ i. st.Fault (fault_at i)) c.in_err-i.ensures)
