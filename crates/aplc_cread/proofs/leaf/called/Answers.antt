use Rattle.std.proofs.lemmas.Result.{err_from_is_err_and}
use Rattle.std.proofs.Common.{sym, ◌∙◌}
use Rattle.aplc_cprof.specs.declared.syntax.CStmt.TheVariants as st
use Rattle.aplc_cread.specs.Exprs.{scope}
use Rattle.aplc_cread.proofs.Rules.{halts_within, within_found, reads_within, halts_map, found_map}
use Rattle.aplc_cread.proofs.Leaves.{within_called}
use Rattle.aplc_cread.proofs.leaf.called.Goals as goal

pub returns-then-is_fault : goal.returns-then-is_fault
returns-then-is_fault c = reads_within _ c.fault.result (within_called (scope c.args.names) _ _ c.requires.small.functions (sym c.is_fault.ensures ∙ c.if-is_fault.true)) c.fault.ensures

pub returns-in_err-n : goal.returns-in_err-n
returns-in_err-n c = let p = err_from_is_err_and c.from_residual.result c.from_residual.ensures.1 in rw (p.1, p.2)
    (halts_within (within_called (scope c.args.names) _ _ c.requires.small.functions (sym c.is_fault.ensures ∙ c.if-is_fault.false)) (halts_map (λ n. st.Call n) c.in_err-n.ensures))

pub returns : goal.returns
returns c = within_found (within_called (scope c.args.names) _ _ c.requires.small.functions (sym c.is_fault.ensures ∙ c.if-is_fault.false)) (found_map (λ n. st.Call n) c.in_ok-n.ensures)
