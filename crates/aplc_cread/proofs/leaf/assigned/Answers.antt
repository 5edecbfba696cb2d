use Rattle.std.proofs.lemmas.Result.{err_from_is_err_and}
use Rattle.std.proofs.Common.{sym, ◌∙◌}
use Rattle.aplc_cprof.specs.declared.syntax.CStmt.TheVariants as st
use Rattle.aplc_cread.specs.Exprs.{scope}
use Rattle.aplc_cread.proofs.Rules.{halts_within, within_found, reads_within, halts_map, found_map}
use Rattle.aplc_cread.proofs.Leaves.{within_assigned}
use Rattle.aplc_cread.proofs.leaf.assigned.Goals as goal

pub returns-then-is_call : goal.returns-then-is_call
returns-then-is_call c = reads_within _ c.call.result (within_assigned (scope c.args.names) c.args.room c.args.x _ _ (sym c.is_call.ensures ∙ c.if-is_call.true)) c.call.ensures

pub returns-in_err-e : goal.returns-in_err-e
returns-in_err-e c = let p = err_from_is_err_and c.from_residual.result c.from_residual.ensures.1 in rw (p.1, p.2)
    (halts_within (within_assigned (scope c.args.names) c.args.room c.args.x _ _ (sym c.is_call.ensures ∙ c.if-is_call.false)) (halts_map (λ e. st.Set c.args.x e) c.in_err-e.ensures))

pub returns : goal.returns
returns c = within_found (within_assigned (scope c.args.names) c.args.room c.args.x _ _ (sym c.is_call.ensures ∙ c.if-is_call.false)) (found_map (λ e. st.Set c.args.x e) c.in_ok-e.ensures)
