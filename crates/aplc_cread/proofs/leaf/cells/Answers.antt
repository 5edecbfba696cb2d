use Rattle.std.proofs.lemmas.Result.{err_from_is_err_and}
use Rattle.aplc_cprof.specs.declared.syntax.CStmt.TheVariants as st
use Rattle.aplc_cread.proofs.Rules.{halts_map, found_map}
use Rattle.aplc_cread.proofs.leaf.cells.Goals as goal

pub returns-in_err-e : goal.returns-in_err-e
returns-in_err-e c = let p = err_from_is_err_and c.from_residual.result c.from_residual.ensures.1 in rw (p.1, p.2) (halts_map (λ e. st.Cells c.args.p e) c.in_err-e.ensures)

pub returns : goal.returns
returns c = found_map (λ e. st.Cells c.args.p e) c.in_ok-e.ensures
