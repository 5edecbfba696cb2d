use Rattle.std.proofs.lemmas.Result.{err_from_is_err_and}
use Rattle.aplc_cprof.specs.declared.syntax.CStmt.TheVariants as st
use Rattle.aplc_cprof.specs.declared.syntax.Buf.TheVariants as buf
use Rattle.aplc_cread.proofs.Rules.{halts_map, found_map}
use Rattle.std.specs.Prelude.{Some}
use Rattle.aplc_cread.proofs.leaf.from_local.Goals as goal

pub returns-in_err-k : goal.returns-in_err-k
returns-in_err-k c = let p = err_from_is_err_and c.from_residual.result c.from_residual.ensures.1 in rw (p.1, p.2) (halts_map (λ k. st.SetBuf c.args.p (Some (buf.Local k))) c.in_err-k.ensures)

pub returns : goal.returns
returns c = found_map (λ k. st.SetBuf c.args.p (Some (buf.Local k))) c.in_ok-k.ensures
