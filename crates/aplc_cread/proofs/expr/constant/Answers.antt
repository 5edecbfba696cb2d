use Rattle.std.proofs.lemmas.Result.{err_from_is_err_and}
use Rattle.std.proofs.Common.{pos}
use Rattle.aplc_cprof.specs.declared.syntax.CExpr.TheVariants as ex
use Rattle.aplc_cread.proofs.Rules.{lax_found, lax_halts, halts_first, halts_later, halts_map, bind_found, found_map}
use Rattle.aplc_cread.proofs.Exprs.{joint_constant, pos_of}
use Rattle.aplc_cread.proofs.expr.constant.Goals as goal

pub returns-in_err-n : goal.returns-in_err-n
returns-in_err-n c = let p = err_from_is_err_and c.from_residual.result c.from_residual.ensures.1 in rw (p.1, p.2) (halts_first joint_constant c.in_err-n.ensures)

pub returns-in_err-rest : goal.returns-in_err-rest
returns-in_err-rest c = let p = err_from_is_err_and c.from_residual-in_err-rest.result c.from_residual-in_err-rest.ensures.1 in rw (p.1, p.2) (halts_later joint_constant c.in_ok-n.ensures (lax_halts (halts_map (λ u. ex.Lit (pos c.in_ok-n.n)) c.in_err-rest.ensures)))

pub returns : goal.returns
returns c = rw (pos_of c.in_ok-n.n c.in_ok-n.ensures.is.below)
    (bind_found joint_constant c.in_ok-n.ensures (lax_found (found_map (λ u. ex.Lit (pos c.in_ok-n.n)) c.in_ok-rest.ensures)))
