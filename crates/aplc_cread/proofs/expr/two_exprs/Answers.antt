use Rattle.std.proofs.lemmas.Result.{err_from_is_err_and}
use Rattle.aplc_cread.proofs.Rules.{halts_within, within_found, two_first, two_later, two_found}
use Rattle.aplc_cread.proofs.Exprs.{within_two_exprs, some_expr_then}
use Rattle.aplc_cread.proofs.expr.two_exprs.Goals as goal

pub returns-in_err-x : goal.returns-in_err-x
returns-in_err-x c = let p = err_from_is_err_and c.from_residual.result c.from_residual.ensures.1 in rw (p.1, p.2)
    (halts_within (within_two_exprs _ _ _ _) (two_first (some_expr_then _ _ _) c.in_err-x.ensures))

pub returns-in_err-y : goal.returns-in_err-y
returns-in_err-y c = let p = err_from_is_err_and c.from_residual-in_err-y.result c.from_residual-in_err-y.ensures.1 in rw (p.1, p.2)
    (halts_within (within_two_exprs _ _ _ _) (two_later (some_expr_then _ _ _) c.in_ok-x.ensures c.in_err-y.ensures))

pub returns : goal.returns
returns c = within_found (within_two_exprs _ _ _ _) (two_found c.in_ok-x.ensures c.in_ok-y.ensures)
