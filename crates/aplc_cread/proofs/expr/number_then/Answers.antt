use Rattle.std.proofs.lemmas.Result.{err_from_is_err_and}
use Rattle.aplc_cread.proofs.Rules.{halts_within, within_found, followed_first, followed_later, followed_found}
use Rattle.aplc_cread.proofs.Exprs.{within_number_then}
use Rattle.aplc_cread.proofs.expr.number_then.Goals as goal

pub returns-in_err-n : goal.returns-in_err-n
returns-in_err-n c = let p = err_from_is_err_and c.from_residual.result c.from_residual.ensures.1 in rw (p.1, p.2)
    (halts_within (within_number_then _ _) (followed_first _ c.requires.opens c.in_err-n.ensures))

pub returns-in_err-rest : goal.returns-in_err-rest
returns-in_err-rest c = let p = err_from_is_err_and c.from_residual-in_err-rest.result c.from_residual-in_err-rest.ensures.1 in rw (p.1, p.2)
    (halts_within (within_number_then _ _) (followed_later _ c.requires.opens c.in_ok-n.ensures c.in_err-rest.ensures))

pub returns : goal.returns
returns c = within_found (within_number_then _ _) (followed_found _ c.requires.opens c.in_ok-n.ensures c.in_ok-rest.ensures)
