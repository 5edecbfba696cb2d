use Rattle.std.proofs.lemmas.Result.{err_from_is_err_and}
use Rattle.aplc_cread.proofs.Refusals.{stopped_of, stopped_at, ends_found, whole_found}
use Rattle.aplc_cread.proofs.whole.whole.Goals as goal

pub returns-in_err-p : goal.returns-in_err-p
returns-in_err-p c = let p = err_from_is_err_and c.from_residual.result c.from_residual.ensures.1 in rw (p.1, p.2) (stopped_of c.in_err-p.ensures)

pub returns-in-Some : goal.returns-in-Some
returns-in-Some c = stopped_at (ends_found _ _ c.in_ok-p.ensures c.in-Some.ensures)

pub returns-in-None : goal.returns-in-None
returns-in-None c = whole_found _ c.in_ok-p.ensures c.in-None.ensures
