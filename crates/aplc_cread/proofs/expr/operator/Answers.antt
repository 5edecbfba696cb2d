use Rattle.std.proofs.lemmas.Result.{err_from_is_err_and}
use Rattle.aplc_cread.proofs.Rules.{halts_within, halts_map}
use Rattle.aplc_cread.proofs.Exprs.{within_operator, op_at}
use Rattle.aplc_cread.proofs.expr.operator.Goals as goal

pub returns-in_err-i : goal.returns-in_err-i
returns-in_err-i c = let p = err_from_is_err_and c.from_residual.result c.from_residual.ensures.1 in rw (p.1, p.2) (halts_within (within_operator _) (halts_map op_at c.in_err-i.ensures))
