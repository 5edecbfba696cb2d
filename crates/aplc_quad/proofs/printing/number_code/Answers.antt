use Rattle.aplc_cprof.proofs.Kept.{kept_same}
use Rattle.aplc_quad.proofs.printing.number_code.Goals as goal

pub returns-in_err-digit-clause-kept : goal.returns-in_err-digit-clause-kept
returns-in_err-digit-clause-kept c = kept_same c.args.b.now

pub returns-in_err-number-clause-kept : goal.returns-in_err-number-clause-kept
returns-in_err-number-clause-kept c = kept_same c.args.b.now
