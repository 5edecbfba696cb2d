use Rattle.aplc_cprof.proofs.Kept.{kept_same}
use Rattle.aplc_quad.proofs.printing.plain_code.Goals as goal

pub returns-in_err-test-clause-kept : goal.returns-in_err-test-clause-kept
returns-in_err-test-clause-kept c = kept_same c.args.b.now
