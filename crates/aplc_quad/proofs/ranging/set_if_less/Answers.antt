use Rattle.aplc_cprof.proofs.Kept.{kept_same}
use Rattle.aplc_quad.proofs.ranging.set_if_less.Goals as goal

pub returns-in_err-test-clause-kept : goal.returns-in_err-test-clause-kept
returns-in_err-test-clause-kept c = kept_same c.args.b.now

pub returns-in_err-block-clause-kept : goal.returns-in_err-block-clause-kept
returns-in_err-block-clause-kept c = kept_same c.args.b.now
