use Rattle.aplc_cprof.proofs.Kept.{kept_same}
use Rattle.aplc_quad.proofs.printing.gap_code.Goals as goal

pub returns-in-Characters-clause-kept : goal.returns-in-Characters-clause-kept
returns-in-Characters-clause-kept c = kept_same c.args.b.now
