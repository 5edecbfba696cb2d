use Rattle.aplc_cprof.proofs.Kept.{kept_trans}
use Rattle.aplc_quad.proofs.ranging.widen_code.Goals as goal

pub returns-clause-kept : goal.returns-clause-kept
returns-clause-kept c = kept_trans c.args.b.now c.set_if_less.new.b c.set_if_less-2.new.b c.in_ok-set_if_less.ensures.kept c.set_if_less-2.ensures.kept
