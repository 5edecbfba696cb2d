use Rattle.aplc_syntax.proofs.Heads.{first_and_rest, called_first}
use Rattle.aplc_syntax.proofs.header.called.Goals as goal

pub returns-in-Name : goal.returns-in-Name
returns-in-Name c = called_first c.called_one.result c.args.outcome c.named.result _ _ _ _ _ c.named.ensures (first_and_rest _ _ c.in-len1-up.len_at_least) c.in-Name.is c.called_one.ensures
