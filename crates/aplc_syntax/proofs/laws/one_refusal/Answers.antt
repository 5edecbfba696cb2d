use Rattle.aplc_syntax.proofs.Always.{first_once}
use Rattle.aplc_syntax.proofs.laws.one_refusal.Goals as goal

pub returns : goal.returns
returns c = first_once
