use Rattle.aplc_lex.proofs.Exclusive.{first_once}
use Rattle.aplc_lex.proofs.laws.one_refusal.Goals as goal

pub returns : goal.returns
returns c = first_once
