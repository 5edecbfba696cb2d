use Rattle.aplc_lex.proofs.Exclusive.{tokens_once}
use Rattle.aplc_lex.proofs.laws.one_list.Goals as goal

pub returns : goal.returns
returns c = tokens_once
