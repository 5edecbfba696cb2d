use Rattle.aplc_lex.proofs.Always.{tokens_or_first}
use Rattle.aplc_lex.proofs.laws.always_one.Goals as goal

pub returns : goal.returns
returns c = tokens_or_first
