use Rattle.aplc_lex.proofs.Exclusive.{tokens_or_cause}
use Rattle.aplc_lex.proofs.laws.tokens_or_refusal.Goals as goal

pub returns : goal.returns
returns c = tokens_or_cause
