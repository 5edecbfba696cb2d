use Rattle.aplc_syntax.proofs.laws.one_statement.Goals as goal
use Rattle.aplc_syntax.proofs.Unique.{one_statement}

-- the law is the lemma
pub returns : goal.returns
returns c = one_statement
