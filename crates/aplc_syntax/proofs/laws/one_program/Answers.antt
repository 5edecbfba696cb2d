use Rattle.aplc_syntax.proofs.laws.one_program.Goals as goal
use Rattle.aplc_syntax.proofs.OneProgram.{one_program}

-- the law is the lemma
pub returns : goal.returns
returns c = one_program
