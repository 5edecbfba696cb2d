use Rattle.aplc_soundness.proofs.laws.no_rank_fault.Goals as goal
use Rattle.aplc_soundness.proofs.Lawful.{no_rank_fault}

-- the law is the lemma
pub returns : goal.returns
returns c = no_rank_fault
