use Rattle.aplc_soundness.proofs.laws.passes_facts.Goals as goal
use Rattle.aplc_soundness.proofs.OwnNodes.{passes_facts}

-- the law is the lemma
pub returns : goal.returns
returns c = passes_facts
