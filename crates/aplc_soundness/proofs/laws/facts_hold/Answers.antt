use Rattle.aplc_soundness.proofs.laws.facts_hold.Goals as goal
use Rattle.aplc_soundness.proofs.Lawful.{facts_hold}

-- the law is the lemma
pub returns : goal.returns
returns c = facts_hold
