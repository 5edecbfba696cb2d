use Rattle.aplc_names.proofs.run_laws.stays_balanced.Goals as goal
use Rattle.aplc_names.proofs.Balancing.{stays_balanced}

-- the law is the lemma
pub returns : goal.returns
returns c = stays_balanced
