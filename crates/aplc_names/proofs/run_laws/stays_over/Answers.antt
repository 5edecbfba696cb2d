use Rattle.aplc_names.proofs.run_laws.stays_over.Goals as goal
use Rattle.aplc_names.proofs.Alike.{stays_over}

-- the law is the lemma
pub returns : goal.returns
returns c = stays_over
