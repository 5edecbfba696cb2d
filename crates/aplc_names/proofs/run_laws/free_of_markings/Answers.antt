use Rattle.aplc_names.proofs.run_laws.free_of_markings.Goals as goal
use Rattle.aplc_names.proofs.Alike.{free_of_markings}

-- the law is the lemma
pub returns : goal.returns
returns c = free_of_markings
