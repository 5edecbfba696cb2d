use Rattle.aplc_names.proofs.run_laws.only_grows.Goals as goal
use Rattle.aplc_names.proofs.Alike.{only_grows}

-- the law is the lemma
pub returns : goal.returns
returns c = only_grows
