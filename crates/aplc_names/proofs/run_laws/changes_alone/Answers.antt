use Rattle.aplc_names.proofs.run_laws.changes_alone.Goals as goal
use Rattle.aplc_names.proofs.Changing.{changes_alone}

-- the law is the lemma
pub returns : goal.returns
returns c = changes_alone
