use Rattle.aplc_names.proofs.run_laws.goes_on_at_none.Goals as goal
use Rattle.aplc_names.proofs.Spending.{goes_on_at_none}

-- the law is the lemma
pub returns : goal.returns
returns c = goes_on_at_none
