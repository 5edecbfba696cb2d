use Rattle.aplc_names.proofs.run_laws.assigns_its_names.Goals as goal
use Rattle.aplc_names.proofs.AssignedNames.{assigns_its_names}

-- the law is the lemma
pub returns : goal.returns
returns c = assigns_its_names
