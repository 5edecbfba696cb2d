use Rattle.aplc_names.proofs.run_laws.gives_arrays.Goals as goal
use Rattle.aplc_names.proofs.GivenArrays.{gives_arrays}

-- the law is the lemma
pub returns : goal.returns
returns c = gives_arrays
