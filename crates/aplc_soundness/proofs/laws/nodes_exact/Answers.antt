use Rattle.aplc_soundness.proofs.laws.nodes_exact.Goals as goal
use Rattle.aplc_soundness.proofs.OwnNodes.{nodes_exact}

-- the law is the lemma
pub returns : goal.returns
returns c = nodes_exact
