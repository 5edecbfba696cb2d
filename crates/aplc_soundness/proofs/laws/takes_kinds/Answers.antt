use Rattle.aplc_soundness.proofs.laws.takes_kinds.Goals as goal
use Rattle.aplc_soundness.proofs.OwnNodes.{takes_kinds}

-- the law is the lemma
pub returns : goal.returns
returns c = takes_kinds
