use Rattle.aplc_soundness.proofs.laws.changes_keep_kinds.Goals as goal
use Rattle.aplc_soundness.proofs.OwnNodes.{changes_keep_kinds}

-- the law is the lemma
pub returns : goal.returns
returns c = changes_keep_kinds
