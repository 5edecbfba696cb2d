use Rattle.aplc_soundness.proofs.laws.globals_hold.Goals as goal
use Rattle.aplc_soundness.proofs.Lawful.{globals_hold}

-- the law is the lemma
pub returns : goal.returns
returns c = globals_hold
