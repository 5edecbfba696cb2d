use Rattle.aplc_core.proofs.laws.keeps_runs.Goals as goal
use Rattle.aplc_core.proofs.ResolvedRuns.{resolved_keeps_runs}

-- the law is the lemma
pub returns : goal.returns
returns c = resolved_keeps_runs
