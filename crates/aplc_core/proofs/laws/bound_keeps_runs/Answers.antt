use Rattle.aplc_core.proofs.laws.bound_keeps_runs.Goals as goal
use Rattle.aplc_core.proofs.ResolvedRuns.{resolved_keeps_runs}

-- a resolved program was parsed
pub returns : goal.returns
returns c = resolved_keeps_runs c.args.bound.now c.program-program.ensures.parsed
