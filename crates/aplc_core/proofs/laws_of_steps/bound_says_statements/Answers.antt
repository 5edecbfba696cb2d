use Rattle.aplc_core.proofs.SaidLines.{resolved_says}
use Rattle.aplc_core.proofs.laws_of_steps.bound_says_statements.Goals as goal

-- a resolved program was parsed
pub returns : goal.returns
returns c = resolved_says c.args.bound.now c.program-program.ensures.parsed
