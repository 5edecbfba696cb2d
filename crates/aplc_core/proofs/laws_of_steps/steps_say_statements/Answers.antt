use Rattle.aplc_core.proofs.Structured.{says}
use Rattle.aplc_core.proofs.laws_of_steps.steps_say_statements.Goals as goal

pub returns : goal.returns
returns c = says
