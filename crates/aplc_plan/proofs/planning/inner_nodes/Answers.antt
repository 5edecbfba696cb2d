use Rattle.std.proofs.Common.{refl}
use Rattle.aplc_core.specs.CorePrograms.{program_steps}
use Rattle.aplc_plan.specs.Held.{function_inner}
use Rattle.aplc_plan.proofs.Rests.{step_over}
use Rattle.aplc_plan.proofs.planning.inner_nodes.Goals as goal

pub loop-function-preserved : goal.loop-function-preserved
loop-function-preserved c = step_over function_inner refl (program_steps c.args.core.now.program) c.loop-function.function _ _ _ _ c.in_ok-put_function.ensures refl c.loop-function.invariant
