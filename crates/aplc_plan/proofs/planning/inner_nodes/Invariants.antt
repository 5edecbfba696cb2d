use Rattle.std.proofs.Common.{◌≡◌, ◌++◌, drop}
use Rattle.aplc_core.specs.CorePrograms.{program_steps}
use Rattle.aplc_plan.specs.Held.{program_inner}
use Rattle.aplc_plan.proofs.planning.inner_nodes.Given as goal

abbrev pub invariant-loop-function : goal.invariant-loop-function
invariant-loop-function l = l.out.items ++ program_inner (drop l.function (program_steps l.core.program)) ≡ program_inner (program_steps l.core.program)
