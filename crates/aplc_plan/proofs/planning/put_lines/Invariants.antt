use Rattle.std.proofs.Common.{◌≡◌, ◌++◌, drop}
use Rattle.aplc_plan.specs.Held.{function_inner}
use Rattle.aplc_plan.specs.Walked.{function_steps}
use Rattle.aplc_plan.proofs.planning.put_lines.Given as goal

abbrev pub invariant-loop-line : goal.invariant-loop-line
invariant-loop-line l = l.out.items ++ function_inner (drop l.line (function_steps l.core.program l.function)) ≡ l.fn.out.items ++ function_inner (function_steps l.core.program l.function)
