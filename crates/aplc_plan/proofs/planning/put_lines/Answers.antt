use Rattle.std.proofs.Common.{refl, ◌∙◌}
use Rattle.aplc_plan.specs.Held.{line_inner}
use Rattle.aplc_plan.specs.Walked.{function_steps}
use Rattle.aplc_plan.proofs.Rests.{step_over, line_is}
use Rattle.aplc_plan.proofs.planning.put_lines.Goals as goal

pub loop-line-preserved : goal.loop-line-preserved
loop-line-preserved c = step_over line_inner refl (function_steps c.args.core.now.program c.args.function) c.loop-line.line _ _ _ _ c.in_ok-put_line.ensures (c.steps.ensures ∙ line_is c.args.core.now.program c.args.function c.loop-line.line) c.loop-line.invariant
