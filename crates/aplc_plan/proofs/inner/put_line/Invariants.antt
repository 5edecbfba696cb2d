use Rattle.std.proofs.Common.{◌≡◌, ◌++◌, drop, map}
use Rattle.aplc_core.specs.PlainSteps.{effect_of}
use Rattle.aplc_plan.specs.Held.{line_inner}
use Rattle.aplc_plan.proofs.inner.put_line.Given as goal

abbrev pub invariant-loop-step : goal.invariant-loop-step
invariant-loop-step l = l.out.items ++ line_inner (map effect_of (drop l.step-index l.steps)) ≡ l.fn.out.items ++ line_inner (map effect_of l.steps)
