use Rattle.std.proofs.Common.{◌≡◌, drop, map}
use Rattle.aplc_core.specs.PlainSteps.{effect_of}
use Rattle.aplc_gen.specs.Emitted.{branches}
use Rattle.aplc_gen.proofs.statements.branches.Given as goal

abbrev pub invariant-loop-step : goal.invariant-loop-step
invariant-loop-step l = branches (map effect_of (drop l.step-index l.steps)) ≡ branches (map effect_of l.steps)
