use Rattle.std.proofs.Common.{◌≡◌, drop, map}
use Rattle.aplc_core.specs.PlainSteps.{effect_of}
use Rattle.aplc_gen.specs.Codes.{ending}
use Rattle.aplc_gen.proofs.statements.emit_end.Given as goal

abbrev pub invariant-loop-step : goal.invariant-loop-step
invariant-loop-step l = (ending (map effect_of (drop l.step-index l.steps)) ≡ ending (map effect_of l.steps)) × (l.b ≡ l.fn.b)
