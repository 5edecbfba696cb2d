use Rattle.std.proofs.Common.{◌≡◌, ◌≤◌, drop, map, max, true}
use Rattle.aplc_core.specs.PlainSteps.{effect_of}
use Rattle.aplc_gen.specs.Emitted.{steps_width}
use Rattle.aplc_gen.specs.Writing.{fits_steps}
use Rattle.aplc_gen.proofs.widths.steps_width.Given as goal

abbrev pub invariant-loop-step : goal.invariant-loop-step
invariant-loop-step l =
    (max l.most (steps_width (map effect_of (drop l.step-index l.steps))) ≡ steps_width (map effect_of l.steps))
    × (l.most ≤ 2000)
    × (fits_steps l.slots (map effect_of (drop l.step-index l.steps)) ≡ true)
