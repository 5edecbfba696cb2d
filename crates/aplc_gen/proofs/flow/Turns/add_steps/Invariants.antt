use Rattle.std.proofs.Common.{◌≡◌, drop, map}
use Rattle.aplc_core.specs.PlainSteps.{effect_of}
use Rattle.aplc_gen.specs.Layouts.{the_routine}
use Rattle.aplc_gen.specs.Writing.{site_of}
use Rattle.aplc_gen.specs.Flows.{steps_turned}
use Rattle.aplc_gen.proofs.flow.Turns.add_steps.Given as goal

abbrev pub invariant-loop-step : goal.invariant-loop-step
invariant-loop-step l = steps_turned (the_routine (site_of l.site)) (map effect_of (drop l.step-index l.steps)) l.self ≡ steps_turned (the_routine (site_of l.site)) (map effect_of l.steps) l.fn.self
