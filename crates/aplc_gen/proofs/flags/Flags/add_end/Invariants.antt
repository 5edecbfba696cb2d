use Rattle.std.proofs.Common.{◌≡◌, drop, map}
use Rattle.aplc_core.specs.PlainSteps.{effect_of}
use Rattle.aplc_gen.specs.Layouts.{the_routine}
use Rattle.aplc_gen.specs.Writing.{site_of}
use Rattle.aplc_gen.specs.Sparing.{steps_flags}
use Rattle.aplc_gen.proofs.flags.Flags.add_end.Given as goal

abbrev pub invariant-loop-step : goal.invariant-loop-step
invariant-loop-step l =
    steps_flags (the_routine (site_of l.site)).header.scope l.own (map effect_of (drop l.step-index l.steps)) l.self
    ≡ steps_flags (the_routine (site_of l.site)).header.scope l.known (map effect_of l.steps) l.fn.self
