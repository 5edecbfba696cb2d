use Rattle.std.proofs.Common.{◌≡◌, drop, map}
use Rattle.aplc_core.specs.PlainSteps.{effect_of}
use Rattle.aplc_gen.specs.Layouts.{the_routine}
use Rattle.aplc_gen.specs.Laid.{steps_fall}
use Rattle.aplc_gen.specs.Writing.{site_of}
use Rattle.aplc_gen.specs.Sparing.{rank_in}
use Rattle.aplc_gen.proofs.ranks.steps_fall.Given as goal

abbrev pub invariant-loop-step : goal.invariant-loop-step
invariant-loop-step l =
    steps_fall (rank_in l.ranks) l.site.number (the_routine (site_of l.site)) (map effect_of (drop l.step-index l.steps))
    ≡ steps_fall (rank_in l.ranks) l.site.number (the_routine (site_of l.site)) (map effect_of l.steps)
