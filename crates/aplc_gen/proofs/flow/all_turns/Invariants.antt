use Rattle.std.proofs.Common.{◌≡◌, drop}
use Rattle.aplc_gen.specs.Layouts.{the_routine}
use Rattle.aplc_gen.specs.Writing.{site_of}
use Rattle.aplc_gen.specs.Flows.{lines_turned, no_turns}
use Rattle.aplc_gen.proofs.flow.all_turns.Given as goal

abbrev pub invariant-loop-index : goal.invariant-loop-index
invariant-loop-index l = lines_turned (the_routine (site_of l.site)) (drop l.index (the_routine (site_of l.site)).steps) l.turns ≡ lines_turned (the_routine (site_of l.site)) (the_routine (site_of l.site)).steps no_turns
