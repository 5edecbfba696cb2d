use Rattle.std.proofs.Common.{◌≡◌, ◌+◌, drop}
use Rattle.aplc_gen.specs.Layouts.{the_routine}
use Rattle.aplc_gen.specs.Writing.{site_of}
use Rattle.aplc_gen.specs.Sparing.{arms_flags}
use Rattle.aplc_gen.proofs.flags.Flags.add_arms.Given as goal

abbrev pub invariant-loop-index : goal.invariant-loop-index
invariant-loop-index l =
    arms_flags (the_routine (site_of l.flow)) l.sure (l.index + 1) (drop l.index (the_routine (site_of l.flow)).steps) l.self
    ≡ arms_flags (the_routine (site_of l.flow)) l.sure 1 (the_routine (site_of l.flow)).steps l.fn.self
