use Rattle.std.proofs.Common.{◌+◌, ◌≤◌}
use Rattle.aplc_gen.specs.Layouts.{the_routine, base}
use Rattle.aplc_gen.specs.Emitted.{lines_width}
use Rattle.aplc_gen.specs.Writing.{site_of}
use Rattle.aplc_gen.proofs.Arms.{ArmsLeft}
use Rattle.aplc_gen.proofs.segments.all_arms.Given as goal

-- the arms so far, with those of the lines left, are the whole
abbrev pub invariant-loop-index : goal.invariant-loop-index
invariant-loop-index l =
    ArmsLeft (site_of l.flow) l.fn.b l.index l.arms l.b
    × (base (site_of l.flow) + lines_width (the_routine (site_of l.flow)).steps ≤ l.b.ints)
