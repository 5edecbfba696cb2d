use Rattle.std.proofs.Common.{◌≡◌, ◌≤◌, drop, max}
use Rattle.aplc_gen.specs.Layouts.{the_routine}
use Rattle.aplc_gen.specs.Emitted.{lines_width}
use Rattle.aplc_gen.specs.Writing.{site_of}
use Rattle.aplc_gen.proofs.widths.lines_width.Given as goal

abbrev pub invariant-loop-index : goal.invariant-loop-index
invariant-loop-index l =
    (max l.most (lines_width (drop l.index (the_routine (site_of l.site)).steps)) ≡ lines_width (the_routine (site_of l.site)).steps)
    × (l.most ≤ 2000)
