use Rattle.std.proofs.Common.{◌≡◌, drop}
use Rattle.aplc_gen.specs.Layouts.{the_routine}
use Rattle.aplc_gen.specs.Laid.{lines_fall}
use Rattle.aplc_gen.specs.Writing.{site_of}
use Rattle.aplc_gen.specs.Sparing.{rank_in}
use Rattle.aplc_gen.proofs.ranks.lines_fall.Given as goal

abbrev pub invariant-loop-index : goal.invariant-loop-index
invariant-loop-index l =
    lines_fall (rank_in l.ranks) l.site.number (the_routine (site_of l.site)) (drop l.index (the_routine (site_of l.site)).steps)
    ≡ lines_fall (rank_in l.ranks) l.site.number (the_routine (site_of l.site)) (the_routine (site_of l.site)).steps
