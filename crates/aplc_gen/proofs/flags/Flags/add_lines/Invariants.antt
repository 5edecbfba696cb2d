use Rattle.std.proofs.Common.{◌≡◌, ◌+◌, drop, false}
use Rattle.aplc_gen.specs.Layouts.{the_routine}
use Rattle.aplc_gen.specs.Laid.{known_at_end}
use Rattle.aplc_gen.specs.Writing.{site_of}
use Rattle.aplc_gen.specs.Sparing.{lines_flags}
use Rattle.aplc_gen.proofs.flags.Flags.add_lines.Given as goal

-- the flags so far, with those of the lines left, are the whole
abbrev pub invariant-loop-index : goal.invariant-loop-index
invariant-loop-index l =
    (lines_flags (the_routine (site_of l.flow)) l.known l.through (l.index + 1) (drop l.index (the_routine (site_of l.flow)).steps) l.self
    ≡ lines_flags (the_routine (site_of l.flow)) l.fn.known false (l.fn.from + 1) (drop l.fn.from (the_routine (site_of l.flow)).steps) l.fn.self)
    × (known_at_end (site_of l.flow) l.known l.through (l.index + 1) (drop l.index (the_routine (site_of l.flow)).steps)
    ≡ known_at_end (site_of l.flow) l.fn.known false (l.fn.from + 1) (drop l.fn.from (the_routine (site_of l.flow)).steps))
