use Rattle.std.proofs.Common.{◌+◌, ◌≤◌, drop, false}
use Rattle.aplc_cprof.specs.Blocks.{Blocks}
use Rattle.aplc_gen.specs.Layouts.{the_routine, base}
use Rattle.aplc_gen.specs.Emitted.{lines_width}
use Rattle.aplc_gen.specs.Added.{AddsLines}
use Rattle.aplc_gen.specs.Writing.{site_of}
use Rattle.aplc_gen.proofs.segments.emit_lines.Given as goal

-- what was added so far, with what will be for the lines left, is what is to be added
abbrev pub invariant-loop-index : goal.invariant-loop-index
invariant-loop-index l =
    ((new : Blocks) → AddsLines (site_of l.flow) l.known l.through (l.index + 1) (drop l.index (the_routine (site_of l.flow)).steps) l.b new → AddsLines (site_of l.flow) l.fn.known false (l.fn.from + 1) (drop l.fn.from (the_routine (site_of l.flow)).steps) l.fn.b new)
    × (base (site_of l.flow) + lines_width (the_routine (site_of l.flow)).steps ≤ l.b.ints)
