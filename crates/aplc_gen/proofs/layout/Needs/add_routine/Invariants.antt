use Rattle.std.proofs.Common.{◌≡◌, drop, true}
use Rattle.aplc_names.specs.PlainPrograms.{names_of_header}
use Rattle.aplc_gen.specs.Layouts.{routine_at}
use Rattle.aplc_gen.specs.Writing.{lowered_core}
use Rattle.aplc_gen.specs.Made.{lines_need, routine_needs, are_low_lines}
use Rattle.aplc_gen.proofs.layout.Needs.add_routine.Given as goal

abbrev pub invariant-loop-index : goal.invariant-loop-index
invariant-loop-index l =
    (lines_need (routine_at (lowered_core l.core) l.function).header.scope (drop l.index (routine_at (lowered_core l.core) l.function).steps) l.self ≡ routine_needs (routine_at (lowered_core l.core) l.function) l.fn.self)
    × (are_low_lines (routine_at (lowered_core l.core) l.function).header.scope (names_of_header (routine_at (lowered_core l.core) l.function).header) (drop l.index (routine_at (lowered_core l.core) l.function).steps) ≡ true)
