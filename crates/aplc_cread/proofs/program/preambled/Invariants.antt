use Rattle.std.proofs.Common.{length, ◌++◌}
use Rattle.aplc_cread.specs.Leading.{Leads}
use Rattle.aplc_cread.specs.Programs.{Preambled, Tabled, whole_of}
use Rattle.aplc_cread.proofs.program.preambled.Given as goal

abbrev pub invariant-tables : goal.invariant-tables
invariant-tables l = Leads (Preambled l.mode) l.input (λ x. whole_of (l.tables.items ++ x.0, x.1)) (Tabled l.mode l.number) l.rest

abbrev pub decreases-tables : goal.decreases-tables
decreases-tables l = length l.rest
