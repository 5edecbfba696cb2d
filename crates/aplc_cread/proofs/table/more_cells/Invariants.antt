use Rattle.std.proofs.Common.{◌++◌}
use Rattle.aplc_cread.specs.Reading.{Map}
use Rattle.aplc_cread.specs.Leading.{Leads}
use Rattle.aplc_cread.specs.Tables.{MoreCells}
use Rattle.aplc_cread.proofs.table.more_cells.Given as goal

abbrev pub invariant-cells : goal.invariant-cells
invariant-cells l = Leads (Map (λ xs. l.fn.before.items ++ xs) (MoreCells l.count)) l.input (λ xs. l.cells.items ++ xs) (MoreCells l.left) l.rest

abbrev pub decreases-cells : goal.decreases-cells
decreases-cells l = l.left
