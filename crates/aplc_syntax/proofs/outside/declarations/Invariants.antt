use Rattle.std.proofs.Common.{map, drop}
use Rattle.aplc_syntax.specs.Held.{row_of}
use Rattle.aplc_syntax.specs.Causes.{CoversRows}
use Rattle.aplc_syntax.proofs.outside.declarations.Given as goal

abbrev pub invariant-loop-row : goal.invariant-loop-row
invariant-loop-row l = CoversRows l.names (map row_of l.rows) (map row_of (drop l.row-index l.rows)) l.declared.first l.declared.origin l.declared.vars.items
