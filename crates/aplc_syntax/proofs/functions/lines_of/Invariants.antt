use Rattle.std.proofs.Common.{drop}
use Rattle.aplc_syntax.specs.Causes.{Covers}
use Rattle.aplc_syntax.specs.Noted.{headers_of, LineStands, LineIs}
use Rattle.aplc_syntax.proofs.functions.lines_of.Given as goal

abbrev pub invariant-loop-row : goal.invariant-loop-row
invariant-loop-row l = Covers (LineStands (headers_of l.known.headers.items)) (LineIs l.text (headers_of l.known.headers.items)) l.rows (drop l.row-index l.rows) l.body.first l.body.lines.items
