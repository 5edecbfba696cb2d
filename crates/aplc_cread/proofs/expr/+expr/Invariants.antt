use Rattle.std.proofs.Common.{◌+◌, ◌*◌, length}
use Rattle.aplc_cread.proofs.expr.+expr.Given as goal

abbrev pub decreases-expr : goal.decreases-expr
decreases-expr l = 3 * length l.input.now

abbrev pub decreases-expr_then : goal.decreases-expr_then
decreases-expr_then l = 3 * length l.input.now + 1

abbrev pub decreases-indexed : goal.decreases-indexed
decreases-indexed l = 3 * length l.input.now + 2

abbrev pub decreases-operation : goal.decreases-operation
decreases-operation l = 3 * length l.input.now + 2
