use Rattle.std.proofs.Common.{◌+◌, ◌*◌, ◌++◌, length}
use Rattle.aplc_cread.specs.Exprs.{scope}
use Rattle.aplc_cread.specs.Reading.{Map}
use Rattle.aplc_cread.specs.Leading.{Leads}
use Rattle.aplc_cread.specs.Stmts.{Block, GrownArms}
use Rattle.aplc_cread.proofs.block.+stmts.Given as goal

abbrev pub decreases-block : goal.decreases-block
decreases-block l = 6 * length l.input.now + 1

abbrev pub decreases-statements : goal.decreases-statements
decreases-statements l = 6 * length l.input.now

abbrev pub decreases-block_then : goal.decreases-block_then
decreases-block_then l = 6 * length l.input.now + 2

abbrev pub decreases-condition : goal.decreases-condition
decreases-condition l = 6 * length l.input.now + 4

abbrev pub decreases-repetition : goal.decreases-repetition
decreases-repetition l = 6 * length l.input.now + 4

abbrev pub decreases-statement : goal.decreases-statement
decreases-statement l = 6 * length l.input.now + 5

abbrev pub decreases-arms : goal.decreases-arms
decreases-arms l = 6 * length l.input.now + 3

abbrev pub decreases-selection : goal.decreases-selection
decreases-selection l = 6 * length l.input.now + 4

abbrev pub invariant-arms-arms : goal.invariant-arms-arms
invariant-arms-arms l = GrownArms (scope l.names) l.fn.room l.input l.arms.items l.low l.rest

abbrev pub decreases-arms-arms : goal.decreases-arms-arms
decreases-arms-arms l = length l.rest

abbrev pub invariant-statements-lines : goal.invariant-statements-lines
invariant-statements-lines l = Leads (Map (λ ss. l.fn.before.items ++ ss) (Block (scope l.names) l.room)) l.input (λ ss. l.body.items ++ ss) (Block (scope l.names) l.room) l.rest

abbrev pub decreases-statements-lines : goal.decreases-statements-lines
decreases-statements-lines l = length l.rest
