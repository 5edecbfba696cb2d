-- The entries behind number left wait.
use Rattle.aplc_core.proofs.Walked.{WalkedFrom}
use Rattle.aplc_core.proofs.walk.+trees.Given as goal

abbrev pub invariant-walk_entries-loop-left : goal.invariant-walk_entries-loop-left
invariant-walk_entries-loop-left l = WalkedFrom l.entries l.fn.line l.left l.line

abbrev pub decreases-walk_entries-loop-left : goal.decreases-walk_entries-loop-left
decreases-walk_entries-loop-left l = l.left
