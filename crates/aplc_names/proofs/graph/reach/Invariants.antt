use Rattle.std.proofs.Common.{◌+◌, length}
use Rattle.aplc_names.specs.Graphs.{unmarked}
use Rattle.aplc_names.proofs.Reached.{Reaching}
use Rattle.aplc_names.proofs.graph.reach.Given as goal

abbrev pub invariant-waiting : goal.invariant-waiting
invariant-waiting l = Reaching l.graph l.from l.marks.items l.todo.items

-- what waits, and what may still come to wait
abbrev pub decreases-waiting : goal.decreases-waiting
decreases-waiting l = unmarked l.marks.items + length l.todo.items
