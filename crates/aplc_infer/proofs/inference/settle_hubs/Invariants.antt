-- The names so far.
use Rattle.aplc_names.specs.PlainPrograms.{routine_of}
use Rattle.aplc_infer.specs.Steps.{Moves, HubsDone}
use Rattle.aplc_infer.proofs.inference.settle_hubs.Given as goal

abbrev pub invariant-loop-k : goal.invariant-loop-k
invariant-loop-k l = Moves l.lookup l.fn.tables l.tables l.rose (HubsDone l.i (routine_of l.lookup l.function) l.k)
