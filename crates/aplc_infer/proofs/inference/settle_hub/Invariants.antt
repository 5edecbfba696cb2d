-- The name has gone to the lines so far.
use Rattle.aplc_names.specs.PlainPrograms.{routine_of}
use Rattle.aplc_infer.specs.Steps.{Moves, HubDone}
use Rattle.aplc_infer.proofs.inference.settle_hub.Given as goal

abbrev pub invariant-loop-m : goal.invariant-loop-m
invariant-loop-m l = Moves l.lookup l.fn.tables l.tables l.rose (HubDone l.i (routine_of l.lookup l.function) l.m l.k)
