-- The lines so far.
use Rattle.aplc_names.specs.PlainPrograms.{routine_of}
use Rattle.aplc_infer.specs.Steps.{Moves, LinesDone}
use Rattle.aplc_infer.proofs.inference.settle_lines.Given as goal

abbrev pub invariant-loop-n : goal.invariant-loop-n
invariant-loop-n l = Moves l.lookup l.fn.tables l.tables l.rose (LinesDone l.lookup l.i (routine_of l.lookup l.function) l.n)
