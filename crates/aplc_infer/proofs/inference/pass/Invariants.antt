-- The functions so far.
use Rattle.aplc_infer.specs.Steps.{Moves, FunctionsDone}
use Rattle.aplc_infer.proofs.inference.pass.Given as goal

abbrev pub invariant-loop-i : goal.invariant-loop-i
invariant-loop-i l = Moves l.lookup l.fn.tables l.tables l.rose (FunctionsDone l.lookup l.i)
