-- The changes so far have gone.
use Rattle.aplc_names.specs.PlainPrograms.{routine_of}
use Rattle.aplc_infer.specs.Steps.{Spreads}
use Rattle.aplc_infer.proofs.searching.spread.Given as goal

abbrev pub invariant-loop-n : goal.invariant-loop-n
invariant-loop-n l = Spreads l.lookup l.flow l.i (routine_of l.lookup l.function) l.l l.names l.fn.tables l.tables l.rose
