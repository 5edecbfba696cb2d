-- The names so far have gone.
use Rattle.aplc_names.specs.PlainPrograms.{routine_of}
use Rattle.aplc_infer.specs.Steps.{HaveGone}
use Rattle.aplc_infer.proofs.flowing.flow_out.Given as goal

abbrev pub invariant-loop-k : goal.invariant-loop-k
invariant-loop-k l = HaveGone l.lookup l.k l.flow l.i (routine_of l.lookup l.function) l.l l.names l.fn.tables l.tables l.rose
