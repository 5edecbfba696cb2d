-- What meets the rules is still above.
use Rattle.aplc_infer.specs.Steps.{Keeps}
use Rattle.aplc_infer.proofs.searching.pass_all.Given as goal

abbrev pub invariant-loop-n : goal.invariant-loop-n
invariant-loop-n l = Keeps l.lookup l.fn.tables l.tables
