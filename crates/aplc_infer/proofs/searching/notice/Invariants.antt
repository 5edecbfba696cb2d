-- What meets the rules is still above.
use Rattle.aplc_infer.specs.Steps.{Keeps}
use Rattle.aplc_infer.proofs.searching.notice.Given as goal

abbrev pub invariant-loop : goal.invariant-loop
invariant-loop l = Keeps l.lookup l.fn.tables l.tables
