-- What is taken, with what is left to take, is the list.
use Rattle.aplc_core.proofs.Listing.{Listing}
use Rattle.aplc_core.proofs.lowering.Lowering.last_list.Given as goal

abbrev pub invariant-loop-entry : goal.invariant-loop-entry
invariant-loop-entry l = Listing l.entries l.fn.self l.entry-index l.list.items l.self
