-- The entries behind number left are seen.
use Rattle.aplc_infer.specs.Lookups.{context_at}
use Rattle.aplc_infer.specs.Tables.{family_of}
use Rattle.aplc_infer.proofs.Entries.{SeenFrom}
use Rattle.aplc_infer.proofs.seeing.+trees.Given as goal

abbrev pub invariant-see_entries-loop-left : goal.invariant-see_entries-loop-left
invariant-see_entries-loop-left l = SeenFrom (context_at l.lookup l.function) (family_of l.tables) l.entries l.fn.walk l.left l.facts.items l.walk

abbrev pub decreases-see_entries-loop-left : goal.decreases-see_entries-loop-left
decreases-see_entries-loop-left l = l.left
