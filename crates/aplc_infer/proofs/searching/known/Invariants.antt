-- The names so far lie below those at the start of the line.
use Rattle.aplc_infer.specs.Lookups.{routine_at}
use Rattle.aplc_infer.specs.Families.{at_start}
use Rattle.aplc_infer.specs.Tables.{family_of}
use Rattle.aplc_infer.specs.Steps.{AreBelow}
use Rattle.aplc_infer.proofs.searching.known.Given as goal

abbrev pub invariant-loop-k : goal.invariant-loop-k
invariant-loop-k l = AreBelow l.names (at_start (family_of l.tables) l.i (routine_at l.lookup l.i) l.l)
