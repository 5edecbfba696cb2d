-- The slice gets shorter.
use Rattle.std.proofs.Common.{length}
use Rattle.aplc_infer.proofs.fact.+put_joins.Given as goal

abbrev pub decreases-put_joins : goal.decreases-put_joins
decreases-put_joins l = length l.xs.now
