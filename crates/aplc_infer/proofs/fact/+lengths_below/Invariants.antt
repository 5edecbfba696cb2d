-- The slice gets shorter.
use Rattle.std.proofs.Common.{length}
use Rattle.aplc_infer.proofs.fact.+lengths_below.Given as goal

abbrev pub decreases-lengths_below : goal.decreases-lengths_below
decreases-lengths_below l = length l.xs.now
