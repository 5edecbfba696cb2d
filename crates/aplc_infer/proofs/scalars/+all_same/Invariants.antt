-- The slice gets shorter.
use Rattle.std.proofs.Common.{length}
use Rattle.aplc_infer.proofs.scalars.+all_same.Given as goal

abbrev pub decreases-all_same : goal.decreases-all_same
decreases-all_same l = length l.xs.now
