-- The slice gets shorter.
use Rattle.std.proofs.Common.{length}
use Rattle.aplc_infer.proofs.scalars.+all_known.Given as goal

abbrev pub decreases-all_known : goal.decreases-all_known
decreases-all_known l = length l.xs.now
