-- The slice gets shorter.
use Rattle.std.proofs.Common.{length}
use Rattle.aplc_infer.proofs.scalars.+all_one.Given as goal

abbrev pub decreases-all_one : goal.decreases-all_one
decreases-all_one l = length l.xs.now
