-- The slice gets shorter.
use Rattle.std.proofs.Common.{length}
use Rattle.aplc_infer.proofs.joins.+put_beside_scalar.Given as goal

abbrev pub decreases-put_beside_scalar : goal.decreases-put_beside_scalar
decreases-put_beside_scalar l = length l.xs.now
