-- The slice gets shorter.
use Rattle.std.proofs.Common.{length}
use Rattle.aplc_infer.proofs.joins.+put_beside.Given as goal

abbrev pub decreases-put_beside : goal.decreases-put_beside
decreases-put_beside l = length l.xs.now
