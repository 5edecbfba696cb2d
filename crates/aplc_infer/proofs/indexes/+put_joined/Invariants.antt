-- The slice gets shorter.
use Rattle.std.proofs.Common.{length}
use Rattle.aplc_infer.proofs.indexes.+put_joined.Given as goal

abbrev pub decreases-put_joined : goal.decreases-put_joined
decreases-put_joined l = length l.lengths.now
