-- The slice gets shorter.
use Rattle.std.proofs.Common.{length}
use Rattle.aplc_infer.proofs.indexes.+joined_rank.Given as goal

abbrev pub decreases-joined_rank : goal.decreases-joined_rank
decreases-joined_rank l = length l.lengths.now
