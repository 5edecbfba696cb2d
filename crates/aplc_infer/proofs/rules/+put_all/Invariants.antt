-- The slice gets shorter.
use Rattle.std.proofs.Common.{length}
use Rattle.aplc_infer.proofs.rules.+put_all.Given as goal

abbrev pub decreases-put_all : goal.decreases-put_all
decreases-put_all l = length l.xs.now
