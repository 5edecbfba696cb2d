-- The slice gets shorter.
use Rattle.std.proofs.Common.{length}
use Rattle.aplc_infer.proofs.shapes.+put_reversed.Given as goal

abbrev pub decreases-put_reversed : goal.decreases-put_reversed
decreases-put_reversed l = length l.xs.now
