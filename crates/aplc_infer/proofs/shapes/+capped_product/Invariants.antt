-- The slice gets shorter.
use Rattle.std.proofs.Common.{length}
use Rattle.aplc_infer.proofs.shapes.+capped_product.Given as goal

abbrev pub decreases-capped_product : goal.decreases-capped_product
decreases-capped_product l = length l.xs.now
