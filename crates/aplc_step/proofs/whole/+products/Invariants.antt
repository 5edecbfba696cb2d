use Rattle.std.proofs.Common.{length}
use Rattle.aplc_step.proofs.whole.+products.Given as goal

abbrev pub decreases-products : goal.decreases-products
decreases-products l = length l.lengths.now
