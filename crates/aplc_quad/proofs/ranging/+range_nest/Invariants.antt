use Rattle.std.proofs.Common.{length}
use Rattle.aplc_quad.proofs.ranging.+range_nest.Given as goal

abbrev pub decreases-range_nest : goal.decreases-range_nest
decreases-range_nest g l = length l.lengths.now
