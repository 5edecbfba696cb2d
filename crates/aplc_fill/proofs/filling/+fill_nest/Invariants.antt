use Rattle.std.proofs.Common.{length}
use Rattle.aplc_fill.proofs.filling.+fill_nest.Given as goal

abbrev pub decreases-fill_nest : goal.decreases-fill_nest
decreases-fill_nest g l = length l.lengths.now
