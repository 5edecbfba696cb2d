use Rattle.std.proofs.Common.{◌-◌}
use Rattle.aplc_cread.proofs.range.+reaches.Given as goal

abbrev pub decreases-reaches : goal.decreases-reaches
decreases-reaches l = l.low - l.b
