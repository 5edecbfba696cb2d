use Rattle.std.proofs.Common.{◌+◌, ◌*◌}
use Rattle.aplc_cread.proofs.name.+name.Given as goal

abbrev pub decreases-more : goal.decreases-more
decreases-more l = 2 * l.left + 1

abbrev pub decreases-marked : goal.decreases-marked
decreases-marked l = 2 * l.left
