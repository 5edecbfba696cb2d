use Rattle.std.proofs.Common.{length}
use Rattle.aplc_quad.proofs.planes.+nest_code.Given as goal

abbrev pub decreases-nest_code : goal.decreases-nest_code
decreases-nest_code g l = length l.lengths.now
