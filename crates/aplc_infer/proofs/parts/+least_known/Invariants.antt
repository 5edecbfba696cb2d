-- The slice gets shorter.
use Rattle.std.proofs.Common.{length}
use Rattle.aplc_infer.proofs.parts.+least_known.Given as goal

abbrev pub decreases-least_known : goal.decreases-least_known
decreases-least_known l = length l.entries.now
