use Rattle.std.proofs.Common.{arith}
use Rattle.aplc_cread.proofs.Rules.{halts_at}
use Rattle.aplc_cread.proofs.Ranges.{ranged_found, ranged_short}
use Rattle.aplc_cread.proofs.range.ended.Goals as goal

pub returns-then-number-low : goal.returns-then-number-low
returns-then-number-low c = halts_at (ranged_short _ _ _ _ _ c.requires.small (omega arith) c.if-number-low.true c.requires.reach c.requires.read c.requires.end)

pub returns : goal.returns
returns c = ranged_found _ _ _ _ _ c.requires.small (omega arith) c.requires.below c.requires.read c.requires.end
