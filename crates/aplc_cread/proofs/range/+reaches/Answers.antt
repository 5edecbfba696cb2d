use Rattle.std.proofs.Common.{arith}
use Rattle.aplc_cread.proofs.Ranges.{no_reach, row_reach, row_next}
use Rattle.aplc_cread.proofs.range.+reaches.Goals as goal

pub returns-then-a-from : goal.returns-then-a-from
returns-then-a-from t c = no_reach _ _ _ _ _ c.requires.small (omega arith) c.requires.row (omega arith)

pub returns-then-b-from : goal.returns-then-b-from
returns-then-b-from t c = row_reach _ _ _ _ _ c.requires.small c.requires.positive c.requires.some c.requires.row (omega arith) (omega arith)

pub reaches-requires : goal.reaches-requires
reaches-requires t c = (omega arith, (c.requires.some, (c.requires.small, (c.requires.positive, row_next _ _ _ _ c.requires.row (omega arith)))))
