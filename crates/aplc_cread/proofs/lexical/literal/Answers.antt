use Rattle.aplc_cread.proofs.Rules.{halts_at}
use Rattle.aplc_cread.proofs.Literals.{common_next, common_all, common_ends, common_differs}
use Rattle.aplc_cread.proofs.lexical.literal.Goals as goal

pub returns-then-c-d : goal.returns-then-c-d
returns-then-c-d c = halts_at (common_differs c.loop-c.invariant c.in-Some.ensures c.in-Some-split.ensures c.if-c-d.true)

pub loop-c-preserved : goal.loop-c-preserved
loop-c-preserved c = common_next c.loop-c.invariant c.in-Some.ensures c.in-Some-split.ensures c.if-c-d.false

pub returns : goal.returns
returns c = common_all c.loop-c.invariant c.in_default.ensures

pub returns-in-None : goal.returns-in-None
returns-in-None c = halts_at (common_ends c.loop-c.invariant c.in-Some.ensures c.in-None.ensures)
