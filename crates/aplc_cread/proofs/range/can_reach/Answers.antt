use Rattle.std.proofs.Common.{arith, subst, sym}
use Rattle.aplc_cread.specs.Ranges.{Reach}
use Rattle.aplc_cread.proofs.Ranges.{zero_reach, zero_alone}
use Rattle.aplc_cread.proofs.range.can_reach.Goals as goal

pub returns-then-low-eq0 : goal.returns-then-low-eq0
returns-then-low-eq0 c = subst (λ n. Reach c.args.low c.args.bound n) (sym c.if-n-eq0.true) (zero_reach _ _ c.if-low-eq0.true c.requires.some)

pub returns-then-n-eq0 : goal.returns-then-n-eq0
returns-then-n-eq0 c r = zero_alone _ _ c.requires.small (omega (arith, c.if-low-eq0.false)) (subst (λ n. Reach c.args.low c.args.bound n) c.if-n-eq0.true r)
