use Rattle.std.proofs.Common.{arith, subst}
use Rattle.aplc_lex.specs.Firsts.{IsFirstOf}
use Rattle.aplc_names.specs.Firsts.{Somewhere}
use Rattle.aplc_names.specs.Clashes.{IsAgain}
use Rattle.aplc_names.proofs.Minima.{none_yet, again_more, all_of}
use Rattle.aplc_names.proofs.clashes.again.Goals as goal

pub loop-i-init : goal.loop-i-init
loop-i-init c = none_yet (IsAgain c.names-x-items.result.now) c.names-x-items.result.now

pub loop-i-preserved : goal.loop-i-preserved
loop-i-preserved c = again_more c.args.table.now c.names-x-items.result.now c.loop-i.i _ c.is_again-test.result c.loop-i.best c.refused_if-one.result c.earlier-best.result c.names-x-items.ensures (omega arith) c.is_again-test.ensures c.refused_if-one.ensures c.earlier-best.ensures c.loop-i.invariant

pub returns : goal.returns
returns c = subst (λ xs. IsFirstOf (Somewhere (IsAgain xs) xs) c.loop-i.best) c.names-x-items.ensures (all_of (IsAgain c.names-x-items.result.now) c.names-x-items.result.now c.loop-i.i c.loop-i.best (omega arith) c.loop-i.invariant)
