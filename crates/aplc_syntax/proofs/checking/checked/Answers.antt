use Rattle.std.proofs.Common.{sym, subst, ap, arith}
use Rattle.aplc_lex.specs.declared.token.Stop.{Stop}
use Rattle.aplc_syntax.specs.Refusals.{RefusesIn}
use Rattle.aplc_syntax.specs.Building.{count_from}
use Rattle.aplc_syntax.proofs.Verdict.{at_deep, at_formless, at_many, at_stray}
use Rattle.aplc_syntax.proofs.checking.checked.Goals as goal

pub returns-in-Some-clause-refused : goal.returns-in-Some-clause-refused
returns-in-Some-clause-refused c = subst (λ (e : Stop). RefusesIn c.args.words.now e) (sym c.nearer.ensures) (at_deep _ _ _ c.in-Some.ensures c.stray-name.ensures)

pub returns-then-count-gt-NODES-clause-refused : goal.returns-then-count-gt-NODES-clause-refused
returns-then-count-gt-NODES-clause-refused c = subst (λ (e : Stop). RefusesIn c.args.words.now e) (sym c.refused.ensures)
    (at_many _ _ c.in-Ok-Some.steps.items c.requires.begins c.in-None.ensures c.requires.near (rw c.in-Ok-Some.field-0-is at c.in-Ok-Some.ensures.found) (omega (arith, c.count.ensures, c.if-count-gt-NODES.true, ap (count_from 0) c.deref.ensures.value)))

pub returns-in-Ok-None-clause-refused : goal.returns-in-Ok-None-clause-refused
returns-in-Ok-None-clause-refused c = subst (λ (e : Stop). RefusesIn c.args.words.now e) (sym c.formless.ensures) (at_formless _ _ _ c.requires.begins c.in-None.ensures c.stray-name.ensures (rw c.in-Ok-None.field-0-is at c.in-Ok-None.ensures.none))

pub returns-in-Some-name-clause-refused : goal.returns-in-Some-name-clause-refused
returns-in-Some-name-clause-refused c = subst (λ (e : Stop). RefusesIn c.args.words.now e) (sym c.refused-in-Some-name.ensures)
    (at_stray _ _ c.in-Ok-Some.steps.items c.in-None.ensures c.in-Some-name.ensures (rw c.in-Ok-Some.field-0-is at c.in-Ok-Some.ensures.found) (omega (arith, c.count.ensures, c.if-count-gt-NODES.false, ap (count_from 0) c.deref.ensures.value)))
