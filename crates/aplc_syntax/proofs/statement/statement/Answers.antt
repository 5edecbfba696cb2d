use Rattle.std.proofs.Common.{List, subst, sym, ap, ◌∙◌}
use Rattle.aplc_syntax.specs.declared.step.Step.{Step}
use Rattle.aplc_syntax.specs.Building.{build, StepsIn}
use Rattle.aplc_syntax.proofs.Stated.{near_first, stand, states, never_none}
use Rattle.aplc_syntax.proofs.statement.statement.Goals as goal

pub checked-requires-clause-near : goal.checked-requires-clause-near
checked-requires-clause-near c = near_first c.args.text.now c.args.words.now _ c.requires.laid

pub build-requires-clause-stand : goal.build-requires-clause-stand
build-requires-clause-stand c = subst (λ (xs : List Step). StepsIn c.args.text.now xs) (sym c.deref.ensures.value) (stand _ _ _ c.requires.laid c.in-Ok.ensures.checked)

pub unreachable-requires : goal.unreachable-requires
unreachable-requires c = never_none c.args.text.now _ c.in-Ok.steps.items c.in-Ok.ensures.checked
    (sym c.in-Ok-None.field-0-is ∙ c.in-Ok-None.ensures ∙ ap (build c.args.text.now) c.deref.ensures.value)

pub returns-clause-statement : goal.returns-clause-statement
returns-clause-statement c = states c.args.text.now _ c.in-Ok.steps.items _ c.in-Ok.ensures.checked
    (sym c.in-Ok-Some.field-0-is ∙ c.in-Ok-Some.ensures ∙ ap (build c.args.text.now) c.deref.ensures.value)
