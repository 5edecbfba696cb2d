-- The steps of all functions are those of lowering, and the facts are copied.
use Rattle.std.proofs.Common.{◌∙◌, ap, sym, subst, map, List, Option}
use Rattle.aplc_syntax.specs.declared.tree.Program.{Program}
use Rattle.aplc_infer.specs.declared.facts.Fact.{Fact}
use Rattle.aplc_infer.specs.Shown.{IsInferred}
use Rattle.aplc_core.specs.CorePrograms.{lowered_function}
use Rattle.aplc_core.proofs.Programs.{program_lowered}
use Rattle.aplc_core.proofs.program.lower.Goals as goal

pub invariant_of-result : goal.invariant_of-result
invariant_of-result c = record {
  typed = c.requires.typed;
  inferred = subst (λ (fs : List (Option Fact)). IsInferred c.args.bound fs) (sym c.in_ok-facts.ensures) c.requires.inferred;
  steps_are =
      c.in_ok-steps.ensures
      ∙ ap (map lowered_function) (c.as_slice.ensures ∙ ap (λ (p : Program). p.functions) c.program.ensures.program)
      ∙ sym (program_lowered c.args.bound);
}
