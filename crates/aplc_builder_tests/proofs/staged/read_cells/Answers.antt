use Rattle.std.proofs.Common.{List, subst, sym, ◌∙◌}
use Rattle.aplc_cprof.specs.declared.syntax.Int.{Int}
use Rattle.aplc_cprof.specs.Frames.{AreGiven}
use Rattle.aplc_cprof.specs.Emitted.{joint}
use Rattle.aplc_collect.specs.Elements.{scope_of_buf}
use Rattle.aplc_step.specs.declared.stepper.Origin.TheVariants as origin
use Rattle.aplc_step.specs.Steppers.{scope_of_all}
use Rattle.aplc_stage.proofs.Chains.{both_given, all_given, origin_given}
use Rattle.aplc_builder_tests.proofs.staged.read_cells.Goals as goal

pub returns-clause-given : goal.returns-clause-given
returns-clause-given c =
    λ d. subst (λ (l : List Int). AreGiven (joint (scope_of_buf c.args.cells) (scope_of_all l)) d) (sym (c.from_vec.ensures ∙ c.in_ok-lengths.ensures.items))
    (both_given (scope_of_buf c.args.cells) (scope_of_all c.args.lengths.now) d (origin_given (origin.Buffer c.args.cells) d (c.requires.buffer d.bufs)) (all_given c.args.lengths.now d (c.requires.lengths d.ints)))
