use Rattle.aplc_cprof.specs.declared.syntax.Int.TheVariants as int
use Rattle.aplc_cprof.proofs.Frames.{given_more}
use Rattle.aplc_stage.proofs.Chains.{both_given, old_given}
use Rattle.aplc_builder_tests.proofs.fills.fill_elements.Goals as goal

pub fill-requires-clause-given : goal.fill-requires-clause-given
fill-requires-clause-given c =
    let b = c.in_ok-right.ensures.kept in
    both_given _ _ _ (given_more _ _ _ b.ints b.bufs c.in_ok-left.ensures.given)
    (both_given _ _ _ (old_given (int.Global 0) _ tt) c.in_ok-right.ensures.given)
