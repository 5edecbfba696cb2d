use Rattle.aplc_cprof.proofs.Frames.{given_more}
use Rattle.aplc_stage.specs.Staged.{scope_of_staged}
use Rattle.aplc_stage.proofs.Given.{new_given}
use Rattle.aplc_builder_tests.proofs.staged.make_copy.Goals as goal

pub copy_staged-requires-clause-given : goal.copy_staged-requires-clause-given
copy_staged-requires-clause-given c = c.requires.given c.args.b.now

pub free_staged-requires-clause-given : goal.free_staged-requires-clause-given
free_staged-requires-clause-given c = c.requires.given c.copy_staged.new.b

pub returns-clause-given : goal.returns-clause-given
returns-clause-given c =
    let made = c.in_ok-made.made in
    let kept = c.in_ok-free_staged.ensures.kept in
    given_more (scope_of_staged made) c.copy_staged.new.b c.free_staged.new.b kept.ints kept.bufs (new_given c.args.b.now c.copy_staged.new.b made c.in_ok-made.ensures.computes.fresh)
