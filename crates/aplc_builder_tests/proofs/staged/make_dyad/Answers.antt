use Rattle.aplc_cprof.proofs.Frames.{given_more}
use Rattle.aplc_cprof.proofs.Kept.{kept_trans}
use Rattle.aplc_stage.specs.Staged.{scope_of_staged}
use Rattle.aplc_stage.proofs.Chains.{both_given}
use Rattle.aplc_stage.proofs.Given.{new_given}
use Rattle.aplc_builder_tests.proofs.staged.make_dyad.Goals as goal

pub held_dyad-requires-clause-given : goal.held_dyad-requires-clause-given
held_dyad-requires-clause-given c =
    let b = c.args.b.now in
    both_given (scope_of_staged c.args.left.now) (scope_of_staged c.args.right.now) b (c.requires.given_left b) (c.requires.given_right b)

pub free_staged-requires-clause-given : goal.free_staged-requires-clause-given
free_staged-requires-clause-given c = c.requires.given_left c.held_dyad.new.b

pub free_staged-requires-2-clause-given : goal.free_staged-requires-2-clause-given
free_staged-requires-2-clause-given c = c.requires.given_right c.free_staged.new.b

pub returns-clause-given : goal.returns-clause-given
returns-clause-given c =
    let made = c.in_ok-made.made in
    let b1 = c.held_dyad.new.b in
    let b3 = c.free_staged-2.new.b in
    let kept = kept_trans b1 c.free_staged.new.b b3 c.in_ok-free_staged.ensures.kept c.in_ok-free_staged-2.ensures.kept in
    given_more (scope_of_staged made) b1 b3 kept.ints kept.bufs (new_given c.args.b.now b1 made c.in_ok-made.ensures.computes.fresh)
