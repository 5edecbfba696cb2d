use Rattle.std.proofs.Common.{subst, sym, ◌+◌, length}
use Rattle.std.proofs.lemmas.Result.{on_ok_weaker}
use Rattle.aplc_cprof.specs.Frames.{AreGiven}
use Rattle.aplc_cprof.proofs.Frames.{are_old_more}
use Rattle.aplc_cprof.proofs.Kept.{kept_trans}
use Rattle.aplc_collect.specs.Elements.{one_step}
use Rattle.aplc_step.specs.declared.stepper.Origin.{Origin}
use Rattle.aplc_step.specs.Steppers.{stepper_test, stepper_scope}
use Rattle.aplc_quad.specs.Shows.{Shows}
use Rattle.aplc_stage.specs.declared.staged.Staged.TheVariants as staged
use Rattle.aplc_stage.proofs.Elements.{given_names, older}
use Rattle.aplc_stage.proofs.Chains.{stepper_given}
use Rattle.aplc_stage.proofs.Displayed.{cells_displays}
use Rattle.aplc_stage.proofs.showing.show_cells.Goals as goal

pub over-requires : goal.over-requires
over-requires c = record { lengths = (given_names (staged.Cells c.args.from c.args.lengths.now) c.args.b.now c.requires.given).1 }

pub show_code-requires-clause-given : goal.show_code-requires-clause-given
show_code-requires-clause-given c =
    let x = staged.Cells c.args.from c.args.lengths.now in
    let code = c.in_ok-code.code in
    let made = c.in_ok-code.ensures.ok.2 in
    let kept = c.in_ok-code.ensures.kept in
    subst (λ (o : Origin). AreGiven (stepper_scope o code.base code.strides) c.over.new.b) (sym c.in_ok-code.ensures.ok.0)
    (stepper_given c.args.from code.base code.strides c.over.new.b (older c.args.b.now c.over.new.b x kept.ints kept.bufs (given_names x c.args.b.now c.requires.given)).0 made.base_given made.strides_given)

pub show_code-requires-clause-lengths : goal.show_code-requires-clause-lengths
show_code-requires-clause-lengths c =
    are_old_more c.args.b.now.ints c.over.new.b.ints c.args.lengths.now c.in_ok-code.ensures.kept.ints (given_names (staged.Cells c.args.from c.args.lengths.now) c.args.b.now c.requires.given).1

pub returns-clause-shows : goal.returns-clause-shows
returns-clause-shows c =
    let code = c.in_ok-code.code in
    let b1 = c.over.new.b in
    let b2 = c.show_code.new.b in
    on_ok_weaker c.show_code.result
    (λ sh. cells_displays c.args.from c.args.lengths.now code.strides code.base c.args.b.now b1 b2 c.args.kind c.requires.given c.in_ok-code.ensures.ok.2
    (subst (λ (o : Origin). Shows (stepper_test o code.base code.strides) one_step (stepper_scope o code.base code.strides) (2 + length code.strides) b1 b2 c.args.kind c.args.lengths.now) c.in_ok-code.ensures.ok.0 sh))
    c.show_code.ensures.shows

pub returns-clause-kept : goal.returns-clause-kept
returns-clause-kept c = kept_trans c.args.b.now c.over.new.b c.show_code.new.b c.in_ok-code.ensures.kept c.show_code.ensures.kept
