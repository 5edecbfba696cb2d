use Rattle.std.proofs.Common.{subst, sym}
use Rattle.aplc_cprof.specs.Frames.{AreGiven}
use Rattle.aplc_step.specs.declared.stepper.Origin.TheVariants as origin
use Rattle.aplc_step.specs.Steppers.{stepper_scope}
use Rattle.aplc_stage.proofs.Chains.{stepper_given}
use Rattle.aplc_builder_tests.proofs.arrays.stepper.Goals as goal

pub returns-clause-given : goal.returns-clause-given
returns-clause-given c =
    let x = c.in_ok-x.x in
    let made = c.in_ok-x.ensures.ok.2 in
    let b = c.of_buffer.new.b in
    subst (λ o. AreGiven (stepper_scope o x.base x.strides) b) (sym c.in_ok-x.ensures.ok.0)
    (stepper_given (origin.Buffer c.args.from) x.base x.strides b (c.requires.buffer b.bufs) made.base_given made.strides_given)

pub of_buffer-requires : goal.of_buffer-requires
of_buffer-requires c = record { lengths = c.requires.lengths c.args.b.now.ints }
