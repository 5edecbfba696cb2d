use Rattle.std.proofs.Common.{rules, arith, ap, ◌∙◌, ◌≡◌, ◌<◌, ◌≤◌, length}
use Rattle.aplc_gen.specs.Layouts.{routine_at}
use Rattle.aplc_gen.specs.Writing.{lowered_core}
use Rattle.aplc_gen.specs.Made.{frame_made}
use Rattle.aplc_gen.proofs.Laying.{slots_here, one_laid, short_lists}
use Rattle.aplc_gen.proofs.layout.layout.Goals as goal

pub frame-requires-clause-slots : goal.frame-requires-clause-slots
frame-requires-clause-slots c =
    let core = c.args.core.now in
    let lt : c.loop-function.function < length core.program.functions = search rules in
    let slots : c.needs.inside.slots ≡ c.add_routine.new.self.slots = search rules in
    let few = slots_here core c.loop-function.function c.loop-function.frames.items c.loop-function.needs c.add_routine.new.self c.loop-function.invariant lt c.in_ok-add_routine.ensures in
    omega (arith, slots, few)

pub loop-function-preserved : goal.loop-function-preserved
loop-function-preserved c =
    let core = c.args.core.now in
    let lt : c.loop-function.function < length core.program.functions = search rules in
    let slots : c.needs.inside.slots ≡ c.add_routine.new.self.slots = search rules in
    one_laid core c.loop-function.function c.loop-function.frames.items c.push.new.self.items c.loop-function.needs c.add_routine.new.self c.in_ok-frame.field-0 c.loop-function.invariant lt c.in_ok-add_routine.ensures
    (c.in_ok-frame.ensures ∙ ap (frame_made (routine_at (lowered_core core) c.loop-function.function)) slots)
    c.in_ok-push.ensures.items

pub layout-requires : goal.layout-requires
layout-requires c =
    let core = c.args.core.now in
    let le : length core.program.functions ≤ c.loop-function.function = search rules in
    record { short = short_lists core c.loop-function.function c.loop-function.frames.items c.loop-function.needs c.requires.sound c.requires.modest c.loop-function.invariant le }
