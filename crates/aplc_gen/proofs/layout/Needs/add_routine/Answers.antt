use Rattle.std.proofs.Common.{arith, ◌<◌, length, map}
use Rattle.aplc_names.specs.PlainPrograms.{names_of_header}
use Rattle.aplc_core.specs.PlainSteps.{effect_of}
use Rattle.aplc_gen.specs.Layouts.{routine_at}
use Rattle.aplc_gen.specs.Writing.{lowered_core}
use Rattle.aplc_gen.specs.Made.{routine_needs}
use Rattle.aplc_gen.proofs.Laying.{line_needed, low_lines}
use Rattle.aplc_gen.proofs.layout.Needs.add_routine.Goals as goal

pub loop-index-preserved : goal.loop-index-preserved
loop-index-preserved c =
    let f = routine_at (lowered_core c.args.core.now) c.args.function in
    let x = map effect_of c.steps_of.result.now in
    let inside : c.loop-index.index < length f.steps = omega (arith, c.loop-index-test.true, c.line_count-index-end.ensures.lines) in (
      line_needed f.header.scope f.steps c.loop-index.index x c.loop-index.self c.add_steps.new.self (routine_needs f c.args.self.now) inside c.steps_of.ensures c.in_ok-add_steps.ensures c.loop-index.invariant.0,
      low_lines f.header.scope (names_of_header f.header) f.steps c.loop-index.index x inside c.steps_of.ensures c.loop-index.invariant.1,
    )
