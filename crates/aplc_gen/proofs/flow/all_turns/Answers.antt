use Rattle.std.proofs.Common.{arith, ◌<◌, length, map}
use Rattle.aplc_core.specs.PlainSteps.{effect_of}
use Rattle.aplc_gen.specs.Layouts.{the_routine}
use Rattle.aplc_gen.specs.Writing.{site_of}
use Rattle.aplc_gen.specs.Flows.{lines_turned, no_turns}
use Rattle.aplc_gen.proofs.Turning.{lines_left}
use Rattle.aplc_gen.proofs.flow.all_turns.Goals as goal

pub loop-index-preserved : goal.loop-index-preserved
loop-index-preserved c =
    let f = the_routine (site_of c.args.site.now) in
    let inside : c.loop-index.index < length f.steps = omega (arith, c.loop-index-test.true, c.lines-index-end.ensures.lines) in
    lines_left f c.loop-index.index (map effect_of c.steps.result.now) c.loop-index.turns c.add_steps.new.self (lines_turned f f.steps no_turns) inside c.steps.ensures c.in_ok-add_steps.ensures c.loop-index.invariant
