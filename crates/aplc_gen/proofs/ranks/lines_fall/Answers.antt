use Rattle.std.proofs.Common.{arith, sym, ◌∙◌, ◌<◌, length, map}
use Rattle.aplc_core.specs.PlainSteps.{effect_of}
use Rattle.aplc_gen.specs.Layouts.{the_routine}
use Rattle.aplc_gen.specs.Writing.{site_of}
use Rattle.aplc_gen.specs.Sparing.{rank_in}
use Rattle.aplc_gen.proofs.SparedRanks.{falls_on, falls_not}
use Rattle.aplc_gen.proofs.ranks.lines_fall.Goals as goal

pub loop-index-preserved : goal.loop-index-preserved
loop-index-preserved c =
    let f = the_routine (site_of c.args.site.now) in
    let inside : c.loop-index.index < length f.steps = omega (arith, c.loop-index-test.true, c.lines-index-end.ensures.lines) in
    falls_on (rank_in c.args.ranks.now) c.args.site.now.number f c.loop-index.index (map effect_of c.steps.result.now) _ inside c.steps.ensures (sym c.steps_fall.ensures ∙ c.if-not-steps_fall.false) c.loop-index.invariant

pub returns-then-not-steps_fall : goal.returns-then-not-steps_fall
returns-then-not-steps_fall c =
    let f = the_routine (site_of c.args.site.now) in
    let inside : c.loop-index.index < length f.steps = omega (arith, c.loop-index-test.true, c.lines-index-end.ensures.lines) in
    falls_not (rank_in c.args.ranks.now) c.args.site.now.number f c.loop-index.index (map effect_of c.steps.result.now) _ inside c.steps.ensures (sym c.steps_fall.ensures ∙ c.if-not-steps_fall.true) c.loop-index.invariant
