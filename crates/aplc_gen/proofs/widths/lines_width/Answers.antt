use Rattle.std.proofs.Common.{rules, arith, ap, ◌∙◌, ◌≡◌, ◌+◌, ◌<◌, ◌≤◌, length, map, max, drop, true}
use Rattle.std.proofs.lemmas.Bool.Decides.{nat_tests}
use Rattle.aplc_core.specs.PlainSteps.{effect_of}
use Rattle.aplc_gen.specs.Layouts.{the_routine}
use Rattle.aplc_gen.specs.Emitted.{lines_width}
use Rattle.aplc_gen.specs.Writing.{site_of, fits_lines}
use Rattle.aplc_gen.proofs.Arms.{number_fits}
use Rattle.aplc_gen.proofs.Widest.{one_line}
use Rattle.aplc_gen.proofs.widths.lines_width.Goals as goal

pub steps_width-requires : goal.steps_width-requires
steps_width-requires c =
    let steps = (the_routine (site_of c.args.site.now)).steps in
    let fits : fits_lines c.slots.result steps ≡ true = search rules in
    let inside : c.loop-index.index < length steps = omega (arith, c.loop-index-test.true, c.lines-index-end.ensures.lines) in
    number_fits c.slots.result c.loop-index.index steps (map effect_of c.steps.result.now) fits inside c.steps.ensures

pub loop-index-preserved : goal.loop-index-preserved
loop-index-preserved c =
    let steps = (the_routine (site_of c.args.site.now)).steps in
    let inside : c.loop-index.index < length steps = omega (arith, c.loop-index-test.true, c.lines-index-end.ensures.lines) in
    let wider : c.max-most.result ≡ max c.loop-index.most c.steps_width.result = grind (arith, nat_tests, c.max-most.ensures) in
    let most : c.max-most.result ≤ 2000 = grind (arith, c.max-most.ensures, c.steps_width.ensures.narrow, c.loop-index.invariant.1) in (
      ap (λ k. max k (lines_width (drop (c.loop-index.index + 1) steps))) wider
          ∙ one_line steps c.loop-index.index c.loop-index.most c.steps_width.result (map effect_of c.steps.result.now) (lines_width steps) inside c.steps.ensures c.steps_width.ensures.width c.loop-index.invariant.0,
      most,
    )
