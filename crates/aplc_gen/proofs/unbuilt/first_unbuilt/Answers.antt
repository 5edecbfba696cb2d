use Rattle.std.proofs.Common.{ap, ◌∙◌}
use Rattle.aplc_gen.specs.Unbuilt.{smaller, least, lines_unbuilt}
use Rattle.aplc_gen.proofs.Places.{function_next}
use Rattle.aplc_gen.proofs.unbuilt.first_unbuilt.Goals as goal

pub loop-function-preserved : goal.loop-function-preserved
loop-function-preserved c =
    function_next c.args.facts.now c.loop-function.found c.smaller-found.result _ c.as_slice-functions.result.now c.loop-function.function-index c.function-item.result c.loop-function-test.true c.function-item.is
    (c.smaller-found.ensures ∙ ap (smaller c.loop-function.found) (c.in_lines.ensures ∙ ap (λ ls. least (lines_unbuilt c.args.facts.now ls)) c.as_slice.ensures)) c.loop-function.invariant
