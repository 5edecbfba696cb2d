use Rattle.std.proofs.Common.{ap, ◌∙◌}
use Rattle.aplc_gen.specs.Unbuilt.{smaller}
use Rattle.aplc_gen.proofs.Places.{line_next}
use Rattle.aplc_gen.proofs.unbuilt.in_lines.Goals as goal

pub loop-line-preserved : goal.loop-line-preserved
loop-line-preserved c =
    line_next c.args.facts.now c.loop-line.found c.smaller-found.result _ c.args.lines.now c.loop-line.line-index c.line-item.result c.loop-line-test.true c.line-item.is
    (c.smaller-found.ensures ∙ ap (smaller c.loop-line.found) c.in_statement.ensures) c.loop-line.invariant
