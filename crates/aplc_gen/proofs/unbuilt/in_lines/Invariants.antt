use Rattle.std.proofs.Common.{◌≡◌, drop}
use Rattle.aplc_gen.specs.Unbuilt.{smaller, least, lines_unbuilt}
use Rattle.aplc_gen.proofs.unbuilt.in_lines.Given as goal

abbrev pub invariant-loop-line : goal.invariant-loop-line
invariant-loop-line l = smaller l.found (least (lines_unbuilt l.facts (drop l.line-index l.lines))) ≡ least (lines_unbuilt l.facts l.lines)
