use Rattle.std.proofs.Common.{◌≡◌, ◌++◌, ◌+◌, drop, pos}
use Rattle.aplc_names.specs.Outlines.{lines_from}
use Rattle.aplc_names.proofs.labels.label_lines.Given as goal

abbrev pub invariant-loop-line : goal.invariant-loop-line
invariant-loop-line l = (l.number ≡ pos (l.line-index + 1)) × (l.out.items ++ lines_from (l.line-index + 1) (drop l.line-index l.lines) ≡ lines_from 1 l.lines)
