use Rattle.std.proofs.Common.{◌≡◌, ◌++◌, drop}
use Rattle.aplc_names.specs.Outlines.{lines_mentions}
use Rattle.aplc_names.proofs.outline.mentions.Given as goal

abbrev pub invariant-loop-line : goal.invariant-loop-line
invariant-loop-line l = l.out.items ++ lines_mentions (drop l.line-index l.lines) ≡ lines_mentions l.lines
