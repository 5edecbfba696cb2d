use Rattle.std.proofs.Common.{◌≡◌, ◌++◌, drop}
use Rattle.aplc_names.specs.Outlines.{labels_in}
use Rattle.aplc_names.proofs.outline.put_labels.Given as goal

abbrev pub invariant-loop-line : goal.invariant-loop-line
invariant-loop-line l = l.out.items ++ labels_in (drop l.line-index l.lines) ≡ l.fn.out.items ++ labels_in l.lines
