use Rattle.std.proofs.Common.{◌≡◌, ◌++◌, drop}
use Rattle.aplc_syntax.specs.PlainTrees.{trees_in}
use Rattle.aplc_names.specs.Outlines.{trees_mentions}
use Rattle.aplc_names.proofs.outline.+nodes.Given as goal

-- what is out so far, with the names of the entries left, is what the whole will be
abbrev pub invariant-put_nodes-loop-entry : goal.invariant-put_nodes-loop-entry
invariant-put_nodes-loop-entry l = l.out.items ++ trees_mentions (trees_in (drop l.entry-index l.entries)) ≡ l.fn.out.items ++ trees_mentions (trees_in l.entries)
