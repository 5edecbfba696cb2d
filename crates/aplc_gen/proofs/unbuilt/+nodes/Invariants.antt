use Rattle.std.proofs.Common.{◌≡◌, drop}
use Rattle.aplc_syntax.specs.PlainTrees.{trees_in}
use Rattle.aplc_gen.specs.Unbuilt.{smaller, least, all_unbuilt}
use Rattle.aplc_gen.proofs.unbuilt.+nodes.Given as goal

-- what was found so far, with the entries left, is what will be found
abbrev pub invariant-in_entries-loop-entry : goal.invariant-in_entries-loop-entry
invariant-in_entries-loop-entry l = smaller l.found (least (all_unbuilt l.facts (trees_in (drop l.entry-index l.entries)))) ≡ least (all_unbuilt l.facts (trees_in l.entries))
