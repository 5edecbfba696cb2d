use Rattle.std.proofs.Common.{◌≡◌, ◌++◌, drop}
use Rattle.aplc_core.specs.PlainSteps.{terms_in}
use Rattle.aplc_plan.specs.Held.{list_inner}
use Rattle.aplc_plan.proofs.inner.+trees.Given as goal

-- what is out so far, with the nodes of the entries left, is what the whole will be
abbrev pub invariant-put_entries-loop-entry : goal.invariant-put_entries-loop-entry
invariant-put_entries-loop-entry l = l.out.items ++ list_inner (terms_in (drop l.entry-index l.entries)) ≡ l.fn.out.items ++ list_inner (terms_in l.entries)
