-- None of the entries passed is mixed.
use Rattle.std.proofs.Common.{◌≡◌, drop}
use Rattle.aplc_infer.specs.Facts.{is_mixed}
use Rattle.aplc_infer.specs.Rules.{any_fact}
use Rattle.aplc_infer.proofs.indexes.any_mixed.Given as goal

abbrev pub invariant-loop-entry : goal.invariant-loop-entry
invariant-loop-entry l = any_fact is_mixed (drop l.entry-index l.entries) ≡ any_fact is_mixed l.entries
