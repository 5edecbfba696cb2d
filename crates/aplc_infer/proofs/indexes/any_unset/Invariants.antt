-- None of the entries passed is unset.
use Rattle.std.proofs.Common.{◌≡◌, drop}
use Rattle.aplc_infer.specs.Facts.{is_unset}
use Rattle.aplc_infer.specs.Rules.{any_fact}
use Rattle.aplc_infer.proofs.indexes.any_unset.Given as goal

abbrev pub invariant-loop-entry : goal.invariant-loop-entry
invariant-loop-entry l = any_fact is_unset (drop l.entry-index l.entries) ≡ any_fact is_unset l.entries
