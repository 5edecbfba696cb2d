-- All of the entries passed are of numbers.
use Rattle.std.proofs.Common.{◌≡◌, drop}
use Rattle.aplc_infer.specs.Rules.{all_numeric}
use Rattle.aplc_infer.proofs.indexes.all_numeric.Given as goal

abbrev pub invariant-loop-entry : goal.invariant-loop-entry
invariant-loop-entry l = all_numeric (drop l.entry-index l.entries) ≡ all_numeric l.entries
