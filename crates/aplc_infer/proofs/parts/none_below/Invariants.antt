-- None of the entries passed is below the origin.
use Rattle.std.proofs.Common.{◌≡◌, drop}
use Rattle.aplc_arr.specs.Structure.{none_below}
use Rattle.aplc_infer.proofs.parts.none_below.Given as goal

abbrev pub invariant-loop-entry : goal.invariant-loop-entry
invariant-loop-entry l = none_below l.origin (drop l.entry-index l.entries) ≡ none_below l.origin l.entries
