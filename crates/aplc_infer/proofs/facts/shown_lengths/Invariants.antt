-- The lengths so far.
use Rattle.std.proofs.Common.{◌≡◌, take}
use Rattle.std.specs.Prelude.{map}
use Rattle.aplc_infer.specs.Shown.{shown_length}
use Rattle.aplc_infer.proofs.facts.shown_lengths.Given as goal

abbrev pub invariant-loop-length : goal.invariant-loop-length
invariant-loop-length l = l.out.items ≡ map shown_length (take l.length-index l.lengths)
