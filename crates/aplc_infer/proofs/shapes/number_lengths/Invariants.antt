-- What stands, with the lengths of the rest, is all of them.
use Rattle.std.proofs.Common.{◌≡◌, ◌++◌, map, drop}
use Rattle.aplc_infer.specs.Rules.{literal_length}
use Rattle.aplc_infer.proofs.shapes.number_lengths.Given as goal

abbrev pub invariant-loop-number : goal.invariant-loop-number
invariant-loop-number l = l.out ++ map literal_length (drop l.number-index l.numbers) ≡ map literal_length l.numbers
