-- What stands, with the magnitudes of the rest, is all of them.
use Rattle.std.proofs.Common.{◌≡◌, ◌++◌, map, drop}
use Rattle.aplc_infer.specs.Rules.{magnitude_length}
use Rattle.aplc_infer.proofs.parts.magnitudes.Given as goal

abbrev pub invariant-loop-number : goal.invariant-loop-number
invariant-loop-number l = l.out ++ map magnitude_length (drop l.number-index l.numbers) ≡ map magnitude_length l.numbers
