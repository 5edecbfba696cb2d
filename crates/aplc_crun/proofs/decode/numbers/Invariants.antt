use Rattle.std.proofs.Common.{◌≡◌, length}
use Rattle.aplc_scalar.specs.Input.{numbers}
use Rattle.aplc_crun.specs.Decoding.{before}
use Rattle.aplc_crun.proofs.decode.numbers.Given as goal

abbrev pub invariant-parts : goal.invariant-parts
invariant-parts l = before l.cells.items (numbers l.rest) ≡ numbers l.line

abbrev pub decreases-parts : goal.decreases-parts
decreases-parts l = length l.rest
