use Rattle.std.proofs.Common.{◌≡◌, drop}
use Rattle.aplc_gen.specs.Writing.{lowered_core}
use Rattle.aplc_gen.specs.Sparing.{all_fall}
use Rattle.aplc_gen.proofs.ranks.all_fall.Given as goal

abbrev pub invariant-loop-number : goal.invariant-loop-number
invariant-loop-number l = all_fall l.ranks l.number (drop l.number (lowered_core l.core).routines) ≡ all_fall l.ranks 0 (lowered_core l.core).routines
