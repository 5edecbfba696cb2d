-- No block is begun or ended.
use Rattle.std.proofs.Common.{◌≡◌}
use Rattle.aplc_builder_tests.proofs.arrays.read_lengths.Given as goal

abbrev pub invariant-loop-length : goal.invariant-loop-length
invariant-loop-length l = l.b.outer ≡ l.fn.b.outer
