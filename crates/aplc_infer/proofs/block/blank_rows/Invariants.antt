-- Nothing is set so far.
use Rattle.aplc_infer.specs.Pools.{AreBlank}
use Rattle.aplc_infer.proofs.block.blank_rows.Given as goal

abbrev pub invariant-loop : goal.invariant-loop
invariant-loop l = AreBlank l.out.items
