-- The numbers so far.
use Rattle.std.proofs.Common.{◌≡◌, take, length}
use Rattle.aplc_infer.specs.Pools.{spelled, IsHoused}
use Rattle.aplc_infer.proofs.column.in_use.Given as goal

abbrev pub invariant-loop-k : goal.invariant-loop-k
invariant-loop-k l = IsHoused (length l.used) l.out × (spelled l.used l.out ≡ spelled l.pool (take l.k l.numbers))
