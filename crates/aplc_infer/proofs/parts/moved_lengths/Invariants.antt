-- The lengths of the axes passed stand.
use Rattle.std.proofs.Common.{◌≡◌, length, map}
use Rattle.aplc_arr.specs.Delayed.{first_n}
use Rattle.aplc_arr.specs.Structure.{from_origin}
use Rattle.aplc_infer.specs.Rules.{least_known}
use Rattle.aplc_infer.proofs.parts.moved_lengths.Given as goal

abbrev pub invariant-loop-axis : goal.invariant-loop-axis
invariant-loop-axis l = (l.out ≡ first_n (λ j. least_known j (map (from_origin l.origin) l.entries) l.lengths) l.axis) × (length l.out ≡ l.axis)
