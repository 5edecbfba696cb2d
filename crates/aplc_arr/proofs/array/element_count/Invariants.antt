use Rattle.std.proofs.Common.{◌≡◌, ◌≤◌, drop}
use Rattle.aplc_arr.specs.Structure.{magnitudes}
use Rattle.aplc_arr.specs.Making.{count_from}
use Rattle.aplc_arr.proofs.array.element_count.Given as goal

abbrev pub invariant-loop-length : goal.invariant-loop-length
invariant-loop-length l =
    (l.count ≤ 2147483648) × (count_from l.count (magnitudes (drop l.length-index l.shape)) ≡ count_from 1 (magnitudes l.shape))
