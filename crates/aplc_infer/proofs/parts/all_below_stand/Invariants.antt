-- The axes passed are named.
use Rattle.std.proofs.Common.{◌≡◌, map}
use Rattle.aplc_arr.specs.Structure.{from_origin, all_below_stand}
use Rattle.aplc_infer.proofs.parts.all_below_stand.Given as goal

abbrev pub invariant-loop-axis : goal.invariant-loop-axis
invariant-loop-axis l = all_below_stand l.axis (map (from_origin l.origin) l.entries) ≡ all_below_stand l.count (map (from_origin l.origin) l.entries)
