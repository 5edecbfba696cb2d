-- None of the entries passed names the axis.
use Rattle.std.proofs.Common.{◌≡◌, map, drop}
use Rattle.aplc_arr.specs.Structure.{from_origin, stands_in}
use Rattle.aplc_infer.proofs.parts.stands_in.Given as goal

abbrev pub invariant-loop-entry : goal.invariant-loop-entry
invariant-loop-entry l = stands_in l.axis (map (from_origin l.origin) (drop l.entry-index l.entries)) ≡ stands_in l.axis (map (from_origin l.origin) l.entries)
