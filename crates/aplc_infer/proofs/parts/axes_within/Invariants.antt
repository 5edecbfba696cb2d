-- What the entries passed name, with the rest, is what all of them name.
use Rattle.std.proofs.Common.{◌≡◌, ◌≤◌, max, map, drop}
use Rattle.aplc_arr.specs.Structure.{from_origin, axes_in}
use Rattle.aplc_infer.proofs.parts.axes_within.Given as goal

abbrev pub invariant-loop-entry : goal.invariant-loop-entry
invariant-loop-entry l = (l.count ≤ l.most) × (max l.count (axes_in (map (from_origin l.origin) (drop l.entry-index l.entries))) ≡ axes_in (map (from_origin l.origin) l.entries))
