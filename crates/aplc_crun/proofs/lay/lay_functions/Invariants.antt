use Rattle.std.proofs.Common.{◌≡◌, length, take}
use Rattle.aplc_crun.specs.Building.{LaidFunctions}
use Rattle.aplc_crun.proofs.lay.lay_functions.Given as goal

abbrev pub invariant-loop-f : goal.invariant-loop-f
invariant-loop-f l = LaidFunctions l.nodes.items l.entries.items (take l.f-index l.functions) × (length l.entries.items ≡ l.f-index)
