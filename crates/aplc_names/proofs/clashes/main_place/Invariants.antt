use Rattle.std.proofs.Common.{◌≡◌, drop}
use Rattle.aplc_names.specs.Clashes.{main_place}
use Rattle.aplc_names.proofs.clashes.main_place.Given as goal

abbrev pub invariant-loop-f : goal.invariant-loop-f
invariant-loop-f l = main_place l.names (drop l.f-index l.outlines) ≡ main_place l.names l.outlines
