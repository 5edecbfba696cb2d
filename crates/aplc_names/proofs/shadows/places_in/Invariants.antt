use Rattle.std.proofs.Common.{◌≡◌, ◌++◌, drop}
use Rattle.std.specs.Prelude.{filter_map}
use Rattle.aplc_syntax.specs.declared.tree.Named.{Named}
use Rattle.aplc_names.specs.Tables.{first}
use Rattle.aplc_names.proofs.shadows.places_in.Given as goal

abbrev pub invariant-loop-x : goal.invariant-loop-x
invariant-loop-x l = l.out.items ++ filter_map (λ (x : Named). first x.name.0 l.all) (drop l.x-index l.x-items) ≡ filter_map (λ (x : Named). first x.name.0 l.all) l.x-items
