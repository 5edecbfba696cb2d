use Rattle.std.proofs.Common.{◌≡◌, ◌++◌, drop}
use Rattle.std.specs.Prelude.{filter_map}
use Rattle.aplc_names.specs.declared.outline.Mention.{Mention}
use Rattle.aplc_names.specs.Tables.{first}
use Rattle.aplc_names.proofs.shadows.callees.Given as goal

abbrev pub invariant-loop-m : goal.invariant-loop-m
invariant-loop-m l = l.out.items ++ filter_map (λ (m : Mention). first m.name.0 l.heads) (drop l.m-index l.m-items) ≡ filter_map (λ (m : Mention). first m.name.0 l.heads) l.m-items
