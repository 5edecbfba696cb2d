use Rattle.std.proofs.Common.{◌≡◌, drop, map}
use Rattle.aplc_names.specs.PlainPrograms.{name_number}
use Rattle.aplc_gen.specs.Made.{with_each}
use Rattle.aplc_gen.proofs.layout.add_locals.Given as goal

abbrev pub invariant-loop-local : goal.invariant-loop-local
invariant-loop-local l = with_each l.names (map name_number (drop l.local-index l.locals)) ≡ with_each l.fn.names (map name_number l.locals)
