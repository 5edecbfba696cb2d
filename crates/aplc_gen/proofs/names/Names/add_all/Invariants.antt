use Rattle.std.proofs.Common.{◌≡◌, drop}
use Rattle.aplc_gen.specs.Made.{with_each}
use Rattle.aplc_gen.proofs.names.Names.add_all.Given as goal

abbrev pub invariant-loop-name : goal.invariant-loop-name
invariant-loop-name l = with_each l.self (drop l.name-index l.names) ≡ with_each l.fn.self l.names
