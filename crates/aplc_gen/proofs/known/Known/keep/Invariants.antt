use Rattle.std.proofs.Common.{◌≡◌, drop}
use Rattle.std.specs.List.{filter}
use Rattle.aplc_gen.specs.Made.{with_each}
use Rattle.aplc_gen.specs.Sparing.{is_flag_of}
use Rattle.aplc_gen.proofs.known.Known.keep.Given as goal

abbrev pub invariant-loop-name : goal.invariant-loop-name
invariant-loop-name l = with_each l.kept (filter (is_flag_of l.self) (drop l.name-index l.names)) ≡ with_each l.fn.kept (filter (is_flag_of l.self) l.names)
