use Rattle.std.proofs.Common.{◌≡◌, ◌≤◌, take, length, []}
use Rattle.std.specs.Prelude.{reverse}
use Rattle.aplc_gen.specs.Made.{with_each}
use Rattle.aplc_gen.proofs.known.each_once.Given as goal

abbrev pub invariant-loop-index : goal.invariant-loop-index
invariant-loop-index l = (with_each l.once (reverse (take l.index l.names)) ≡ with_each [] (reverse l.names)) × (l.index ≤ length l.names)
