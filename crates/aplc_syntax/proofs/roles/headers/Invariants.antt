use Rattle.std.proofs.Common.{◌≡◌, ◌++◌, map, drop}
use Rattle.std.specs.List.{filter_map}
use Rattle.aplc_syntax.specs.Layout.{header_of}
use Rattle.aplc_syntax.specs.Held.{block_of, header_of_held}
use Rattle.aplc_syntax.proofs.roles.headers.Given as goal

abbrev pub invariant-loop-block : goal.invariant-loop-block
invariant-loop-block l = map header_of_held l.out.items ++ filter_map header_of (map block_of (drop l.block-index l.blocks)) ≡ filter_map header_of (map block_of l.blocks)
