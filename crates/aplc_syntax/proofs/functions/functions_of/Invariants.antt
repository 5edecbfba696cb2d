use Rattle.std.proofs.Common.{drop}
use Rattle.aplc_syntax.specs.Causes.{Covers}
use Rattle.aplc_syntax.specs.Noted.{headers_of, BlockStands, BlockIs}
use Rattle.aplc_syntax.proofs.functions.functions_of.Given as goal

abbrev pub invariant-loop-block : goal.invariant-loop-block
invariant-loop-block l = Covers (BlockStands (headers_of l.known.headers.items)) (BlockIs l.text (headers_of l.known.headers.items)) l.blocks (drop l.block-index l.blocks) l.functions.first l.functions.functions.items
