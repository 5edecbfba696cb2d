use Rattle.aplc_syntax.specs.Layout.{Block}
use Rattle.aplc_syntax.specs.Held.{block_of}
use Rattle.aplc_syntax.specs.Noted.{headers_of, BlockStands, BlockIs, RowsLaid}
use Rattle.aplc_syntax.proofs.Firsts.{all_at, covers_more, covers_end}
use Rattle.aplc_syntax.proofs.functions.functions_of.Goals as goal

pub note-requires-clause-laid : goal.note-requires-clause-laid
note-requires-clause-laid c = all_at (λ (b : Block). RowsLaid c.args.text.now b.body) block_of c.args.blocks.now c.loop-block.block-index c.block-item.result c.loop-block-test.true c.block-item.is c.requires.laid

pub loop-block-preserved : goal.loop-block-preserved
loop-block-preserved c = covers_more (BlockStands (headers_of c.args.known.now.headers.items)) (BlockIs c.args.text.now (headers_of c.args.known.now.headers.items)) c.args.blocks.now c.loop-block.block-index c.block-item.result _ _ _ _ c.loop-block-test.true c.block-item.is c.in-Ok.ensures.noted c.loop-block.invariant

pub returns-clause-first : goal.returns-clause-first
returns-clause-first c = (covers_end (BlockStands (headers_of c.args.known.now.headers.items)) (BlockIs c.args.text.now (headers_of c.args.known.now.headers.items)) c.args.blocks.now c.loop-block.block-index _ _ c.loop-block-test.false c.loop-block.invariant).0

pub returns-clause-functions : goal.returns-clause-functions
returns-clause-functions c = (covers_end (BlockStands (headers_of c.args.known.now.headers.items)) (BlockIs c.args.text.now (headers_of c.args.known.now.headers.items)) c.args.blocks.now c.loop-block.block-index _ _ c.loop-block-test.false c.loop-block.invariant).1
