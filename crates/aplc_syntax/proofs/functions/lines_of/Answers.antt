use Rattle.aplc_syntax.specs.Words.{Laid}
use Rattle.aplc_syntax.specs.Layout.{Row}
use Rattle.aplc_syntax.specs.Held.{row_of}
use Rattle.aplc_syntax.specs.Noted.{headers_of, LineStands, LineIs}
use Rattle.aplc_syntax.proofs.Firsts.{all_at, covers_more, covers_end}
use Rattle.aplc_syntax.proofs.functions.lines_of.Goals as goal

pub note-requires-clause-laid : goal.note-requires-clause-laid
note-requires-clause-laid c = all_at (λ (r : Row). Laid c.args.text.now 0 r.words) row_of c.args.rows.now c.loop-row.row-index c.row-item.result c.loop-row-test.true c.row-item.is c.requires.laid

pub loop-row-preserved : goal.loop-row-preserved
loop-row-preserved c = covers_more (LineStands (headers_of c.args.known.now.headers.items)) (LineIs c.args.text.now (headers_of c.args.known.now.headers.items)) c.args.rows.now c.loop-row.row-index c.row-item.result _ _ _ _ c.loop-row-test.true c.row-item.is c.in-Ok.ensures.noted c.loop-row.invariant

pub returns-clause-first : goal.returns-clause-first
returns-clause-first c = (covers_end (LineStands (headers_of c.args.known.now.headers.items)) (LineIs c.args.text.now (headers_of c.args.known.now.headers.items)) c.args.rows.now c.loop-row.row-index _ _ c.loop-row-test.false c.loop-row.invariant).0

pub returns-clause-lines : goal.returns-clause-lines
returns-clause-lines c = (covers_end (LineStands (headers_of c.args.known.now.headers.items)) (LineIs c.args.text.now (headers_of c.args.known.now.headers.items)) c.args.rows.now c.loop-row.row-index _ _ c.loop-row-test.false c.loop-row.invariant).1
