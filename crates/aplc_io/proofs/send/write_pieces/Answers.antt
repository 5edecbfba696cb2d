use Rattle.aplc_io.proofs.Pieces.{piece_cut}
use Rattle.aplc_io.proofs.send.write_pieces.Goals as goal

pub returns-in-Err-clause-part : goal.returns-in-Err-clause-part
returns-in-Err-clause-part g c = piece_cut (λ p. p.now) c.args.pieces.now c.loop-piece.piece-index _ c.loop-piece-test.true _ _ _ c.loop-piece.invariant c.in-Err.ensures.part
