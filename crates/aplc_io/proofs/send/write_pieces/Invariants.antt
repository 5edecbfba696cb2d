use Rattle.std.proofs.Common.{◌≡◌, take}
use Rattle.std.specs.List.{flat_map}
use Rattle.aplc_io.specs.Outside.{sink_with}
use Rattle.aplc_io.proofs.send.write_pieces.Given as goal

abbrev pub invariant-loop-piece : goal.invariant-loop-piece
invariant-loop-piece g l = g.K.Sink.state l.sink ≡ sink_with (g.K.Sink.state l.fn.sink) (flat_map (λ p. p.now) (take l.piece-index l.pieces))
