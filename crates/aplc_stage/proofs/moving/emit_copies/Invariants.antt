use Rattle.std.proofs.Common.{◌≡◌, drop}
use Rattle.aplc_cprof.specs.Blocks.{IsKept}
use Rattle.aplc_stage.specs.Pieces.{with_code, copies}
use Rattle.aplc_stage.proofs.moving.emit_copies.Given as goal

abbrev pub invariant-loop-index : goal.invariant-loop-index
invariant-loop-index l = (with_code (copies (drop l.index l.to) (drop l.index l.from)) l.b ≡ with_code (copies l.to l.from) l.fn.b) × IsKept l.fn.b l.b
