use Rattle.std.proofs.Common.{arith}
use Rattle.aplc_infer.proofs.Moving.{line_there}
use Rattle.aplc_infer.proofs.inference.settle_lines.Goals as goal

pub settle_line-requires-clause-line : goal.settle_line-requires-clause-line
settle_line-requires-clause-line c = line_there c.args.lookup.now c.loop-n.n c.args.function.now c.index-lines-n.result c.as_slice-lines.result.now c.as_slice-lines.ensures (omega arith) c.index-lines-n.is
