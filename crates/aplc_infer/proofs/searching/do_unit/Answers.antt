use Rattle.std.proofs.Common.{arith}
use Rattle.aplc_infer.proofs.Granted.{got_indexed}
use Rattle.aplc_infer.proofs.searching.do_unit.Goals as goal

pub do_line-requires-clause-line : goal.do_line-requires-clause-line
do_line-requires-clause-line c = got_indexed c.args.lookup.now c.args.function.now c.args.task.now.unit.line c.index-lines-n.result c.as_slice-lines.result.now c.if-l-eq0.false c.as_slice-lines.ensures (omega arith) c.index-lines-n.is
