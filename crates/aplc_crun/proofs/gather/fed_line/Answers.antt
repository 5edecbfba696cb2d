use Rattle.std.proofs.Common.{arith}
use Rattle.aplc_crun.proofs.Gathering.{fed_long, fed_empty, fed_return, fed_other}
use Rattle.aplc_crun.proofs.gather.fed_line.Goals as goal

pub returns-then-feed-gt-LONGEST : goal.returns-then-feed-gt-LONGEST
returns-then-feed-gt-LONGEST c = fed_long c.args.bytes.now c.args.feed c.args.ended c.requires (omega arith)

pub returns-then-feed-eq0 : goal.returns-then-feed-eq0
returns-then-feed-eq0 c = fed_empty c.args.bytes.now c.args.feed c.args.ended c.requires (omega arith)

pub returns-then-bytes-feed-eq13 : goal.returns-then-bytes-feed-eq13
returns-then-bytes-feed-eq13 c = fed_return c.args.bytes.now c.args.feed c.args.ended c.requires (omega arith) (omega arith) c.if-bytes-feed-eq13.true

pub returns : goal.returns
returns c = fed_other c.args.bytes.now c.args.feed c.args.ended c.requires (omega arith) (omega arith) c.if-bytes-feed-eq13.false
