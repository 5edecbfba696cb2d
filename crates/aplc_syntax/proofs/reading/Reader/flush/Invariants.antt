use Rattle.std.proofs.Common.{◌≡◌, length}
use Rattle.aplc_syntax.specs.Reading.{flush}
use Rattle.aplc_syntax.proofs.reading.Reader.flush.Given as goal

abbrev pub invariant-loop-op : goal.invariant-loop-op
invariant-loop-op l = flush l.self.ops l.self.out.items ≡ flush l.initial.self.ops l.initial.self.out.items

abbrev pub decreases-loop-op : goal.decreases-loop-op
decreases-loop-op l = length l.self.ops
