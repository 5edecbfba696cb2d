use Rattle.std.proofs.Common.{Some, refl, ap, arith}
use Rattle.aplc_io.proofs.Fronts.{slice_read}
use Rattle.aplc_io.proofs.memory_source.MemSourceSource.read.Goals as goal

pub returns-clause-gives : goal.returns-clause-gives
returns-clause-gives c =
    let after = rw c.deref-2.ensures.value at c.copy_from_slice.ensures.after in
    let count = rw c.deref-2.ensures.value at c.min-count.ensures in
    rw (← c.self.view_is) record {
      left = ap (λ l. Some l) (slice_read c.self.inside.bytes.items c.args.buf.now c.copy_from_slice.new.self c.self.inside.at c.min-count.result (omega arith) after);
      faults = refl;
    }
