use Rattle.std.proofs.Common.{arith}
use Rattle.aplc_names.specs.declared.outline.Mention.{Mention}
use Rattle.aplc_names.specs.Tables.{first}
use Rattle.aplc_names.proofs.Lists.{mapped_more}
use Rattle.aplc_names.proofs.shadows.callees.Goals as goal

pub loop-m-preserved : goal.loop-m-preserved
loop-m-preserved c = mapped_more (λ (m : Mention). first m.name.0 c.args.heads.now) c.as_slice-m-items.result.now c.loop-m.m-index _ c.loop-m.out.items c.put_some.new.out.items _ c.first-place.result (omega arith) c.first-place.ensures.first c.in_ok-put_some.ensures c.loop-m.invariant
