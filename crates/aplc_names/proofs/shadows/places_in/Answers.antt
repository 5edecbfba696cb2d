use Rattle.std.proofs.Common.{arith}
use Rattle.aplc_syntax.specs.declared.tree.Named.{Named}
use Rattle.aplc_names.specs.Tables.{first}
use Rattle.aplc_names.proofs.Lists.{mapped_more}
use Rattle.aplc_names.proofs.shadows.places_in.Goals as goal

pub loop-x-preserved : goal.loop-x-preserved
loop-x-preserved c = mapped_more (λ (x : Named). first x.name.0 c.args.all.now) c.names-x-items.result.now c.loop-x.x-index _ c.loop-x.out.items c.put_some.new.out.items _ c.first-place.result (omega arith) c.first-place.ensures.first c.in_ok-put_some.ensures c.loop-x.invariant
