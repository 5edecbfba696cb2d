use Rattle.std.proofs.Common.{subst}
use Rattle.aplc_cprof.specs.Blocks.{Blocks, IsKept}
use Rattle.aplc_cprof.proofs.Kept.{kept_pushed}
use Rattle.aplc_cprof.proofs.building.Builder.emit.Goals as goal

pub returns-clause-kept : goal.returns-clause-kept
returns-clause-kept c =
    let old : Blocks = record { outer = c.self.inside.outer; inner = c.self.inside.inner; ints = c.self.inside.ints; bufs = c.self.inside.bufs } in
    subst (λ (b : Blocks). IsKept b (record old { inner = c.push.new.self })) c.self.view_is
    (kept_pushed old c.push.new.self c.args.s c.push.result c.push.ensures.ok c.push.ensures.err)
