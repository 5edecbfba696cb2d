use Rattle.std.proofs.Common.{◌+◌, refl, subst}
use Rattle.aplc_cprof.specs.Blocks.{Blocks, IsKept}
use Rattle.aplc_cprof.proofs.Kept.{kept_same, kept_buf}
use Rattle.aplc_cprof.proofs.building.Builder.fresh_buf.Goals as goal

pub returns-then-self-clause-kept : goal.returns-then-self-clause-kept
returns-then-self-clause-kept c = kept_same c.args.self.now

pub returns-clause-kept : goal.returns-clause-kept
returns-clause-kept c =
    let old : Blocks = record { outer = c.self.inside.outer; inner = c.self.inside.inner; ints = c.self.inside.ints; bufs = c.self.inside.bufs } in
    let new : Blocks = record old { bufs = old.bufs + 1 } in
    subst (λ (b : Blocks). IsKept b new) c.self.view_is (kept_buf old new refl)
