use Rattle.std.proofs.Common.{◌∙◌, refl}
use Rattle.aplc_cprof.proofs.Kept.{kept_same, kept_trans}
use Rattle.aplc_stage.proofs.Lists.{copy_emitted}
use Rattle.aplc_stage.proofs.moving.emit_copies.Goals as goal

pub loop-index-init : goal.loop-index-init
loop-index-init c = (refl, kept_same c.args.b.now)

pub loop-index-preserved : goal.loop-index-preserved
loop-index-preserved c =
    let l = c.loop-index in (
      copy_emitted l.b c.emit.new.self c.args.to.now c.args.from.now l.index _ _ c.loop-index-test.true c.requires c.in_ok-emit.ensures.ok ∙ l.invariant.0,
      kept_trans c.args.b.now l.b c.emit.new.self l.invariant.1 c.in_ok-emit.ensures.kept,
    )
