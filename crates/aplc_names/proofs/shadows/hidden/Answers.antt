use Rattle.std.proofs.Common.{◌∙◌, sym, ap, refl, arith, Some}
use Rattle.std.proofs.lemmas.Option.{slice_get_read}
use Rattle.aplc_names.proofs.HiddenNames.{hides_start, hides_more}
use Rattle.aplc_names.proofs.shadows.hidden.Goals as goal

pub loop-from-init : goal.loop-from-init
loop-from-init c = hides_start c.args.rows.now c.args.lists.now c.args.to c.args.size c.in_ok-marks.marks.items c.in_ok-marks.ensures.size c.in_ok-marks.ensures.none

pub loop-from-preserved : goal.loop-from-preserved
loop-from-preserved c = hides_more c.args.rows.now c.args.lists.now c.args.to c.loop-from.from c.args.size c.as_slice.result.now c.loop-from.marks.items c.hide.new.marks.items c.row.result.now c.loop-from.found.items c.hide.new.found.items (slice_get_read c.args.rows.now _ c.loop-from.from _ refl (omega arith) c.index-rows-from.is ∙ ap (λ x. Some x) (sym c.as_slice.ensures)) c.row.ensures c.in_ok-hide.ensures c.loop-from.invariant
