use Rattle.std.proofs.Common.{◌∙◌, ◌≤◌, sym, arith, length}
use Rattle.aplc_step.proofs.Accesses.{no_term, no_index}
use Rattle.aplc_step.proofs.place.place.Goals.{then-loop-axis-test+else-axis-at, else-loop-axis-test}
use Rattle.aplc_step.proofs.place.place.Goals as goal

pub returns : goal.returns
returns c =
    let l = c.loop-axis in
    let strides = c.args.strides.now in
    let at = c.args.at.now in
    elim c.loop-axis-test.branch [
      | then-loop-axis-test+else-axis-at w ↦ let le : length at ≤ l.axis = omega (arith, w.if-axis-at) in sym (no_index l.sum strides at l.axis le) ∙ l.invariant
      | else-loop-axis-test w ↦ let le : length strides ≤ l.axis = omega (arith, w.loop-axis-test) in sym (no_term l.sum strides at l.axis le) ∙ l.invariant
    ]
