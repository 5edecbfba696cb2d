use Rattle.std.proofs.Common.{ap, ◌∙◌, ◌≡◌, false}
use Rattle.std.proofs.lemmas.Result.{IfOk-weaker}
use Rattle.aplc_gen.specs.Layouts.{Frame, frame_of}
use Rattle.aplc_gen.specs.Emitted.{site_at}
use Rattle.aplc_gen.specs.Writing.{Spot, site_of, lowered_core}
use Rattle.aplc_gen.specs.Sparing.{Flags, sure_of, site_flags, frame_spared}
use Rattle.aplc_gen.proofs.SparedRows.{frame_same}
use Rattle.aplc_gen.proofs.sparing.frame_at.Goals as goal

pub returns-clause-frame : goal.returns-clause-frame
returns-clause-frame c =
    let g = site_at c.args.base.now (lowered_core c.args.core.now) false c.args.number in
    let gone = c.in_ok-sure.ensures.flags ∙ ap (λ (s : Spot). site_flags (site_of s) c.args.flags.now) c.in_ok-flow.ensures in
    let flags = c.locals.ensures ∙ ap (λ (s : Flags). s.locals) gone in
    let sure = c.in_ok-sure.ensures.sure ∙ ap (λ (s : Spot). sure_of (site_of s)) c.in_ok-flow.ensures in
    let same = frame_same c.locals.result.now (site_flags g c.args.flags.now).locals c.in_ok-sure.sure (sure_of g) c.frame_of-frame.result.now (frame_of c.args.base.now c.args.number) flags sure c.frame_of-frame.ensures in
    IfOk-weaker c.spared_frame.result
    (λ (x : Frame). x ≡ frame_spared c.locals.result.now c.in_ok-sure.sure c.frame_of-frame.result.now)
    (λ (x : Frame). x ≡ frame_spared (site_flags g c.args.flags.now).locals (sure_of g) (frame_of c.args.base.now c.args.number))
    (λ x e. e ∙ same) c.spared_frame.ensures
