use Rattle.std.proofs.Common.{◌∙◌, ap}
use Rattle.std.proofs.lemmas.Result.{on_ok_weaker}
use Rattle.aplc_gen.specs.Emitted.{enter_code}
use Rattle.aplc_gen.specs.Writing.{Spot, site_of, added}
use Rattle.aplc_gen.proofs.BodyCodes.{body_is}
use Rattle.aplc_gen.proofs.generating.emit_body.Goals as goal

pub returns : goal.returns
returns c =
    let enter = c.in_ok-emit_enter.ensures ∙ ap (λ (s : Spot). added (enter_code (site_of s)) c.args.b.now) c.site.ensures in
    on_ok_weaker c.emit_run.result
    (λ h. body_is (site_of c.args.flow.now) c.args.b.now c.emit_enter.new.b c.emit_run.new.b enter h)
    c.emit_run.ensures
