use Rattle.std.proofs.Common.{◌∙◌, ap}
use Rattle.std.proofs.lemmas.Result.{on_ok_weaker}
use Rattle.aplc_gen.specs.Layouts.{line_place}
use Rattle.aplc_gen.specs.Emitted.{leave_code}
use Rattle.aplc_gen.specs.Writing.{Spot, site_of}
use Rattle.aplc_gen.proofs.BodyCodes.{loop_is}
use Rattle.aplc_gen.proofs.generating.emit_loop.Goals as goal

pub returns : goal.returns
returns c =
    let out = c.in_ok-out.ensures.code ∙ ap (λ (s : Spot). leave_code (site_of s)) c.site-site.ensures in
    let place = c.line_place.ensures.line ∙ ap (λ (s : Spot). line_place (site_of s)) c.site-site.ensures in
    on_ok_weaker c.emit.result
    (λ e. loop_is (site_of c.args.flow.now) c.line_place.result c.in_ok-arms.arms c.in_ok-out.out c.in_ok-turn.turn c.args.b.now c.all_arms.new.b c.leaving.new.b c.emit.new.self c.in_ok-arms.ensures out c.in_ok-out.ensures.same place c.in_ok-turn.ensures e)
    c.emit.ensures.ok
