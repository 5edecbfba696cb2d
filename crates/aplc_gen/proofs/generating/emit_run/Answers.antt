use Rattle.std.proofs.Common.{◌∙◌, ap}
use Rattle.std.proofs.lemmas.Result.{on_ok_weaker}
use Rattle.aplc_gen.specs.Emitted.{first_known, go_to}
use Rattle.aplc_gen.specs.Writing.{Spot, site_of, added}
use Rattle.aplc_gen.proofs.BodyCodes.{run_loops, run_straight}
use Rattle.aplc_gen.proofs.generating.emit_run.Goals as goal

pub returns-then-loops : goal.returns-then-loops
returns-then-loops c =
    let goes = c.in_ok-emit_go_to.ensures ∙ ap (λ (s : Spot). added (go_to (site_of s) c.landing.result) c.args.b.now) c.site.ensures in
    on_ok_weaker c.emit_loop.result
    (λ h. run_loops (site_of c.args.flow.now) c.landing.result c.loops.result c.args.b.now c.emit_go_to.new.b c.emit_loop.new.b c.loops.ensures c.if-loops.true c.landing.ensures goes h)
    c.emit_loop.ensures

pub returns : goal.returns
returns c =
    let known = c.in_ok-known.ensures ∙ ap (λ (s : Spot). first_known (site_of s)) c.site-2.ensures in
    on_ok_weaker c.emit_lines.result
    (λ h. run_straight (site_of c.args.flow.now) c.in_ok-known.known c.loops.result c.args.b.now c.emit_lines.new.b c.loops.ensures c.if-loops.false known h)
    c.emit_lines.ensures
