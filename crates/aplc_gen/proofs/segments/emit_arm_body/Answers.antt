use Rattle.std.proofs.Common.{ap, sym, ◌∙◌, ◌+◌, map}
use Rattle.std.proofs.lemmas.Result.{on_ok_weaker}
use Rattle.aplc_core.specs.PlainSteps.{effect_of}
use Rattle.aplc_gen.specs.Emitted.{lead_code}
use Rattle.aplc_gen.specs.Writing.{Spot, site_of, added}
use Rattle.aplc_gen.specs.Flows.{lead_of}
use Rattle.aplc_gen.proofs.Arms.{line_at, blank_arm, full_arm}
use Rattle.aplc_gen.proofs.segments.emit_arm_body.Goals as goal

pub returns-then-is_blank : goal.returns-then-is_blank
returns-then-is_blank c =
    let i = c.args.index in
    let x = map effect_of c.steps.result.now in
    let lead = lead_of c.line_lead.result in
    on_ok_weaker c.emit_lead.result (λ e. blank_arm (site_of c.args.flow.now) i x c.args.b.now c.emit_lead.new.b lead c.requires.inside (line_at _ _ (i + 1) x c.site-site.ensures c.steps.ensures) (sym c.is_blank.ensures ∙ c.if-is_blank.true) c.line_lead.ensures (e ∙ ap (λ (s : Spot). added (lead_code (site_of s) lead) c.args.b.now) c.site-site.ensures)) c.emit_lead.ensures

pub returns : goal.returns
returns c =
    let i = c.args.index in
    let x = map effect_of c.steps.result.now in
    on_ok_weaker c.emit.result (λ e. full_arm (site_of c.args.flow.now) i x c.in_ok-lines.lines c.args.b.now c.segment.new.b c.emit.new.self c.requires.inside (line_at _ _ (i + 1) x c.site-site.ensures c.steps.ensures) (sym c.is_blank.ensures ∙ c.if-is_blank.false) c.in_ok-lines.ensures e) c.emit.ensures.ok
