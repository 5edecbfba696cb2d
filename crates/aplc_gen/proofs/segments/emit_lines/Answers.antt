use Rattle.std.proofs.Common.{arith, ap, sym, ◌∙◌, ◌<◌, ◌≤◌, ◌+◌, length, map}
use Rattle.std.proofs.lemmas.Result.{on_ok_weaker}
use Rattle.aplc_core.specs.PlainSteps.{effect_of}
use Rattle.aplc_gen.specs.Layouts.{the_routine}
use Rattle.aplc_gen.specs.Emitted.{go_to, leave_code}
use Rattle.aplc_gen.specs.Writing.{Spot, site_of, added}
use Rattle.aplc_gen.proofs.Arms.{count_at, line_at, width_at, blank_over, goes_to, line_ends, line_goes, lines_over}
use Rattle.aplc_gen.proofs.segments.emit_lines.Goals as goal

pub loop-index-init : goal.loop-index-init
loop-index-init c = (λ new h. h, c.requires.room)

pub loop-index-preserved-then-is_blank : goal.loop-index-preserved-then-is_blank
loop-index-preserved-then-is_blank c =
    let i = c.loop-index.index in
    let g = site_of c.args.flow.now in
    let x = map effect_of c.steps-steps.result.now in
    let many = count_at _ _ _ c.site-site.ensures c.lines-index-end.ensures.lines in
    let inside : i < length (the_routine g).steps = omega (arith, c.loop-index-test.true, many) in
    let is = line_at _ _ (i + 1) x c.site-site.ensures c.steps-steps.ensures in (
      λ new h. c.loop-index.invariant.0 new (blank_over g c.loop-index.known c.loop-index.through i x c.loop-index.b new inside is (sym c.is_blank.ensures ∙ c.if-is_blank.true) h),
      c.loop-index.invariant.1,
    )

pub returns-then-is_left : goal.returns-then-is_left
returns-then-is_left c =
    let i = c.loop-index.index in
    let g = site_of c.args.flow.now in
    let x = map effect_of c.steps-steps.result.now in
    let many = count_at _ _ _ c.site-site.ensures c.lines-index-end.ensures.lines in
    let inside : i < length (the_routine g).steps = omega (arith, c.loop-index-test.true, many) in
    let is = line_at _ _ (i + 1) x c.site-site.ensures c.steps-steps.ensures in
    on_ok_weaker c.emit_go_to.result (λ e. c.loop-index.invariant.0 c.emit_go_to.new.b (goes_to g c.loop-index.known c.loop-index.through i x c.loop-index.b c.emit_go_to.new.b inside is (sym c.is_blank.ensures ∙ c.if-is_blank.false) (sym c.is_left.ensures ∙ c.if-is_left.true) (e ∙ ap (λ (s : Spot). added (go_to (site_of s) (i + 1)) c.loop-index.b) c.site-site.ensures))) c.emit_go_to.ensures

pub emit_line-requires-clause-room : goal.emit_line-requires-clause-room
emit_line-requires-clause-room c =
    let i = c.loop-index.index in
    let g = site_of c.args.flow.now in
    let x = map effect_of c.steps-steps.result.now in
    let many = count_at _ _ _ c.site-site.ensures c.lines-index-end.ensures.lines in
    let inside : i < length (the_routine g).steps = omega (arith, c.loop-index-test.true, many) in
    let is = line_at _ _ (i + 1) x c.site-site.ensures c.steps-steps.ensures in
    let wide = width_at i (the_routine g).steps x inside is in
    let room = c.loop-index.invariant.1 in
    omega (arith, wide, room)

pub returns-then-branches : goal.returns-then-branches
returns-then-branches c =
    let i = c.loop-index.index in
    let g = site_of c.args.flow.now in
    let x = map effect_of c.steps-steps.result.now in
    let many = count_at _ _ _ c.site-site.ensures c.lines-index-end.ensures.lines in
    let inside : i < length (the_routine g).steps = omega (arith, c.loop-index-test.true, many) in
    let is = line_at _ _ (i + 1) x c.site-site.ensures c.steps-steps.ensures in
    c.loop-index.invariant.0 c.emit_line.new.b (line_ends g c.loop-index.known c.loop-index.through i x c.loop-index.b c.emit_line.new.b inside is (sym c.is_blank.ensures ∙ c.if-is_blank.false) (sym c.is_left.ensures ∙ c.if-is_left.false) c.in_ok-emit_line.ensures.line (sym c.branches.ensures ∙ c.if-branches.true))

pub loop-index-preserved : goal.loop-index-preserved
loop-index-preserved c =
    let i = c.loop-index.index in
    let g = site_of c.args.flow.now in
    let x = map effect_of c.steps-steps.result.now in
    let many = count_at _ _ _ c.site-site.ensures c.lines-index-end.ensures.lines in
    let inside : i < length (the_routine g).steps = omega (arith, c.loop-index-test.true, many) in
    let is = line_at _ _ (i + 1) x c.site-site.ensures c.steps-steps.ensures in
    let on = sym c.branches.ensures ∙ c.if-branches.false in
    let room = c.loop-index.invariant.1 in
    let more = c.in_ok-emit_line.ensures.line.grown.ints in (
      λ new h. c.loop-index.invariant.0 new (line_goes g c.loop-index.known c.emit_line.new.known c.loop-index.through i x c.loop-index.b c.emit_line.new.b new inside is (sym c.is_blank.ensures ∙ c.if-is_blank.false) (sym c.is_left.ensures ∙ c.if-is_left.false) c.in_ok-emit_line.ensures.line on (c.in_ok-emit_line.ensures.known on) h),
      omega (arith, room, more),
    )

pub returns : goal.returns
returns c =
    let g = site_of c.args.flow.now in
    let many = count_at _ _ _ c.site-site.ensures c.lines-index-end.ensures.lines in
    let behind : length (the_routine g).steps ≤ c.loop-index.index = omega (arith, c.loop-index-test.false, many) in
    on_ok_weaker c.emit_leave.result (λ e. c.loop-index.invariant.0 c.emit_leave.new.b (lines_over g c.loop-index.known c.loop-index.through c.loop-index.index c.loop-index.b c.emit_leave.new.b behind (e ∙ ap (λ (s : Spot). added (leave_code (site_of s)) c.loop-index.b) c.site-site.ensures))) c.emit_leave.ensures
