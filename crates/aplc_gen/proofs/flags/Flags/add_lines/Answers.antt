use Rattle.std.proofs.Common.{arith, ap, sym, ◌∙◌, ◌<◌, ◌+◌, length, map}
use Rattle.aplc_core.specs.PlainSteps.{effect_of}
use Rattle.aplc_gen.specs.Layouts.{the_routine}
use Rattle.aplc_gen.specs.Writing.{Spot, site_of}
use Rattle.aplc_gen.specs.Sparing.{steps_flags}
use Rattle.aplc_gen.proofs.Arms.{count_at, line_at}
use Rattle.aplc_gen.proofs.SparedWalks.{blank_flags, blank_known, stop_flags, stop_known, last_flags, last_known, more_flags, more_known}
use Rattle.aplc_gen.proofs.flags.Flags.add_lines.Goals as goal

pub loop-index-preserved-then-is_blank : goal.loop-index-preserved-then-is_blank
loop-index-preserved-then-is_blank c =
    let i = c.loop-index.index in
    let g = site_of c.args.flow.now in
    let x = map effect_of c.steps-steps.result.now in
    let many = count_at _ _ _ c.site-site.ensures c.lines-index-end.ensures.lines in
    let inside : i < length (the_routine g).steps = omega (arith, c.loop-index-test.true, many) in
    let is = line_at _ _ (i + 1) x c.site-site.ensures c.steps-steps.ensures in
    let blank = sym c.is_blank.ensures ∙ c.if-is_blank.true in (
      blank_flags g c.loop-index.known c.loop-index.through i x c.loop-index.self _ inside is blank c.loop-index.invariant.0,
      blank_known g c.loop-index.known c.loop-index.through i x _ inside is blank c.loop-index.invariant.1,
    )

pub returns-then-is_left-clause-flags : goal.returns-then-is_left-clause-flags
returns-then-is_left-clause-flags c =
    let i = c.loop-index.index in
    let g = site_of c.args.flow.now in
    let x = map effect_of c.steps-steps.result.now in
    let many = count_at _ _ _ c.site-site.ensures c.lines-index-end.ensures.lines in
    let inside : i < length (the_routine g).steps = omega (arith, c.loop-index-test.true, many) in
    let is = line_at _ _ (i + 1) x c.site-site.ensures c.steps-steps.ensures in
    let full = sym c.is_blank.ensures ∙ c.if-is_blank.false in
    let here = sym c.is_left.ensures ∙ c.if-is_left.true in
    stop_flags g c.loop-index.known c.loop-index.through i x c.loop-index.self _ inside is full here c.loop-index.invariant.0

pub returns-then-is_left-clause-known : goal.returns-then-is_left-clause-known
returns-then-is_left-clause-known c =
    let i = c.loop-index.index in
    let g = site_of c.args.flow.now in
    let x = map effect_of c.steps-steps.result.now in
    let many = count_at _ _ _ c.site-site.ensures c.lines-index-end.ensures.lines in
    let inside : i < length (the_routine g).steps = omega (arith, c.loop-index-test.true, many) in
    let is = line_at _ _ (i + 1) x c.site-site.ensures c.steps-steps.ensures in
    let full = sym c.is_blank.ensures ∙ c.if-is_blank.false in
    let here = sym c.is_left.ensures ∙ c.if-is_left.true in
    stop_known g c.loop-index.known c.loop-index.through i x _ inside is full here c.loop-index.invariant.1

pub returns-then-branches-clause-flags : goal.returns-then-branches-clause-flags
returns-then-branches-clause-flags c =
    let i = c.loop-index.index in
    let g = site_of c.args.flow.now in
    let x = map effect_of c.steps-steps.result.now in
    let many = count_at _ _ _ c.site-site.ensures c.lines-index-end.ensures.lines in
    let inside : i < length (the_routine g).steps = omega (arith, c.loop-index-test.true, many) in
    let is = line_at _ _ (i + 1) x c.site-site.ensures c.steps-steps.ensures in
    let full = sym c.is_blank.ensures ∙ c.if-is_blank.false in
    let here = sym c.is_left.ensures ∙ c.if-is_left.false in
    let on = sym c.branches.ensures ∙ c.if-branches.true in
    let step = c.in_ok-add_steps.ensures.flags ∙ ap (λ (s : Spot). steps_flags (the_routine (site_of s)).header.scope c.loop-index.known x c.loop-index.self) c.site-site.ensures in
    last_flags g c.loop-index.known c.loop-index.through i x c.loop-index.self c.add_steps.new.self _ inside is full here step on c.loop-index.invariant.0

pub returns-then-branches-clause-known : goal.returns-then-branches-clause-known
returns-then-branches-clause-known c =
    let i = c.loop-index.index in
    let g = site_of c.args.flow.now in
    let x = map effect_of c.steps-steps.result.now in
    let many = count_at _ _ _ c.site-site.ensures c.lines-index-end.ensures.lines in
    let inside : i < length (the_routine g).steps = omega (arith, c.loop-index-test.true, many) in
    let is = line_at _ _ (i + 1) x c.site-site.ensures c.steps-steps.ensures in
    let full = sym c.is_blank.ensures ∙ c.if-is_blank.false in
    let here = sym c.is_left.ensures ∙ c.if-is_left.false in
    let on = sym c.branches.ensures ∙ c.if-branches.true in
    last_known g c.loop-index.known c.add_steps.new.known c.loop-index.through i x _ inside is full here c.in_ok-add_steps.ensures.known on c.loop-index.invariant.1

pub loop-index-preserved : goal.loop-index-preserved
loop-index-preserved c =
    let i = c.loop-index.index in
    let g = site_of c.args.flow.now in
    let x = map effect_of c.steps-steps.result.now in
    let many = count_at _ _ _ c.site-site.ensures c.lines-index-end.ensures.lines in
    let inside : i < length (the_routine g).steps = omega (arith, c.loop-index-test.true, many) in
    let is = line_at _ _ (i + 1) x c.site-site.ensures c.steps-steps.ensures in
    let full = sym c.is_blank.ensures ∙ c.if-is_blank.false in
    let here = sym c.is_left.ensures ∙ c.if-is_left.false in
    let on = sym c.branches.ensures ∙ c.if-branches.false in
    let step = c.in_ok-add_steps.ensures.flags ∙ ap (λ (s : Spot). steps_flags (the_routine (site_of s)).header.scope c.loop-index.known x c.loop-index.self) c.site-site.ensures in (
      more_flags g c.loop-index.known c.add_steps.new.known c.loop-index.through i x c.loop-index.self c.add_steps.new.self _ inside is full here step c.in_ok-add_steps.ensures.known on c.loop-index.invariant.0,
      more_known g c.loop-index.known c.add_steps.new.known c.loop-index.through i x _ inside is full here c.in_ok-add_steps.ensures.known on c.loop-index.invariant.1,
    )
