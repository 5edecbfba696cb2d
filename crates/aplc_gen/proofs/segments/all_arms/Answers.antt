use Rattle.std.proofs.Common.{arith, sym, ◌∙◌, ◌<◌, ◌≤◌, length}
use Rattle.aplc_gen.specs.Layouts.{the_routine}
use Rattle.aplc_gen.specs.Writing.{site_of}
use Rattle.aplc_gen.proofs.Arms.{count_at, arms_begin, arm_added, arm_left_out, arms_over}
use Rattle.aplc_gen.proofs.segments.all_arms.Goals as goal

pub loop-index-init : goal.loop-index-init
loop-index-init c = (arms_begin (site_of c.args.flow.now) c.args.b.now _ c.new-arms.ensures, c.requires.room)

pub loop-index-preserved-then-not-is_entry : goal.loop-index-preserved-then-not-is_entry
loop-index-preserved-then-not-is_entry c =
    let g = site_of c.args.flow.now in
    let many = count_at _ _ _ c.site.ensures c.lines-index-end.ensures.lines in
    let inside : c.loop-index.index < length (the_routine g).steps = omega (arith, c.loop-index-test.true, many) in
    (arm_left_out g c.loop-index.index c.args.b.now c.loop-index.b c.loop-index.arms inside (sym c.is_entry.ensures ∙ c.if-not-is_entry.true) c.loop-index.invariant.0, c.loop-index.invariant.1)

pub loop-index-preserved : goal.loop-index-preserved
loop-index-preserved c =
    let g = site_of c.args.flow.now in
    let many = count_at _ _ _ c.site.ensures c.lines-index-end.ensures.lines in
    let inside : c.loop-index.index < length (the_routine g).steps = omega (arith, c.loop-index-test.true, many) in
    let room = c.loop-index.invariant.1 in
    let more = c.in_ok-next.ensures.grown.ints in (
      arm_added g c.loop-index.index c.args.b.now c.loop-index.b c.line_arm.new.b c.loop-index.arms c.push.new.self c.in_ok-next.next inside (sym c.is_entry.ensures ∙ c.if-not-is_entry.false) c.in_ok-next.ensures c.in_ok-push.ensures.ok c.loop-index.invariant.0,
      omega (arith, room, more),
    )

pub returns : goal.returns
returns c =
    let g = site_of c.args.flow.now in
    let many = count_at _ _ _ c.site.ensures c.lines-index-end.ensures.lines in
    let behind : length (the_routine g).steps ≤ c.loop-index.index = omega (arith, c.loop-index-test.false, many) in
    arms_over g c.loop-index.index c.args.b.now c.loop-index.b c.loop-index.arms behind c.loop-index.invariant.0
