use Rattle.std.proofs.Common.{arith, sym, ◌∙◌, ◌<◌, length}
use Rattle.aplc_gen.specs.Layouts.{the_routine}
use Rattle.aplc_gen.specs.Writing.{site_of}
use Rattle.aplc_gen.proofs.Arms.{count_at}
use Rattle.aplc_gen.proofs.SparedWalks.{arm_flags, no_arm}
use Rattle.aplc_gen.proofs.flags.Flags.add_arms.Goals as goal

pub loop-index-preserved-then-not-is_entry : goal.loop-index-preserved-then-not-is_entry
loop-index-preserved-then-not-is_entry c =
    let g = site_of c.args.flow.now in
    let many = count_at _ _ _ c.site.ensures c.lines-index-end.ensures.lines in
    let inside : c.loop-index.index < length (the_routine g).steps = omega (arith, c.loop-index-test.true, many) in
    no_arm g c.args.sure.now c.loop-index.index c.loop-index.self _ inside (sym c.is_entry.ensures ∙ c.if-not-is_entry.true) c.loop-index.invariant

pub loop-index-preserved : goal.loop-index-preserved
loop-index-preserved c =
    let g = site_of c.args.flow.now in
    let many = count_at _ _ _ c.site.ensures c.lines-index-end.ensures.lines in
    let inside : c.loop-index.index < length (the_routine g).steps = omega (arith, c.loop-index-test.true, many) in
    arm_flags g c.args.sure.now c.in_ok-known.known c.loop-index.index c.loop-index.self c.add_lines.new.self _ inside (sym c.is_entry.ensures ∙ c.if-not-is_entry.false) c.in_ok-known.ensures c.in_ok-add_lines.ensures.flags c.loop-index.invariant
