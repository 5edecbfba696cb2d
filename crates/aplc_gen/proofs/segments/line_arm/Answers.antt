use Rattle.std.proofs.Common.{◌+◌, drop}
use Rattle.aplc_gen.specs.Layouts.{the_routine}
use Rattle.aplc_gen.specs.Writing.{site_of}
use Rattle.aplc_gen.proofs.Arms.{is_open, line_arm_is}
use Rattle.aplc_gen.proofs.segments.line_arm.Goals as goal

pub close-body-requires : goal.close-body-requires
close-body-requires c = is_open c.args.b.now c.«open».new.self c.emit_arm_body.new.b c.in_ok-emit_arm_body.ensures.code c.in_ok-open.ensures.ok c.in_ok-emit_arm_body.ensures.grown

pub returns : goal.returns
returns c =
    let g = site_of c.args.flow.now in
    let i = c.args.index in
    line_arm_is g (i + 1) (drop i (the_routine g).steps) c.close-body.result c.arm_with.result c.args.b.now c.«open».new.self c.emit_arm_body.new.b c.close-body.new.self
    c.in_ok-open.ensures.ok c.in_ok-emit_arm_body.ensures c.close-body.ensures.block c.close-body.ensures.rest c.close-body.ensures.names c.arm_with.ensures
