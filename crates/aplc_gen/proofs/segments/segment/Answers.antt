use Rattle.std.proofs.Common.{◌∙◌, ◌+◌, ap, drop}
use Rattle.aplc_gen.specs.Layouts.{the_routine}
use Rattle.aplc_gen.specs.Emitted.{is_line_test}
use Rattle.aplc_gen.specs.Writing.{Spot, site_of}
use Rattle.aplc_gen.proofs.Arms.{is_open, segment_is}
use Rattle.aplc_gen.proofs.segments.segment.Goals as goal

pub close-lines-requires : goal.close-lines-requires
close-lines-requires c = is_open c.args.b.now c.«open».new.self c.emit_lines.new.b c.in_ok-emit_lines.ensures.code c.in_ok-open.ensures.ok c.in_ok-emit_lines.ensures.grown

pub returns : goal.returns
returns c =
    let g = site_of c.args.flow.now in
    let i = c.args.index in
    segment_is g (i + 1) (drop i (the_routine g).steps) c.in_ok-known.known c.in_ok-test.test c.close-lines.result c.args.b.now c.«open».new.self c.emit_lines.new.b c.close-lines.new.self
    c.in_ok-known.ensures (c.in_ok-test.ensures ∙ ap (λ (s : Spot). is_line_test (site_of s) (i + 1)) c.site.ensures) c.in_ok-open.ensures.ok c.in_ok-emit_lines.ensures c.close-lines.ensures.block c.close-lines.ensures.rest c.close-lines.ensures.names
