use Rattle.aplc_gen.specs.Writing.{site_of}
use Rattle.aplc_gen.proofs.BodyCodes.{given_first, room_there, no_outer, function_is}
use Rattle.aplc_gen.proofs.generating.function.Goals as goal

pub emit_body-requires-clause-room : goal.emit_body-requires-clause-room
emit_body-requires-clause-room c = room_there c.new-b.result c.reserve.new.b _ _ c.in_ok-reserve.ensures (given_first _ _ _ _ c.site-site.ensures c.base.ensures.base c.lines_width.ensures.width)

pub finished-requires : goal.finished-requires
finished-requires c = no_outer (site_of c.args.flow.now) c.new-b.result c.reserve.new.b c.emit_body.new.b _ c.new-b.ensures c.in_ok-reserve.ensures c.in_ok-emit_body.ensures

pub returns : goal.returns
returns c =
    function_is (site_of c.args.flow.now) c.new-b.result c.reserve.new.b c.emit_body.new.b _ c.finished.result c.new-b.ensures c.in_ok-reserve.ensures
    (given_first _ _ _ _ c.site-site.ensures c.base.ensures.base c.lines_width.ensures.width) c.in_ok-emit_body.ensures c.finished.ensures.function c.finished.ensures.few
