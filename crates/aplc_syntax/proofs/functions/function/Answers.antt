use Rattle.aplc_syntax.specs.Noted.{headers_of}
use Rattle.aplc_syntax.proofs.Shaped.{parts_best, refused_none, best_some, parts_is}
use Rattle.aplc_syntax.proofs.functions.function.Goals as goal

pub returns-in-None-clause-refused : goal.returns-in-None-clause-refused
returns-in-None-clause-refused c = refused_none (headers_of c.args.known.now.headers.items) c.args.block.now c.in-Ok-read_header.header c.earlier-first.result _ c.sooner_of.result
    (parts_best (headers_of c.args.known.now.headers.items) c.args.block.now c.in-Ok-read_header.header _ _ _ _ _ _ _ c.earlier-first.result c.as_slice-2.ensures c.in-Ok-read_header.ensures c.as_slice.ensures c.in-Ok.ensures.first c.end_cause-end.ensures c.as_slice-3.ensures c.line_cause.ensures c.earlier-shape.ensures c.earlier-first.ensures)
    c.in-None.is c.refusal.ensures c.sooner_of.ensures

pub returns-in-Some-first-clause-refused : goal.returns-in-Some-first-clause-refused
returns-in-Some-first-clause-refused c = best_some (headers_of c.args.known.now.headers.items) c.args.block.now c.in-Ok-read_header.header c.in-Some.header c.earlier-first.result _
    (parts_best (headers_of c.args.known.now.headers.items) c.args.block.now c.in-Ok-read_header.header _ _ _ _ _ _ _ c.earlier-first.result c.as_slice-2.ensures c.in-Ok-read_header.ensures c.as_slice.ensures c.in-Ok.ensures.first c.end_cause-end.ensures c.as_slice-3.ensures c.line_cause.ensures c.earlier-shape.ensures c.earlier-first.ensures)
    c.in-Some.is c.in-Some-first.is

pub returns-in-None-first-clause-clean : goal.returns-in-None-first-clause-clean
returns-in-None-first-clause-clean c = best_some (headers_of c.args.known.now.headers.items) c.args.block.now c.in-Ok-read_header.header c.in-Some.header c.earlier-first.result _
    (parts_best (headers_of c.args.known.now.headers.items) c.args.block.now c.in-Ok-read_header.header _ _ _ _ _ _ _ c.earlier-first.result c.as_slice-2.ensures c.in-Ok-read_header.ensures c.as_slice.ensures c.in-Ok.ensures.first c.end_cause-end.ensures c.as_slice-3.ensures c.line_cause.ensures c.earlier-shape.ensures c.earlier-first.ensures)
    c.in-Some.is c.in-None-first.is

pub returns-in-None-first-clause-function : goal.returns-in-None-first-clause-function
returns-in-None-first-clause-function c = parts_is c.args.text.now (headers_of c.args.known.now.headers.items) c.args.block.now c.in-Ok-read_header.header c.in-Some.header _ _ _ c.in-Ok.body.lines.items c.from_vec.result c.in-Ok.body.first _ _ _ c.earlier-first.result
    c.as_slice-2.ensures c.in-Ok-read_header.ensures c.in-Some.is c.as_slice.ensures c.in-Ok.ensures.lines c.end_cause-end.ensures c.as_slice-3.ensures c.line_cause.ensures c.earlier-shape.ensures c.earlier-first.ensures c.in-None-first.is c.from_vec.ensures
