use Rattle.aplc_infer.proofs.Moving.{line_moved, start_there}
use Rattle.aplc_infer.proofs.inference.settle_line.Goals as goal

pub returns : goal.returns
returns c =
    line_moved c.args.lookup.now c.args.tables.now c.settle.new.tables c.flow_out.new.tables c.in_ok-first.first c.in_ok-rest.rest c.either.result
    c.args.i c.args.function.now c.args.l c.args.line.now c.in_ok-names.names c.names.result.now c.new-walk.result c.see_statement.new.walk c.demands.result.now c.flow_of-flow.result
    c.requires.function c.requires.line (start_there c.args.lookup.now c.args.tables.now c.args.i c.args.function.now c.args.l c.in_ok-names.names c.requires.function c.in_ok-names.ensures) c.new-walk.ensures c.in_ok-see_statement.ensures c.demands.ensures c.in_ok-first.ensures c.flow_of-flow.ensures c.names.ensures c.in_ok-rest.ensures c.either.ensures
