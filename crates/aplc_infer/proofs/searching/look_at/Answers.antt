use Rattle.aplc_infer.proofs.Granted.{looked}
use Rattle.aplc_infer.proofs.searching.look_at.Goals as goal

pub returns : goal.returns
returns c =
    looked c.args.lookup.now c.args.tables.now c.settle.new.tables c.spread.new.tables c.in_ok-first.first c.in_ok-rest.rest
    c.args.i c.args.function.now c.args.l c.args.line.now c.in_ok-names.names c.names.result.now c.new-walk.result c.see_statement.new.walk c.demands.result.now c.flow_of-flow.result
    c.requires.function c.requires.line c.in_ok-names.ensures c.new-walk.ensures c.in_ok-see_statement.ensures c.demands.ensures c.in_ok-first.ensures c.flow_of-flow.ensures c.names.ensures c.in_ok-rest.ensures
