use Rattle.aplc_infer.proofs.Moving.{entry_made}
use Rattle.aplc_infer.proofs.inference.entry.Goals as goal

pub returns : goal.returns
returns c =
    entry_made c.args.lookup.now c.args.tables.now c.args.i c.count.result c.args.function.now c.blank-names.result c.set_parameter.new.names c.set_parameter-2.new.names c.at_cell-right.result c.at_cell-left.result
    c.requires.function c.count.ensures c.blank-names.ensures c.at_cell-right.ensures c.in_ok-set_parameter.ensures c.at_cell-left.ensures c.in_ok-set_parameter-2.ensures
