use Rattle.aplc_infer.specs.Tables.{family_of}
use Rattle.aplc_infer.proofs.Refused.{line_first}
use Rattle.aplc_infer.proofs.refusals.line_refusal.Goals as goal

pub returns : goal.returns
returns c =
    line_first c.args.lookup.now (family_of c.args.tables.now) c.args.i c.args.function.now c.args.n c.args.line.now c.in_ok-names.names c.new-walk.result c.see_statement.new.walk c.refused.result.now c.first_listed-first.result
    c.requires.function c.in_ok-names.ensures c.new-walk.ensures c.in_ok-see_statement.ensures c.refused.ensures c.first_listed-first.ensures
