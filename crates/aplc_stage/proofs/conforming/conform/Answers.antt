use Rattle.std.proofs.Common.{◌∙◌, ap, length}
use Rattle.aplc_stage.proofs.Setting.{locals_many}
use Rattle.aplc_stage.proofs.Commons.{conform_built}
use Rattle.aplc_stage.proofs.conforming.conform.Goals as goal

pub conform_statement-requires-clause-left : goal.conform_statement-requires-clause-left
conform_statement-requires-clause-left c = ap length (c.from_vec.ensures ∙ c.in_ok-lengths.ensures.names) ∙ locals_many c.args.b.now.ints c.args.left.now

pub conform_statement-requires-clause-right : goal.conform_statement-requires-clause-right
conform_statement-requires-clause-right c = ap length (c.from_vec.ensures ∙ c.in_ok-lengths.ensures.names) ∙ locals_many c.args.b.now.ints c.args.left.now ∙ c.requires.many

pub returns-clause-ok : goal.returns-clause-ok
returns-clause-ok c =
    conform_built c.args.b.now c.fresh_ints.new.b c.fresh_int.new.self c.fresh_int-2.new.self c.emit.new.self c.args.left.now c.args.right.now c.from_vec.result c.in_ok-keeps_left.keeps_left c.in_ok-keeps_right.keeps_right c.in_ok-statement.statement
    c.requires.many c.requires.left c.requires.right (c.from_vec.ensures ∙ c.in_ok-lengths.ensures.names) c.in_ok-lengths.ensures.given
    c.in_ok-keeps_left.ensures.name c.in_ok-keeps_left.ensures.given c.in_ok-keeps_right.ensures.name c.in_ok-keeps_right.ensures.given
    c.in_ok-statement.ensures c.in_ok-emit.ensures.ok
