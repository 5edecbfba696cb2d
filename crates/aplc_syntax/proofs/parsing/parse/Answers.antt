use Rattle.aplc_syntax.proofs.Parsed.{parsed_only, parsed_clean, parsed_distinct}
use Rattle.aplc_syntax.proofs.parsing.parse.Goals as goal

pub returns-clause-only : goal.returns-clause-only
returns-clause-only c = parsed_only c.args.text.now c.args.tokens.now c.program.result c.program.ensures.program

pub returns-clause-clean : goal.returns-clause-clean
returns-clause-clean c = parsed_clean c.args.text.now c.args.tokens.now c.program.result c.program.ensures.program

pub returns-clause-distinct : goal.returns-clause-distinct
returns-clause-distinct c = parsed_distinct c.args.text.now c.args.tokens.now c.program.result c.requires.tokens c.program.ensures.program
