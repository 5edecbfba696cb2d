use Rattle.std.proofs.Common.{List, sym, ◌∙◌, subst}
use Rattle.aplc_syntax.specs.declared.word.Word.{Word}
use Rattle.aplc_syntax.specs.Words.{Laid}
use Rattle.aplc_syntax.specs.Refusals.{StandsIn}
use Rattle.aplc_syntax.specs.Held.{row_of}
use Rattle.aplc_syntax.specs.Noted.{headers_of}
use Rattle.aplc_syntax.proofs.Placed.{laid_sentence}
use Rattle.aplc_syntax.proofs.Clean.{clean_statement}
use Rattle.aplc_syntax.proofs.functions.line.Goals as goal

pub statement-requires-clause-laid : goal.statement-requires-clause-laid
statement-requires-clause-laid c = subst (λ (ws : List Word). Laid c.args.text.now 0 ws) (sym (c.deref.ensures.value ∙ c.in-Ok.ensures)) (laid_sentence c.args.text.now (headers_of c.args.known.now.headers.items) (row_of c.args.row.now) c.requires.laid)

pub returns-in-Ok-statement-clause-clean : goal.returns-in-Ok-statement-clause-clean
returns-in-Ok-statement-clause-clean c = λ r h. clean_statement c.args.text.now _ _ r c.in-Ok-statement.ensures.statement (subst (λ (ws : List Word). StandsIn ws r) (sym (c.deref.ensures.value ∙ c.in-Ok.ensures)) h)
