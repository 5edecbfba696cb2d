use Rattle.std.proofs.Common.{◌∙◌, ap, sym, subst, Option}
use Rattle.aplc_lex.specs.declared.token.Refusal.{Refusal}
use Rattle.aplc_syntax.specs.Refusals.{bad_declaration}
use Rattle.aplc_syntax.specs.Held.{row_of}
use Rattle.aplc_lex.specs.Firsts.{IsFirstOf}
use Rattle.aplc_syntax.specs.Causes.{OfBare, at_first}
use Rattle.aplc_syntax.proofs.Firsts.{best_of, first_more, first_end}
use Rattle.aplc_syntax.proofs.outside.bare_cause.Goals as goal

pub loop-row-preserved : goal.loop-row-preserved
loop-row-preserved c = first_more row_of OfBare c.args.rows.now c.loop-row.row-index c.row-item.result c.loop-row.first c.at_first.result _ c.loop-row-test.true c.row-item.is
    (subst (λ (o : Option Refusal). IsFirstOf (OfBare (row_of c.row-item.result)) o) (sym (c.at_first.ensures ∙ ap (at_first bad_declaration) c.as_slice.ensures)) (best_of (at_first bad_declaration c.row-item.result.words)))
    c.earlier-first.ensures c.loop-row.invariant

pub returns : goal.returns
returns c = first_end row_of OfBare c.args.rows.now c.loop-row.row-index c.loop-row.first c.loop-row-test.false c.loop-row.invariant
