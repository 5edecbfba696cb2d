use Rattle.aplc_lex.proofs.First.{answered, only, stand}
use Rattle.aplc_lex.proofs.cutting.tokens.Goals as goal

pub returns-clause-ok : goal.returns-clause-ok
returns-clause-ok c = (answered _ _ _ _ _ c.mark-start.ensures.value c.cut_from.ensures.value c.cut_from.ensures.number c.bad_place-bad.ensures c.joined.ensures).0

pub returns-clause-only : goal.returns-clause-only
returns-clause-only c = only _ _ (answered _ _ _ _ _ c.mark-start.ensures.value c.cut_from.ensures.value c.cut_from.ensures.number c.bad_place-bad.ensures c.joined.ensures).0

pub returns-clause-stand : goal.returns-clause-stand
returns-clause-stand c = stand _ _ (answered _ _ _ _ _ c.mark-start.ensures.value c.cut_from.ensures.value c.cut_from.ensures.number c.bad_place-bad.ensures c.joined.ensures).0

pub returns-clause-refused : goal.returns-clause-refused
returns-clause-refused c = (answered _ _ _ _ _ c.mark-start.ensures.value c.cut_from.ensures.value c.cut_from.ensures.number c.bad_place-bad.ensures c.joined.ensures).1
