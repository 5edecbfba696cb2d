use Rattle.std.proofs.lemmas.Result.{err_from_is_err_and}
use Rattle.std.proofs.Common.{subst}
use Rattle.aplc_cread.specs.Reading.{Any, Reads}
use Rattle.aplc_cread.specs.AplNames.{Longer}
use Rattle.aplc_cread.proofs.AplNames.{delta_halts, delta_upper, delta_lower}
use Rattle.aplc_cread.proofs.name.first_mark.Goals as goal

pub returns-in_err-i : goal.returns-in_err-i
returns-in_err-i c = let p = err_from_is_err_and c.from_residual.result c.from_residual.ensures.1 in rw (p.1, p.2) (delta_halts _ _ c.requires.other c.in_err-i.ensures)

pub returns-then-i-eq0 : goal.returns-then-i-eq0
returns-then-i-eq0 c = delta_upper _ _ _ _ c.more.result c.requires.empty c.requires.other c.if-i-eq0.true c.in_ok-i.ensures
    (subst (λ o. Reads Any (Longer o 62) c.in_ok-i.rest.now c.more.result) c.in_ok-out.ensures c.more.ensures)

pub returns : goal.returns
returns c = delta_lower _ _ _ _ c.more-2.result c.requires.empty c.requires.other c.if-i-eq0.false c.in_ok-i.ensures
    (subst (λ o. Reads Any (Longer o 62) c.in_ok-i.rest.now c.more-2.result) c.in_ok-out-2.ensures c.more-2.ensures)
