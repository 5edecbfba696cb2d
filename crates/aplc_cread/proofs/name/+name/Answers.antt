use Rattle.std.proofs.lemmas.Result.{err_from_is_err_and}
use Rattle.std.proofs.Common.{◌∙◌, sym, subst, arith, ◌-◌}
use Rattle.aplc_cread.specs.Reading.{Any, Reads}
use Rattle.aplc_cread.specs.AplNames.{Longer, starts_more}
use Rattle.aplc_cread.proofs.Rules.{halts_at}
use Rattle.aplc_cread.proofs.AplNames.{more_char, no_char, mark_halts, mark_end, mark_upper, mark_lower, mark_room, starts_of, one_less}
use Rattle.aplc_cread.proofs.name.+name.Goals as goal

pub more-returns-then-left-eq0 : goal.more-returns-then-left-eq0
more-returns-then-left-eq0 t c = halts_at (no_char _ _ _ _ _ c.if-left-eq0.true (sym (starts_of starts_more c.in-Some.ensures) ∙ sym c.starts_more.ensures ∙ c.if-not-starts_more.false) c.in-Some.ensures)

pub more-returns : goal.more-returns
more-returns t c = more_char _ _ _ _ _ _ c.more.result (one_less _ (omega (arith, c.if-left-eq0.false))) (sym (starts_of starts_more c.in-Some.ensures) ∙ sym c.starts_more.ensures ∙ c.if-not-starts_more.false) c.in-Some.ensures
    (subst (λ o. Reads Any (Longer o (c.args.left - 1)) c.in-Some.front.1.now c.more.result) c.in_ok-out.ensures c.more.ensures)

pub marked-returns-in_err-i : goal.marked-returns-in_err-i
marked-returns-in_err-i t c = let p = err_from_is_err_and c.from_residual.result c.from_residual.ensures.1 in rw (p.1, p.2) (mark_halts _ _ _ _ c.requires c.in_err-i.ensures)

pub marked-returns-then-i-eq0 : goal.marked-returns-then-i-eq0
marked-returns-then-i-eq0 t c = mark_end _ _ _ _ _ c.requires c.if-i-eq0.true c.in_ok-i.ensures

pub marked-returns-then-i-eq1 : goal.marked-returns-then-i-eq1
marked-returns-then-i-eq1 t c = mark_upper _ _ _ _ _ _ c.more.result (one_less _ (mark_room _ _ c.if-i-eq0.false c.in_ok-i.ensures.is.within c.in_ok-i.ensures.is.may)) c.requires c.if-i-eq1.true c.in_ok-i.ensures
    (subst (λ o. Reads Any (Longer o (c.args.left - 1)) c.in_ok-i.rest.now c.more.result) c.in_ok-out.ensures c.more.ensures)

pub marked-returns : goal.marked-returns
marked-returns t c = mark_lower _ _ _ _ _ _ c.more-2.result (one_less _ (mark_room _ _ c.if-i-eq0.false c.in_ok-i.ensures.is.within c.in_ok-i.ensures.is.may)) c.requires c.if-i-eq0.false c.if-i-eq1.false c.in_ok-i.ensures
    (subst (λ o. Reads Any (Longer o (c.args.left - 1)) c.in_ok-i.rest.now c.more-2.result) c.in_ok-out-2.ensures c.more-2.ensures)
