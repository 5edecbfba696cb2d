use Rattle.std.proofs.lemmas.Result.{err_from_is_err_and}
use Rattle.std.proofs.Common.{◌∙◌, sym, pos, true, false}
use Rattle.aplc_cread.proofs.Rules.{halts_within, within_found, halts_first, halts_later, halts_map, found_map, bind_found}
use Rattle.aplc_cread.specs.Tables.{minus}
use Rattle.aplc_cread.proofs.Tables.{within_integer, joint_minus, minus_of}
use Rattle.aplc_cread.proofs.Exprs.{pos_of}
use Rattle.aplc_cread.proofs.table.integer.Goals as goal

pub returns-in_err-rest : goal.returns-in_err-rest
returns-in_err-rest c = let p = err_from_is_err_and c.from_residual.result c.from_residual.ensures.1 in rw (p.1, p.2)
    (halts_within (within_integer true _ (sym c.is_minus.ensures ∙ c.if-is_minus.true)) (halts_first joint_minus c.in_err-rest.ensures))

pub returns-in_err-n : goal.returns-in_err-n
returns-in_err-n c = let p = err_from_is_err_and c.from_residual-in_err-n.result c.from_residual-in_err-n.ensures.1 in rw (p.1, p.2)
    (halts_within (within_integer true _ (sym c.is_minus.ensures ∙ c.if-is_minus.true)) (halts_later joint_minus c.in_ok-rest.ensures (halts_map minus c.in_err-n.ensures)))

pub returns-then-is_minus : goal.returns-then-is_minus
returns-then-is_minus c = rw (minus_of c.in_ok-n.n c.in_ok-n.ensures.is.above c.in_ok-n.ensures.is.below)
    (within_found (within_integer true _ (sym c.is_minus.ensures ∙ c.if-is_minus.true)) (bind_found joint_minus c.in_ok-rest.ensures (found_map minus c.in_ok-n.ensures)))

pub returns-in_err-n-2 : goal.returns-in_err-n-2
returns-in_err-n-2 c = let p = err_from_is_err_and c.from_residual-in_err-n-2.result c.from_residual-in_err-n-2.ensures.1 in rw (p.1, p.2)
    (halts_within (within_integer false _ (sym c.is_minus.ensures ∙ c.if-is_minus.false)) (halts_map (λ n. pos n) c.in_err-n-2.ensures))

pub returns : goal.returns
returns c = rw (pos_of c.in_ok-n-2.n c.in_ok-n-2.ensures.is.below) (within_found (within_integer false _ (sym c.is_minus.ensures ∙ c.if-is_minus.false)) (found_map (λ n. pos n) c.in_ok-n-2.ensures))
