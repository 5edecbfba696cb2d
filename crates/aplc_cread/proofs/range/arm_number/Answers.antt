use Rattle.std.proofs.lemmas.Result.{err_from_is_err_and}
use Rattle.std.proofs.Common.{refl, codes}
use Rattle.aplc_cread.proofs.Rules.{halts_within, within_found, followed_first, followed_later, followed_found}
use Rattle.aplc_cread.proofs.Arms.{within_ranged_then}
use Rattle.aplc_cread.proofs.range.arm_number.Goals as goal

pub returns-in_err-n : goal.returns-in_err-n
returns-in_err-n c = let p = err_from_is_err_and c.from_residual.result c.from_residual.ensures.1 in rw (p.1, p.2)
    (halts_within (within_ranged_then _ _ _) (followed_first (codes ": {\n") refl c.in_err-n.ensures))

pub returns-in_err-rest : goal.returns-in_err-rest
returns-in_err-rest c = let p = err_from_is_err_and c.from_residual-in_err-rest.result c.from_residual-in_err-rest.ensures.1 in rw (p.1, p.2)
    (halts_within (within_ranged_then _ _ _) (followed_later (codes ": {\n") refl c.in_ok-n.ensures c.in_err-rest.ensures))

pub returns : goal.returns
returns c = within_found (within_ranged_then _ _ _) (followed_found (codes ": {\n") refl c.in_ok-n.ensures c.in_ok-rest.ensures)
