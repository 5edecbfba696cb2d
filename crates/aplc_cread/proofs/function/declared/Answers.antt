use Rattle.std.proofs.lemmas.Result.{err_from_is_err_and}
use Rattle.std.proofs.Common.{subst, true, false, arith}
use Rattle.aplc_cprof.specs.WellFormed.{Scope}
use Rattle.aplc_cread.specs.Reading.{Found, Halts, Any, OneOf}
use Rattle.aplc_cread.specs.Stmts.{openings, opening_may}
use Rattle.aplc_cread.proofs.Rules.{halts_within, reads_within, halts_first, reads_later}
use Rattle.aplc_cread.proofs.Functions.{within_declared, joint_opening}
use Rattle.aplc_cread.proofs.function.declared.Goals as goal

pub returns-in_err-i : goal.returns-in_err-i
returns-in_err-i c = let p = err_from_is_err_and c.from_residual.result c.from_residual.ensures.1 in rw (p.1, p.2)
    (let P : Scope → Type 0 = λ sc. Halts Any (OneOf openings (opening_may sc c.args.mode.limit true false)) c.args.input.now c.in_err-i.field-0.0 in
    halts_within (within_declared c.args.mode c.args.counts c.args.ints _ (omega arith)) (halts_first (joint_opening c.args.mode c.args.counts c.args.ints c.requires.some) (subst P c.names_of-names.ensures.scope c.in_err-i.ensures)))

pub returns : goal.returns
returns c =
    let P : Scope → Type 0 = λ sc. Found Any (OneOf openings (opening_may sc c.args.mode.limit true false)) c.args.input.now c.in_ok-i.i c.in_ok-i.rest.now in
    reads_within Any c.behind_opening.result (within_declared c.args.mode c.args.counts c.args.ints _ (omega arith)) (reads_later c.behind_opening.result (joint_opening c.args.mode c.args.counts c.args.ints c.requires.some)
    (subst P c.names_of-names.ensures.scope c.in_ok-i.ensures) c.behind_opening.ensures)
