use Rattle.std.proofs.lemmas.Result.{err_from_is_err_and}
use Rattle.std.proofs.Common.{subst, true}
use Rattle.aplc_cprof.specs.WellFormed.{Scope}
use Rattle.aplc_cread.specs.Reading.{Found, Halts, Any, OneOf}
use Rattle.aplc_cread.specs.Stmts.{openings, opening_may}
use Rattle.aplc_cread.proofs.Rules.{halts_within, reads_within, halts_first, halts_later, reads_later}
use Rattle.aplc_cread.proofs.Functions.{within_function, joint_started, joint_ints, started_ints, started_reads}
use Rattle.aplc_cread.proofs.function.function.Goals as goal

pub returns-in_err-i : goal.returns-in_err-i
returns-in_err-i c = let p = err_from_is_err_and c.from_residual.result c.from_residual.ensures.1 in rw (p.1, p.2)
    (let P : Scope → Type 0 = λ sc. Halts Any (OneOf openings (opening_may sc c.args.mode.limit true true)) c.args.input.now c.in_err-i.field-0.0 in
    halts_within (within_function c.args.mode c.args.counts _) (halts_first (joint_started c.args.mode c.args.counts c.requires.some) (subst P c.names_of-names.ensures.scope c.in_err-i.ensures)))

pub returns-then-i-ne17 : goal.returns-then-i-ne17
returns-then-i-ne17 c =
    let P : Scope → Type 0 = λ sc. Found Any (OneOf openings (opening_may sc c.args.mode.limit true true)) c.args.input.now c.in_ok-i.i c.in_ok-i.rest.now in
    reads_within Any c.behind_opening.result (within_function c.args.mode c.args.counts _) (reads_later c.behind_opening.result (joint_started c.args.mode c.args.counts c.requires.some)
    (subst P c.names_of-names.ensures.scope c.in_ok-i.ensures) (started_reads c.args.mode c.args.counts c.in_ok-i.i _ c.behind_opening.result c.in_ok-i.ensures.is.within c.if-i-ne17.true c.behind_opening.ensures))

pub returns-in_err-ints : goal.returns-in_err-ints
returns-in_err-ints c = let p = err_from_is_err_and c.from_residual-in_err-ints.result c.from_residual-in_err-ints.ensures.1 in rw (p.1, p.2)
    (let P : Scope → Type 0 = λ sc. Found Any (OneOf openings (opening_may sc c.args.mode.limit true true)) c.args.input.now c.in_ok-i.i c.in_ok-i.rest.now in
    halts_within (within_function c.args.mode c.args.counts _) (halts_later (joint_started c.args.mode c.args.counts c.requires.some)
    (started_ints c.if-i-ne17.false (subst P c.names_of-names.ensures.scope c.in_ok-i.ensures)) (halts_first (joint_ints c.args.mode c.args.counts c.requires.some) c.in_err-ints.ensures)))

pub returns : goal.returns
returns c =
    let P : Scope → Type 0 = λ sc. Found Any (OneOf openings (opening_may sc c.args.mode.limit true true)) c.args.input.now c.in_ok-i.i c.in_ok-i.rest.now in
    reads_within Any c.declared.result (within_function c.args.mode c.args.counts _) (reads_later c.declared.result (joint_started c.args.mode c.args.counts c.requires.some)
    (started_ints c.if-i-ne17.false (subst P c.names_of-names.ensures.scope c.in_ok-i.ensures)) (reads_later c.declared.result (joint_ints c.args.mode c.args.counts c.requires.some) c.in_ok-ints.ensures c.declared.ensures))
