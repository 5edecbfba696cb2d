use Rattle.std.proofs.lemmas.Result.{err_from_is_err_and}
use Rattle.std.proofs.Common.{subst, arith}
use Rattle.aplc_cprof.specs.WellFormed.{Scope}
use Rattle.aplc_cread.specs.Reading.{Found, Halts, Any}
use Rattle.aplc_cread.specs.Stmts.{BlockBehind}
use Rattle.aplc_cread.specs.Functions.{made}
use Rattle.aplc_cread.proofs.Rules.{halts_first, halts_later, halts_map, found_map, bind_found}
use Rattle.aplc_cread.proofs.Functions.{joint_body, opened_halts, opened_found}
use Rattle.aplc_cread.proofs.function.behind_opening.Goals as goal

pub returns-in_err-body : goal.returns-in_err-body
returns-in_err-body c = let p = err_from_is_err_and c.from_residual.result c.from_residual.ensures.1 in rw (p.1, p.2)
    (let P : Scope → Type 0 = λ sc. Halts Any (BlockBehind sc c.args.mode.limit c.args.number) c.args.input.now c.in_err-body.field-0.0 in
    opened_halts c.args.mode c.args.counts c.args.ints c.args.number (omega (arith, c.requires.within, c.if-number-eq16.false)) (halts_first (joint_body c.args.mode c.args.counts c.args.ints c.args.number) (subst P c.names_of-names.ensures.scope c.in_err-body.ensures)))

pub returns-in_err-rest : goal.returns-in_err-rest
returns-in_err-rest c = let p = err_from_is_err_and c.from_residual-in_err-rest.result c.from_residual-in_err-rest.ensures.1 in rw (p.1, p.2)
    (let P : Scope → Type 0 = λ sc. Found Any (BlockBehind sc c.args.mode.limit c.args.number) c.args.input.now c.in_ok-body.body c.in_ok-body.rest.now in
    opened_halts c.args.mode c.args.counts c.args.ints c.args.number (omega (arith, c.requires.within, c.if-number-eq16.false)) (halts_later (joint_body c.args.mode c.args.counts c.args.ints c.args.number) (subst P c.names_of-names.ensures.scope c.in_ok-body.ensures)
    (halts_map (λ u. made c.args.ints 0 c.in_ok-body.body) c.in_err-rest.ensures)))

pub returns : goal.returns
returns c =
    let P : Scope → Type 0 = λ sc. Found Any (BlockBehind sc c.args.mode.limit c.args.number) c.args.input.now c.in_ok-body.body c.in_ok-body.rest.now in
    opened_found c.args.mode c.args.counts c.args.ints c.args.number (omega (arith, c.requires.within, c.if-number-eq16.false)) (bind_found (joint_body c.args.mode c.args.counts c.args.ints c.args.number) (subst P c.names_of-names.ensures.scope c.in_ok-body.ensures)
    (found_map (λ u. made c.args.ints 0 c.in_ok-body.body) c.in_ok-rest.ensures))
