use Rattle.std.proofs.lemmas.Result.{err_from_is_err_and}
use Rattle.std.proofs.Common.{subst, codes}
use Rattle.aplc_cprof.specs.WellFormed.{Scope}
use Rattle.aplc_cread.specs.Reading.{Found, Halts, Any}
use Rattle.aplc_cread.specs.Stmts.{BlockThen}
use Rattle.aplc_cread.specs.Functions.{made}
use Rattle.aplc_cread.proofs.Rules.{halts_first, halts_later, halts_map, found_map, bind_found}
use Rattle.aplc_cread.proofs.Functions.{joint_bufs}
use Rattle.aplc_cread.proofs.function.with_bufs.Goals as goal

pub returns-in_err-bufs : goal.returns-in_err-bufs
returns-in_err-bufs c = let p = err_from_is_err_and c.from_residual.result c.from_residual.ensures.1 in rw (p.1, p.2)
    (halts_first (joint_bufs c.args.mode c.args.counts c.args.ints) c.in_err-bufs.ensures)

pub returns-in_err-body : goal.returns-in_err-body
returns-in_err-body c = let p = err_from_is_err_and c.from_residual-in_err-body.result c.from_residual-in_err-body.ensures.1 in rw (p.1, p.2)
    (let P : Scope → Type 0 = λ sc. Halts Any (BlockThen sc c.args.mode.limit (codes "\n")) c.in_ok-bufs.rest.now c.in_err-body.field-0.0 in
    halts_later (joint_bufs c.args.mode c.args.counts c.args.ints) c.in_ok-bufs.ensures (halts_map (made c.args.ints c.in_ok-bufs.bufs) (subst P c.names_of-names.ensures.scope c.in_err-body.ensures)))

pub returns : goal.returns
returns c =
    let P : Scope → Type 0 = λ sc. Found Any (BlockThen sc c.args.mode.limit (codes "\n")) c.in_ok-bufs.rest.now c.in_ok-body.body c.in_ok-body.rest.now in
    bind_found (joint_bufs c.args.mode c.args.counts c.args.ints) c.in_ok-bufs.ensures (found_map (made c.args.ints c.in_ok-bufs.bufs) (subst P c.names_of-names.ensures.scope c.in_ok-body.ensures))
