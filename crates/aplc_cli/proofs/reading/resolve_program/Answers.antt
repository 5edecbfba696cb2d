use Rattle.std.proofs.lemmas.Result.{err_from_is_err_and}
use Rattle.std.proofs.Common.{subst, sym}
use Rattle.aplc_lex.specs.Tokens.{AreTokens}
use Rattle.aplc_cli.proofs.Stages.{lexed, parsed, spells, ok_clean, err_refused}
use Rattle.aplc_cli.proofs.reading.resolve_program.Goals as goal

pub returns-in_err-found-clause-refused : goal.returns-in_err-found-clause-refused
returns-in_err-found-clause-refused c =
    let p = err_from_is_err_and c.from_residual.result c.from_residual.ensures.1 in
    rw (p.1, p.2) (lexed c.args.file.now c.in_err-found.field-0.0 c.requires c.in_err-found.ensures.refused)

pub returns-in_err-program-clause-refused : goal.returns-in_err-program-clause-refused
returns-in_err-program-clause-refused c =
    let p = err_from_is_err_and c.from_residual-in_err-program.result c.from_residual-in_err-program.ensures.1 in
    rw (p.1, p.2) (parsed c.args.file.now c.as_slice.result.now c.in_err-program.field-0.0 c.requires (subst (λ ts. AreTokens c.args.file.now ts) (sym c.as_slice.ensures.value) c.in_ok-found.ensures.ok) c.in_err-program.ensures.refused)

pub returns-clause-clean : goal.returns-clause-clean
returns-clause-clean c = ok_clean c.args.file.now c.in_ok-program.program (spells c.args.file.now c.as_slice.result.now c.in_ok-program.program c.requires (subst (λ ts. AreTokens c.args.file.now ts) (sym c.as_slice.ensures.value) c.in_ok-found.ensures.ok) c.in_ok-program.ensures.program) c.resolve.result c.resolve.ensures.bound c.resolve.ensures.clean

pub returns-clause-refused : goal.returns-clause-refused
returns-clause-refused c = err_refused c.args.file.now c.in_ok-program.program (spells c.args.file.now c.as_slice.result.now c.in_ok-program.program c.requires (subst (λ ts. AreTokens c.args.file.now ts) (sym c.as_slice.ensures.value) c.in_ok-found.ensures.ok) c.in_ok-program.ensures.program) c.resolve.result c.resolve.ensures.refused
