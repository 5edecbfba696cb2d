-- Each refusal is for a rule that is broken.
use Rattle.std.proofs.Common.{refl}
use Rattle.aplc_lex.specs.declared.token.Refusal.{Refusal}
use Rattle.aplc_syntax.specs.declared.tree.Program.{Program}
use Rattle.aplc_names.specs.PlainPrograms.{plain}
use Rattle.aplc_infer.specs.Seeing.{declarations, context_of, fresh}
use Rattle.aplc_infer.specs.Families.{StandsFirst, at_start, seen_line}
use Rattle.aplc_infer.proofs.Alongside.{HasReason, reason_at, statement_along}

pub first_reason : (p : Program) (r : Refusal) → StandsFirst p r → HasReason r
first_reason p r s =
    let d = declarations p.vars in
    let q = plain p in
    let z = s.first.stands in
    let start = fresh (at_start s.family z.function z.routine z.line) in
    let seen = statement_along (context_of d q z.routine) s.family s.family z.action start start (record { cells = refl; names = refl; reasons = tt }) in
    reason_at (seen_line d q s.family z.function z.routine z.line z.action).refused z.index r seen.reasons z.listed
