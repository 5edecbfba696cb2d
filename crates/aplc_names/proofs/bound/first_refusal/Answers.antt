use Rattle.std.proofs.Common.{◌∙◌, ap, subst}
use Rattle.std.specs.Prelude.{map}
use Rattle.aplc_lex.specs.Firsts.{IsFirstOf}
use Rattle.aplc_names.specs.Firsts.{Somewhere}
use Rattle.aplc_names.specs.Clashes.{IsTaken, IsMainless, var_name}
use Rattle.aplc_names.proofs.Resolved.{first_stands}
use Rattle.aplc_names.proofs.bound.first_refusal.Goals as goal

pub returns : goal.returns
returns c =
    let vars = c.in_ok-vars.ensures ∙ c.in_ok-listed.ensures ∙ ap (map var_name) c.as_slice-declared.ensures in
    let taken = subst (λ xs. IsFirstOf (Somewhere (IsTaken c.args.heads.now) xs) c.taken-c.result) c.names-list.ensures c.taken-c.ensures in
    let main = subst (λ ns. IsFirstOf (IsMainless ns c.args.known.now) c.mainless-d.result) c.as_slice-names.ensures c.mainless-d.ensures in
    first_stands c.args.program.now c.in_ok-vars.vars c.args.heads.now c.args.known.now c.again-a.result c.again-b.result c.taken-c.result c.mainless-d.result c.in_functions-e.result c.in_ok-f.f c.first_of.result c.requires.heads c.requires.all vars c.first_of.ensures c.again-a.ensures c.again-b.ensures taken main c.in_functions-e.ensures c.in_ok-f.ensures
