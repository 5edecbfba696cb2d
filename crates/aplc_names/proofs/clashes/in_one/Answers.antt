use Rattle.std.proofs.Common.{◌∙◌, sym, ap, subst}
use Rattle.aplc_lex.specs.Firsts.{IsFirstOf, earlier}
use Rattle.aplc_names.specs.Firsts.{Somewhere}
use Rattle.aplc_names.specs.Clashes.{StandsIn, IsTaken}
use Rattle.aplc_names.proofs.Minima.{in_one}
use Rattle.aplc_names.proofs.clashes.in_one.Goals as goal

pub returns : goal.returns
returns c = subst (λ o. IsFirstOf (StandsIn c.args.heads.now c.args.place c.args.outline.now) o) (sym (c.earlier-2.ensures ∙ ap (λ o. earlier o c.assigned-c.result) c.earlier.ensures)) (in_one c.args.heads.now c.args.place c.args.outline.now c.again-a.result c.taken-b.result c.assigned-c.result c.again-a.ensures (subst (λ xs. IsFirstOf (Somewhere (IsTaken c.args.heads.now) xs) c.taken-b.result) c.names.ensures c.taken-b.ensures) c.assigned-c.ensures)
