use Rattle.std.proofs.Common.{◌∙◌, sym, ap, subst, not}
use Rattle.aplc_lex.specs.Firsts.{IsFirstOf}
use Rattle.aplc_names.specs.Firsts.{refused_if}
use Rattle.aplc_names.specs.Clashes.{IsMainless, no_main}
use Rattle.aplc_names.proofs.Minima.{mainless}
use Rattle.aplc_names.proofs.clashes.mainless.Goals as goal

pub returns : goal.returns
returns c = subst (λ o. IsFirstOf (IsMainless c.args.names.now c.args.outlines.now) o) (sym (c.refused_if.ensures ∙ ap (λ p. refused_if (not c.any_start-found.result) no_main p) c.main_place-place.ensures)) (mainless c.args.names.now c.args.outlines.now c.any_start-found.result c.any_start-found.ensures)
