use Rattle.std.proofs.Common.{◌∙◌, ◌∷◌, [], ap, map, pos}
use Rattle.std.proofs.lemmas.Result.{on_ok_weaker}
use Rattle.aplc_cprof.specs.declared.syntax.CStmt.TheVariants as stmt
use Rattle.aplc_core.specs.PlainSteps.{effect_of}
use Rattle.aplc_gen.specs.Layouts.{the_routine}
use Rattle.aplc_gen.specs.Writing.{Spot, site_of, added}
use Rattle.aplc_gen.proofs.LineCodes.{line_added}
use Rattle.aplc_gen.proofs.statements.emit_line.Goals as goal

pub returns-clause-line : goal.returns-clause-line
returns-clause-line c =
    let at = c.in_ok-emit_location.ensures ∙ ap (λ (s : Spot). added (stmt.At (the_routine (site_of s)).header.title (pos c.args.line) ∷ []) c.args.b.now) c.site.ensures in
    on_ok_weaker c.emit_end.result
    (λ e. line_added (site_of c.args.flow.now) c.args.known.now c.args.line (map effect_of c.args.steps.now) c.args.b.now c.emit_location.new.b c.emit_steps.new.b c.emit_end.new.b c.requires.some c.requires.room at c.in_ok-emit_steps.ensures.code e)
    c.emit_end.ensures
