-- The steps of a resolved program's lines say its statements.
use Rattle.std.proofs.Common.{◌≡◌, ◌∙◌, sym, ap, subst, ℕ, zero, suc, List, [], Option}
use Rattle.std.specs.Prelude.{option_map, unwrap_or}
use Rattle.std.proofs.lemmas.Option.{slice_get-map}
use Rattle.std.proofs.lemmas.List.Elements.{recursion_from_All}
use Rattle.aplc_syntax.specs.declared.tree.Program.{Program}
use Rattle.aplc_names.specs.PlainPrograms.{Action, plain}
use Rattle.aplc_names.specs.Programs.{IsParsed}
use Rattle.aplc_core.specs.PlainSteps.{Effect}
use Rattle.aplc_core.specs.CoreLaws.{IsNumbered, HasNumberedLines}
use Rattle.aplc_core.specs.CorePrograms.{line_steps}
use Rattle.aplc_core.specs.Lowering.{lowered, lowered_routine}
use Rattle.aplc_core.specs.Structure.{order_of, Says}
use Rattle.aplc_core.specs.StepLaws.{IsStatementOf, SaysStatements}
use Rattle.aplc_core.proofs.KeepsRuns.{at_place}
use Rattle.aplc_core.proofs.Ordered.{each_in_order, each_once}
use Rattle.aplc_core.proofs.Programs.{line_of_routine}
use Rattle.aplc_core.proofs.ResolvedRuns.{distinct_nodes, parsed_distinct}
use Rattle.aplc_core.proofs.Structured.{says}

line_is : (p : Program) (i l : ℕ) (x : Action) → IsStatementOf p i l x → line_steps p i l ≡ lowered x
line_is p i zero x (f, at, there) = absurd cc
line_is p i (suc l) x (f, at, there) =
    line_of_routine p i (suc l) (lowered_routine f) (slice_get-map lowered_routine (plain p).routines i ∙ ap (option_map lowered_routine) at)
    ∙ ap (λ (o : Option (List Effect)). unwrap_or o []) (slice_get-map lowered f.lines l ∙ ap (option_map lowered) there)

line_numbered : (p : Program) → ∥ IsParsed p ∥₁ → (i l : ℕ) (x : Action) → IsStatementOf p i l x → IsNumbered x
line_numbered p h i zero x (f, at, there) = absurd cc
line_numbered p h i (suc l) x (f, at, there) =
    let own : HasNumberedLines f = at_place HasNumberedLines (plain p).routines (recursion_from_All HasNumberedLines (plain p).routines (distinct_nodes p (parsed_distinct p h))) i f at in
    at_place IsNumbered f.lines (recursion_from_All IsNumbered f.lines own) l x there

pub resolved_says : (p : Program) → ∥ IsParsed p ∥₁ → SaysStatements p
resolved_says p h = record {
  says = λ i l x at. subst (λ (xs : List Effect). Says xs x (order_of x)) (sym (line_is p i l x at)) (says x);
  each_node = λ i l x at. each_in_order x;
  no_node_twice = λ i l x at. each_once x (line_numbered p h i l x at);
}
