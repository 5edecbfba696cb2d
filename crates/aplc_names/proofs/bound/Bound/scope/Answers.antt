use Rattle.std.proofs.Common.{◌∙◌, ap, sym, subst}
use Rattle.aplc_names.specs.Scopes.{IsScope}
use Rattle.aplc_names.specs.Lookups.{scope_found}
use Rattle.aplc_names.proofs.Resolved.{within_outlines, within_lines, few_heads}
use Rattle.aplc_names.proofs.Scoped.{scope_is, scope_stands}
use Rattle.aplc_names.proofs.bound.Bound.scope.Goals as goal

pub bounds-known-function : goal.bounds-known-function
bounds-known-function c = within_outlines c.self.inside.program c.args.self.now c.self.inside.outlines.items c.as_slice-known.result.now c.args.function c.self.view_is c.self.invariant.all c.as_slice-known.ensures.value c.requires.function

pub bounds-labelled-function : goal.bounds-labelled-function
bounds-labelled-function c = within_lines c.self.inside.program c.args.self.now c.self.inside.lines.items c.as_slice-labelled.result.now c.args.function c.self.view_is c.self.invariant.labelled c.as_slice-labelled.ensures.value c.requires.function

pub scope_found-requires : goal.scope_found-requires
scope_found-requires c = few_heads c.self.inside.program c.self.inside.heads c.self.invariant.heads c.self.invariant.grammatical.few

pub returns-clause-scope : goal.returns-clause-scope
returns-clause-scope c = scope_is c.self.inside.program c.args.self.now c.self.inside.heads c.self.inside.outlines.items c.as_slice-known.result.now c.self.inside.lines.items c.as_slice-labelled.result.now c.args.function c.args.name.0 c.index-known-function.result c.index-labelled-function.result c.scope_found.result
    c.self.view_is c.self.invariant.heads c.self.invariant.all c.self.invariant.labelled c.as_slice-known.ensures.value c.as_slice-labelled.ensures.value
    (within_outlines c.self.inside.program c.args.self.now c.self.inside.outlines.items c.as_slice-known.result.now c.args.function c.self.view_is c.self.invariant.all c.as_slice-known.ensures.value c.requires.function) c.index-known-function.is
    (within_lines c.self.inside.program c.args.self.now c.self.inside.lines.items c.as_slice-labelled.result.now c.args.function c.self.view_is c.self.invariant.labelled c.as_slice-labelled.ensures.value c.requires.function) c.index-labelled-function.is
    (c.scope_found.ensures ∙ ap (λ l. scope_found c.self.inside.heads c.index-known-function.result l c.args.name.0) c.as_slice.ensures)

pub returns-clause-stands : goal.returns-clause-stands
returns-clause-stands c = subst (IsScope c.args.self.now c.args.function c.args.name.0) (sym (returns-clause-scope c)) (scope_stands c.args.self.now c.args.function c.args.name.0)
