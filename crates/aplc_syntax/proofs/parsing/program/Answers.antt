use Rattle.std.proofs.Common.{◌∙◌, sym, rules}
use Rattle.aplc_syntax.proofs.Spans.{tokens_rise}
use Rattle.aplc_syntax.proofs.Families.{cut_up, laid_held, whole_best, whole_program}
use Rattle.aplc_syntax.proofs.parsing.program.Goals as goal

pub words-requires-clause-rise : goal.words-requires-clause-rise
words-requires-clause-rise c = tokens_rise c.args.text.now c.args.tokens.now c.requires.tokens

pub functions_of-requires-clause-laid : goal.functions_of-requires-clause-laid
functions_of-requires-clause-laid c = laid_held c.args.text.now c.args.tokens.now c.in-Ok-parts_of.parts _ c.requires.tokens (cut_up c.args.text.now c.args.tokens.now _ _ c.in-Ok-parts_of.parts c.deref.ensures.value c.in-Ok.ensures.words c.in-Ok-parts_of.ensures) c.deref-4.ensures.value

pub returns-in-Some-clause-refused : goal.returns-in-Some-clause-refused
returns-in-Some-clause-refused c = whole_best c.args.text.now c.args.tokens.now c.in-Ok-parts_of.parts _ _ _ _ _ _ c.in-Ok-known_of.known.headers.items c.in-Ok-declarations.declared.first c.bare_cause.result c.in-Ok-functions_of.inside.first c.function_cause.result c.earlier-outside_first.result c.earlier-inside_first.result _
    (cut_up c.args.text.now c.args.tokens.now _ _ c.in-Ok-parts_of.parts c.deref.ensures.value c.in-Ok.ensures.words c.in-Ok-parts_of.ensures) (c.as_slice.ensures ∙ c.in-Ok.ensures.names)
    c.deref-2.ensures.value c.in-Ok-known_of.ensures c.deref-3.ensures.value c.in-Ok-declarations.ensures.first c.deref-5.ensures.value c.bare_cause.ensures c.deref-4.ensures.value c.in-Ok-functions_of.ensures.first
    c.deref-6.ensures.value c.function_cause.ensures c.earlier-outside_first.ensures c.earlier-inside_first.ensures (sym c.in-Some.is ∙ c.earlier.ensures)

pub returns-in-None-clause-program : goal.returns-in-None-clause-program
returns-in-None-clause-program c = whole_program c.args.text.now c.args.tokens.now c.in-Ok-parts_of.parts _ _ _ _ _ _ _ c.in-Ok-known_of.known.headers.items c.in-Ok-declarations.declared.first c.bare_cause.result c.in-Ok-functions_of.inside.first c.function_cause.result c.earlier-outside_first.result c.earlier-inside_first.result c.earlier.result _ _ c.in-Ok-declarations.declared.vars.items _ c.in-Ok-functions_of.inside.functions.items _
    (cut_up c.args.text.now c.args.tokens.now _ _ c.in-Ok-parts_of.parts c.deref.ensures.value c.in-Ok.ensures.words c.in-Ok-parts_of.ensures) (c.as_slice.ensures ∙ c.in-Ok.ensures.names) c.in-Ok.ensures.names
    c.deref-2.ensures.value c.in-Ok-known_of.ensures c.deref-3.ensures.value c.in-Ok-declarations.ensures.said c.deref-5.ensures.value c.bare_cause.ensures c.deref-4.ensures.value c.in-Ok-functions_of.ensures.functions
    c.deref-6.ensures.value c.function_cause.ensures c.earlier-outside_first.ensures c.earlier-inside_first.ensures c.earlier.ensures c.in-None.is
    (search rules) c.from_vec.ensures c.from_vec-in-None.ensures
