use Rattle.std.proofs.Common.{◌≡◌, ◌∙◌, ◌<◌, List, ap, sym, refl, subst, arith, length}
use Rattle.std.specs.Prelude.{Some, slice_get}
use Rattle.std.proofs.lemmas.Bool.Decides.{nat_tests}
use Rattle.std.proofs.lemmas.Option.{slice_get_read}
use Rattle.aplc_syntax.specs.declared.tree.Function.{Function}
use Rattle.aplc_syntax.specs.declared.tree.Program.{Program}
use Rattle.aplc_gen.specs.Writing.{Spot}
use Rattle.aplc_gen.proofs.There.{result_some}
use Rattle.aplc_gen.proofs.site.Site.result_of.Goals as goal

pub returns-in-Some : goal.returns-in-Some
returns-in-Some c =
    let i = c.args.function in
    let f = c.in-Some.header.now in
    let xs : List Function = c.as_slice.result.now in
    let found = c.in-Some.ensures.lookup in
    let there : i < length xs = grind (arith, nat_tests, found.0) in
    let same = c.as_slice.ensures ∙ ap (λ (q : Program). q.functions) (c.program.ensures.program ∙ c.bound.ensures.program ∙ ap (λ (s : Spot). s.core.program) c.self.view_is) in
    let e = subst (λ (ys : List Function). Some f ≡ slice_get ys i) same (sym (slice_get_read xs (length xs) i f refl there found.1)) in
    result_some c.args.self.now.core.program i (Some f) f c.number_of.result e refl c.number_of.ensures
