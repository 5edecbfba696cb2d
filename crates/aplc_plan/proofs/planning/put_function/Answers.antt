use Rattle.std.proofs.Common.{◌≡◌, ◌∙◌, ◌++◌, ◌<◌, ◌≤◌, List, ap, sym, refl, subst, arith, length}
use Rattle.std.specs.Prelude.{Some, None, slice_get}
use Rattle.std.proofs.lemmas.Bool.Decides.{nat_tests}
use Rattle.std.proofs.lemmas.List.{append-nil}
use Rattle.std.proofs.lemmas.Option.{slice_get_read, slice_get_past}
use Rattle.aplc_syntax.specs.declared.tree.Function.{Function}
use Rattle.aplc_syntax.specs.declared.tree.Program.{Program}
use Rattle.aplc_plan.specs.Held.{function_inner}
use Rattle.aplc_plan.proofs.Rests.{lines_count, no_lines}
use Rattle.aplc_plan.proofs.planning.put_function.Goals as goal

pub put_lines-requires : goal.put_lines-requires
put_lines-requires c =
    let i = c.args.function in let f = c.in-Some.f.now in let xs : List Function = c.as_slice.result.now in let found = c.in-Some.ensures.lookup in
    let there : i < length xs = grind (arith, nat_tests, found.0) in
    let same = c.as_slice.ensures ∙ ap (λ (q : Program). q.functions) (c.program.ensures.program ∙ c.bound.ensures.program) in
    let n = lines_count c.args.core.now.program i f (subst (λ (ys : List Function). slice_get ys i ≡ Some f) same (slice_get_read xs (length xs) i f refl there found.1)) in
    let m = ap length c.as_slice-in-Some.ensures in
    record { lines = omega arith }

pub returns-in-None : goal.returns-in-None
returns-in-None c =
    let i = c.args.function in let xs : List Function = c.as_slice.result.now in let past = c.in-None.ensures.lookup in
    let behind : length xs ≤ i = grind (arith, nat_tests, past.0) in
    let same = c.as_slice.ensures ∙ ap (λ (q : Program). q.functions) (c.program.ensures.program ∙ c.bound.ensures.program) in
    let e = subst (λ (ys : List Function). slice_get ys i ≡ None) same (slice_get_past xs i behind) in
    sym (ap (λ s. c.args.out.now.items ++ function_inner s) (no_lines c.args.core.now.program i e) ∙ append-nil c.args.out.now.items)
