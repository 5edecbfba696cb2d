use Rattle.std.proofs.Common.{◌∙◌, ap, sym, refl, List, ℕ, arith, ◌≤◌, length}
use Rattle.std.specs.Prelude.{Some, slice_get}
use Rattle.aplc_syntax.specs.declared.tree.Program.{Program}
use Rattle.aplc_names.specs.Scopes.{start_of}
use Rattle.aplc_gen.specs.Writing.{lowered_core}
use Rattle.aplc_gen.proofs.Listed.{start_is, functions_begin, function_added, functions_over}
use Rattle.aplc_gen.proofs.generating.functions.Goals as goal

pub loop-index-init : goal.loop-index-init
loop-index-init c =
    functions_begin c.args.layout.now (lowered_core c.args.core.now) c.start.result c.in_ok-main.main c.in_ok-functions.functions.items
    (start_is (start_of c.args.core.now.program) c.start.result (sym (ap (λ (q : Program). start_of q) c.bound.ensures.program) ∙ c.start.ensures.start)) c.in_ok-main.ensures c.in_ok-functions.ensures.items

pub loop-index-preserved : goal.loop-index-preserved
loop-index-preserved c =
    let y = c.args.layout.now in
    let p = lowered_core c.args.core.now in
    function_added y p c.loop-index.index c.in-Some.number.now (Some c.in-Some.number.now) c.loop-index.functions.items c.push.new.self.items c.in_ok-code-in-Some.code
    (c.in-Some.ensures ∙ ap (λ (xs : List ℕ). slice_get xs c.loop-index.index) c.called-in-loop-index.ensures) refl c.in_ok-code-in-Some.ensures c.in_ok-push-in-Some.ensures.items c.loop-index.invariant

pub returns : goal.returns
returns c =
    let y = c.args.layout.now in
    let many = c.len-index-end.ensures ∙ ap (λ (xs : List ℕ). length xs) c.called.ensures in
    let behind : length y.called ≤ c.loop-index.index = omega (arith, c.loop-index-test.false, many) in
    functions_over y (lowered_core c.args.core.now) c.loop-index.index c.loop-index.functions.items behind c.loop-index.invariant
