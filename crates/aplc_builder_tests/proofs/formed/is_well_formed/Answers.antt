use Rattle.std.proofs.Common.{◌≡◌, ◌<◌, ◌^◌, subst, length, slice_index_or}
use Rattle.aplc_builder_tests.proofs.Blocks.{program_fits}
use Rattle.aplc_builder_tests.proofs.formed.is_well_formed.Goals as goal

pub returns : goal.returns
returns c h =
    let i : c.args.p.now.ints < 2 ^ 32 = search in
    let j : c.args.p.now.bufs < 2 ^ 32 = search in
    let none : length c.args.p.now.tables ≡ 0 = subst (λ xs. length xs ≡ 0) c.as_slice-tables.ensures c.if-tables-ne0.false in
    let one : length c.args.p.now.functions ≡ 1 = subst (λ xs. length xs ≡ 1) c.as_slice-functions.ensures c.if-functions-ne1.false in
    let f = c.index-functions-0.result in
    program_fits c.args.p.now f f none one (subst (λ xs. f ≡ slice_index_or xs 0 f) c.as_slice-functions.ensures c.index-functions-0.is) i j (c.is_function.ensures h)
