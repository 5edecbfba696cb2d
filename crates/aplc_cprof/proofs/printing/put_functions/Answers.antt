use Rattle.std.proofs.Common.{◌++◌, ◌+◌, drop}
use Rattle.aplc_cprof.specs.Text.{function_text, functions_text}
use Rattle.aplc_cprof.proofs.Lists.{written, functions_go_on}
use Rattle.aplc_cprof.proofs.printing.put_functions.Goals as goal

pub loop-k-preserved : goal.loop-k-preserved
loop-k-preserved c =
    let k = c.loop-k.k in
    let fs = c.args.functions.now in
    let f = c.index-functions-k.result in
    written c.loop-k.out.items c.put_function.new.out.items (function_text k f) (functions_text k (drop k fs)) (functions_text (k + 1) (drop (k + 1) fs))
    (c.args.out.now.items ++ functions_text 0 fs) c.in_ok-put_function.ensures
    (functions_go_on k fs f c.loop-k-test.true c.index-functions-k.is) c.loop-k.invariant
