use Rattle.std.proofs.Common.{◌++◌, ◌+◌, drop}
use Rattle.aplc_cprof.specs.Text.{table_text, tables_text}
use Rattle.aplc_cprof.proofs.Lists.{written, tables_go_on}
use Rattle.aplc_cprof.proofs.printing.put_tables.Goals as goal

pub loop-k-preserved : goal.loop-k-preserved
loop-k-preserved c =
    let k = c.loop-k.k in
    let ts = c.args.tables.now in
    let t = c.index-tables-k.result in
    written c.loop-k.out.items c.put_table.new.out.items (table_text k t) (tables_text k (drop k ts)) (tables_text (k + 1) (drop (k + 1) ts))
    (c.args.out.now.items ++ tables_text 0 ts) (rw c.as_slice.ensures at c.in_ok-put_table.ensures)
    (tables_go_on k ts t c.loop-k-test.true c.index-tables-k.is) c.loop-k.invariant
