use Rattle.std.proofs.Common.{codes, decimal}
use Rattle.aplc_cprof.specs.Text.{declaration, local_int, local_buf, stmts_text}
use Rattle.aplc_cprof.proofs.Lists.{grouped}
use Rattle.aplc_cprof.proofs.printing.put_function.Goals as goal

pub returns : goal.returns
returns c =
    let f = c.args.function.now in
    let e = grouped c.args.out.now.items (codes "static void f") (decimal c.args.k) (codes "(void) {\n") (declaration (codes "int64_t ") local_int f.ints) (declaration (codes "int64_t ") local_buf f.bufs) (stmts_text f.body) (codes "}\n") in
    rw e at (simp (c.in_ok-put_stmts.ensures, c.as_slice.ensures, c.in_ok-put_locals.ensures, c.in_ok-put-2.ensures, c.in_ok-put_number.ensures, c.in_ok-put.ensures) at c.put-3.ensures)
