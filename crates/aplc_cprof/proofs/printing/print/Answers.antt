use Rattle.std.proofs.Common.{append_assoc}
use Rattle.aplc_cprof.specs.Text.{program_text}
use Rattle.aplc_cprof.proofs.printing.print.Goals as goal

pub returns : goal.returns
unfolding program_text
returns c = simp append_assoc (simp (c.tail_bytes.ensures, c.in_ok-put_functions.ensures, c.in_ok-put_prototypes.ensures, c.in_ok-put_globals.ensures, c.in_ok-put_tables.ensures, c.as_slice.ensures, c.as_slice-functions.ensures, c.in_ok-out.ensures.items, c.preamble_bytes.ensures, append_assoc) at c.in_ok-put.ensures)
