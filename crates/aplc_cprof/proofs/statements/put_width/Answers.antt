use Rattle.std.proofs.Common.{append_assoc}
use Rattle.aplc_cprof.proofs.Equations.{texts}
use Rattle.aplc_cprof.proofs.statements.put_width.Goals as goal

pub returns : goal.returns
returns c = simp (texts, append_assoc) (simp (c.in_ok-put_int.ensures, append_assoc) at c.put_last.ensures)
