use Rattle.std.proofs.Common.{append_assoc}
use Rattle.std.proofs.lemmas.Int.{to_z-of_z}
use Rattle.aplc_cprof.proofs.Equations.{texts}
use Rattle.aplc_cprof.proofs.statements.put_at.Goals as goal

pub returns : goal.returns
returns c =
    let f = c.ranges.line in
    simp (texts, append_assoc) (simp (c.in_ok-put_signed.ensures, c.in_ok-put-3.ensures, c.in_ok-put-2.ensures, c.in_ok-put.ensures, to_z-of_z, append_assoc) at c.put-4.ensures)
