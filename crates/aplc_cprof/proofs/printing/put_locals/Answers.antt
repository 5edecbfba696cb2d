use Rattle.std.proofs.Common.{codes, append_assoc}
use Rattle.aplc_cprof.proofs.Lists.{declared_bare}
use Rattle.aplc_cprof.proofs.printing.put_locals.Goals as goal

pub returns : goal.returns
returns c =
    let ints = declared_bare (codes "int64_t ") (codes "v") c.args.ints in
    simp append_assoc (simp (c.in_ok-put_declaration.ensures, ints, append_assoc) at c.put_declaration-2.ensures)
