use Rattle.std.proofs.Common.{codes, append_assoc}
use Rattle.aplc_cprof.proofs.Lists.{declared_bare}
use Rattle.aplc_cprof.proofs.printing.put_globals.Goals as goal

pub returns : goal.returns
returns c =
    let ints = declared_bare (codes "static int64_t ") (codes "g") c.args.ints in
    let bufs = declared_bare (codes "static int64_t ") (codes "*h") c.args.bufs in
    simp append_assoc (simp (c.in_ok-put_declaration.ensures, ints, bufs, append_assoc) at c.put_declaration-2.ensures)
