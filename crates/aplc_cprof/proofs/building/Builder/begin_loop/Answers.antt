use Rattle.aplc_cprof.proofs.Kept.{kept_trans}
use Rattle.aplc_cprof.proofs.building.Builder.begin_loop.Goals as goal

pub returns-clause-kept : goal.returns-clause-kept
returns-clause-kept c =
    kept_trans c.args.self.now c.fresh_int.new.self c.«open».new.self c.in_ok-i.ensures.kept
    (kept_trans c.fresh_int.new.self c.emit.new.self c.«open».new.self c.in_ok-emit.ensures.kept c.in_ok-open.ensures.kept)
