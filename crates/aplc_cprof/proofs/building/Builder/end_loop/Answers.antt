use Rattle.aplc_cprof.proofs.Kept.{kept_same, kept_trans}
use Rattle.aplc_cprof.proofs.Emitted.{round_open, round_closed}
use Rattle.aplc_cprof.proofs.building.Builder.end_loop.Goals as goal

pub returns-in_err-next-clause-kept : goal.returns-in_err-next-clause-kept
returns-in_err-next-clause-kept c a kept = round_open a c.args.self.now c.args.self.now kept (kept_same c.args.self.now)

pub returns-in_err-more-clause-kept : goal.returns-in_err-more-clause-kept
returns-in_err-more-clause-kept c a kept = round_open a c.args.self.now c.args.self.now kept (kept_same c.args.self.now)

pub returns-in_err-emit-clause-kept : goal.returns-in_err-emit-clause-kept
returns-in_err-emit-clause-kept c a kept = round_open a c.args.self.now c.emit.new.self kept c.in_err-emit.ensures.kept

pub returns-clause-kept : goal.returns-clause-kept
returns-clause-kept c a kept =
    kept_trans a c.close-body.new.self c.emit-2.new.self
    (round_closed a c.args.self.now c.emit.new.self c.close-body.new.self kept c.in_ok-emit.ensures.kept c.close-body.ensures.rest c.close-body.ensures.names)
    c.emit-2.ensures.kept
