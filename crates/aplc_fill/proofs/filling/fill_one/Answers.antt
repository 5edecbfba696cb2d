use Rattle.aplc_cprof.specs.Frames.{number}
use Rattle.aplc_cprof.proofs.Kept.{kept_trans}
use Rattle.aplc_cprof.proofs.Frames.{are_old_but_old}
use Rattle.aplc_fill.proofs.Builds.{one_fills, on_ok}
use Rattle.aplc_fill.proofs.filling.fill_one.Goals as goal

pub emit-requires-clause-places : goal.emit-requires-clause-places
emit-requires-clause-places g c = are_old_but_old c.args.b.now.ints (number c.args.place) c.args.at.now c.requires.at

pub returns-clause-ok : goal.returns-clause-ok
returns-clause-ok g c =
    on_ok c.emit-3.result
    (one_fills (g.E.ElementCode.test c.args.code.now) (g.E.ElementCode.steps c.args.code.now) (g.E.ElementCode.given c.args.code.now) (g.E.ElementCode.depth c.args.code.now)
    c.args.b.now c.emit.new.b c.emit-2.new.self c.emit-3.new.self c.args.at.now c.args.into c.args.place c.in_ok-v.v c.in_ok-next.next
    (g.met.E.ElementCode.reads c.args.code.now) c.requires.given c.requires.place c.requires.into
    c.in_ok-v.ensures.emits c.in_ok-emit.ensures.ok c.in_ok-next.ensures) c.emit-3.ensures.ok

pub returns-in_err-next-clause-kept : goal.returns-in_err-next-clause-kept
returns-in_err-next-clause-kept g c = kept_trans c.args.b.now c.emit.new.b c.emit-2.new.self c.in_ok-v.ensures.kept c.in_ok-emit.ensures.kept

pub returns-clause-kept : goal.returns-clause-kept
returns-clause-kept g c = kept_trans c.args.b.now c.emit-2.new.self c.emit-3.new.self (kept_trans c.args.b.now c.emit.new.b c.emit-2.new.self c.in_ok-v.ensures.kept c.in_ok-emit.ensures.kept) c.emit-3.ensures.kept
