use Rattle.aplc_infer.proofs.Moving.{keeps_then, keeps_forgets}
use Rattle.aplc_infer.proofs.searching.notice.Goals as goal

pub returns-in-None : goal.returns-in-None
returns-in-None c = keeps_then c.args.lookup.now c.args.tables.now c.loop.tables c.next_risen.new.self c.loop.invariant (keeps_forgets c.args.lookup.now c.loop.tables c.next_risen.new.self c.next_risen.ensures)

pub loop-preserved : goal.loop-preserved
loop-preserved c =
    keeps_then c.args.lookup.now c.args.tables.now c.next_risen.new.self c.note_risen.new.tables
    (keeps_then c.args.lookup.now c.args.tables.now c.loop.tables c.next_risen.new.self c.loop.invariant (keeps_forgets c.args.lookup.now c.loop.tables c.next_risen.new.self c.next_risen.ensures))
    c.in_ok-note_risen-in-Some.ensures
