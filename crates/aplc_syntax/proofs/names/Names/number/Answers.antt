use Rattle.std.proofs.Common.{arith}
use Rattle.aplc_syntax.proofs.Numbered.{linked_new, linked_old, number_linked}
use Rattle.aplc_syntax.proofs.names.Names.number.Goals as goal

pub returns : goal.returns
returns c =
    let h = linked_new c.args.self.now.numbers.keys c.insert_full.new.self.keys c.args.self.now.names.items c.push.new.self.items c.args.name c.in_ok-number.is_new c.requires.linked c.in_ok-number.ensures.keys c.in_ok-number.ensures.added c.if-not-is_new.false (grind arith) in
    record { linked = h.0; names = h.1; number = number_linked c.args.self.now.numbers.keys _ _ c.args.name _ c.requires.linked h.1 c.in_ok-number.ensures.index }

pub returns-then-not-is_new : goal.returns-then-not-is_new
returns-then-not-is_new c =
    let h = linked_old c.args.self.now.numbers.keys c.insert_full.new.self.keys c.args.self.now.names.items c.args.name c.in_ok-number.is_new c.requires.linked c.in_ok-number.ensures.keys c.in_ok-number.ensures.added c.if-not-is_new.true in
    record { linked = h.0; names = h.1; number = number_linked c.args.self.now.numbers.keys _ _ c.args.name _ c.requires.linked h.1 c.in_ok-number.ensures.index }
