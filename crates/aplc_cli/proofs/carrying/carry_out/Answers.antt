use Rattle.std.proofs.Common.{Err, subst}
use Rattle.aplc_crun.specs.Ran.{Ran}
use Rattle.aplc_cli.specs.Carrying.{Streams}
use Rattle.aplc_cli.proofs.RunEnds.{ended, faulted, spent, stuck, unreadable, unwritable, wanting}
use Rattle.aplc_cli.proofs.carrying.carry_out.Goals as goal

pub returns-in-Ok-clause-carried : goal.returns-in-Ok-clause-carried
returns-in-Ok-clause-carried g c =
    let old : Streams = record { input = g.S.Source.state c.args.input.now; out = g.O.Sink.state c.args.out.now } in
    let input = g.S.Source.state c.run.new.input in
    let out = g.O.Sink.state c.run.new.out in
    λ p stands. ended p c.args.machine c.run.new.self old c.args.budget stands c.requires.fresh c.requires.open c.in-Ok.ensures.most input out c.in-Ok.ensures.ran

pub returns-in-Err-Fault-clause-carried : goal.returns-in-Err-Fault-clause-carried
returns-in-Err-Fault-clause-carried g c =
    let old : Streams = record { input = g.S.Source.state c.args.input.now; out = g.O.Sink.state c.args.out.now } in
    let input = g.S.Source.state c.run.new.input in
    let out = g.O.Sink.state c.run.new.out in
    λ p stands. faulted p c.args.machine c.run.new.self old c.args.budget stands c.requires.fresh c.requires.open c.in-Err-Fault.ensures.most c.in-Err-Fault.kind input out
    (subst (λ x. Ran c.args.machine old.input old.out c.args.budget c.run.new.self input out (Err x)) c.in-Err-Fault.field-0-is c.in-Err-Fault.ensures.ran)

pub returns-in-Err-Spent-clause-carried : goal.returns-in-Err-Spent-clause-carried
returns-in-Err-Spent-clause-carried g c =
    let old : Streams = record { input = g.S.Source.state c.args.input.now; out = g.O.Sink.state c.args.out.now } in
    let input = g.S.Source.state c.run.new.input in
    let out = g.O.Sink.state c.run.new.out in
    λ p stands. spent p c.args.machine c.run.new.self old c.args.budget stands c.requires.fresh c.requires.open c.in-Err-Spent.ensures.most input out
    (subst (λ x. Ran c.args.machine old.input old.out c.args.budget c.run.new.self input out (Err x)) c.in-Err-Spent.field-0-is c.in-Err-Spent.ensures.ran)

pub returns-in-Err-Stuck-clause-carried : goal.returns-in-Err-Stuck-clause-carried
returns-in-Err-Stuck-clause-carried g c =
    let old : Streams = record { input = g.S.Source.state c.args.input.now; out = g.O.Sink.state c.args.out.now } in
    let input = g.S.Source.state c.run.new.input in
    let out = g.O.Sink.state c.run.new.out in
    λ p stands. stuck p c.args.machine c.run.new.self old c.args.budget stands c.requires.fresh c.requires.open c.in-Err-Stuck.ensures.most c.in-Err-Stuck.cause c.in-Err-Stuck.statement input out
    (subst (λ x. Ran c.args.machine old.input old.out c.args.budget c.run.new.self input out (Err x)) c.in-Err-Stuck.field-0-is c.in-Err-Stuck.ensures.ran)

pub returns-in-Err-ReadFault-clause-carried : goal.returns-in-Err-ReadFault-clause-carried
returns-in-Err-ReadFault-clause-carried g c =
    let old : Streams = record { input = g.S.Source.state c.args.input.now; out = g.O.Sink.state c.args.out.now } in
    let input = g.S.Source.state c.run.new.input in
    let out = g.O.Sink.state c.run.new.out in
    λ p stands. unreadable p c.args.machine c.run.new.self old c.args.budget stands c.requires.fresh c.requires.open c.in-Err-ReadFault.ensures.most input out
    (subst (λ x. Ran c.args.machine old.input old.out c.args.budget c.run.new.self input out (Err x)) c.in-Err-ReadFault.field-0-is c.in-Err-ReadFault.ensures.ran)

pub returns-in-Err-WriteFault-clause-carried : goal.returns-in-Err-WriteFault-clause-carried
returns-in-Err-WriteFault-clause-carried g c =
    let old : Streams = record { input = g.S.Source.state c.args.input.now; out = g.O.Sink.state c.args.out.now } in
    let input = g.S.Source.state c.run.new.input in
    let out = g.O.Sink.state c.run.new.out in
    λ p stands. unwritable p c.args.machine c.run.new.self old c.args.budget stands c.requires.fresh c.requires.open c.in-Err-WriteFault.ensures.most input out
    (subst (λ x. Ran c.args.machine old.input old.out c.args.budget c.run.new.self input out (Err x)) c.in-Err-WriteFault.field-0-is c.in-Err-WriteFault.ensures.ran)

pub returns-in-Err-Memory-clause-carried : goal.returns-in-Err-Memory-clause-carried
returns-in-Err-Memory-clause-carried g c =
    let old : Streams = record { input = g.S.Source.state c.args.input.now; out = g.O.Sink.state c.args.out.now } in
    let input = g.S.Source.state c.run.new.input in
    let out = g.O.Sink.state c.run.new.out in
    λ p stands. wanting p c.args.machine c.run.new.self old c.args.budget stands c.requires.fresh c.requires.open c.in-Err-Memory.ensures.most input out
    (subst (λ x. Ran c.args.machine old.input old.out c.args.budget c.run.new.self input out (Err x)) c.in-Err-Memory.field-0-is c.in-Err-Memory.ensures.ran)
