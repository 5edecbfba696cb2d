use Rattle.std.proofs.Common.{◌≡◌, ap, subst, ◌<◌, List, length, arith}
use Rattle.aplc_crun.specs.declared.code.Entry.{Entry}
use Rattle.aplc_crun.specs.Running.{StartsAt}
use Rattle.aplc_crun.proofs.Formed.{some_function}
use Rattle.aplc_crun.proofs.Standing.{start_stands}
use Rattle.aplc_crun.proofs.machine.Machine.start.Goals as goal

pub first-entry-requires : goal.first-entry-requires
first-entry-requires c =
    let some : 0 < length c.args.program.functions = some_function c.args.program c.requires.formed in
    let same : length c.as_slice.result.now ≡ length c.in_ok-laid.laid.entries.items = ap length c.as_slice.ensures.value in
    omega (arith, some, same, c.in_ok-laid.ensures.count)

pub returns-clause-stands : goal.returns-clause-stands
returns-clause-stands c =
    let starts : StartsAt c.in_ok-laid.laid.entries.items c.first-entry.result = subst (λ (es : List Entry). StartsAt es c.first-entry.result) c.as_slice.ensures.value c.first-entry.ensures in
    start_stands c.args.program _ c.first-entry.result c.requires.formed c.in_ok-laid.ensures.functions c.in_ok-laid.ensures.tables starts c.in_ok-live.ensures c.new.ensures.items
