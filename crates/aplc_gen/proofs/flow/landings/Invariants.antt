use Rattle.std.proofs.Common.{◌≡◌, ◌+◌, ◌-◌, length, get_or}
use Rattle.aplc_gen.specs.Layouts.{the_routine}
use Rattle.aplc_gen.specs.Writing.{site_of}
use Rattle.aplc_gen.specs.Flows.{HasBehind}
use Rattle.aplc_gen.proofs.flow.landings.Given as goal

abbrev pub invariant-loop-behind : goal.invariant-loop-behind
invariant-loop-behind l =
    HasBehind (the_routine (site_of l.site)) l.table.items (length (the_routine (site_of l.site)).steps - l.behind)
    × (length l.table.items ≡ length (the_routine (site_of l.site)).steps + 1)
    × (get_or l.table.items 0 0 ≡ 0)
