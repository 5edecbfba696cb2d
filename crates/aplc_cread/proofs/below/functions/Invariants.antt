use Rattle.std.proofs.Common.{◌-◌, ◌++◌}
use Rattle.aplc_cread.specs.Leading.{Leads}
use Rattle.aplc_cread.specs.Programs.{Functions, FunctionsOn}
use Rattle.aplc_cread.proofs.below.functions.Given as goal

abbrev pub invariant-functions : goal.invariant-functions
invariant-functions l = Leads (FunctionsOn l.mode l.counts 1 l.counts.functions) l.input (λ fs. l.functions.items ++ fs) (Functions l.mode l.counts l.number (l.counts.functions - l.number)) l.rest

abbrev pub decreases-functions : goal.decreases-functions
decreases-functions l = l.counts.functions - l.number
