use Rattle.std.proofs.Common.{◌<◌, length}
use Rattle.aplc_cread.specs.Leading.{Leads}
use Rattle.aplc_cread.specs.Programs.{Prototyped}
use Rattle.aplc_cread.proofs.below.prototypes.Given as goal

abbrev pub invariant-prototypes : goal.invariant-prototypes
invariant-prototypes l = record { some : 0 < l.count; leads : Leads (Prototyped l.mode l.tables l.ints l.bufs 1) l.input (λ fs. fs) (Prototyped l.mode l.tables l.ints l.bufs l.count) l.rest }

abbrev pub decreases-prototypes : goal.decreases-prototypes
decreases-prototypes l = length l.rest
