use Rattle.std.proofs.Common.{length}
use Rattle.aplc_cread.specs.Leading.{Leads}
use Rattle.aplc_cread.specs.Listings.{Listing}
use Rattle.aplc_cread.proofs.listing.more_names.Given as goal

abbrev pub invariant-names : goal.invariant-names
invariant-names l = Leads (Listing l.head l.end 1) l.input (λ n. n) (Listing l.head l.end l.count) l.rest

abbrev pub decreases-names : goal.decreases-names
decreases-names l = length l.rest
