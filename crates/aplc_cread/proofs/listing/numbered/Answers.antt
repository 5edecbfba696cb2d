use Rattle.std.proofs.lemmas.Result.{err_from_is_err_and}
use Rattle.aplc_cread.proofs.Rules.{halts_within, halts_first, halts_later}
use Rattle.aplc_cread.proofs.Leads.{passes_later, passes_within, passes_lax}
use Rattle.aplc_cread.specs.Listings.{Beyond}
use Rattle.aplc_cread.proofs.Listings.{within_parts, joint_head, joint_end}
use Rattle.aplc_cread.proofs.listing.numbered.Goals as goal

pub returns-in_err-rest : goal.returns-in_err-rest
returns-in_err-rest c = let p = err_from_is_err_and c.from_residual.result c.from_residual.ensures.1 in rw (p.1, p.2)
    (halts_within (within_parts _ _ _) (halts_first (joint_head c.args.head.now c.args.n c.args.end.now) c.in_err-rest.ensures))

pub returns-in_err-rest-2 : goal.returns-in_err-rest-2
returns-in_err-rest-2 c = let p = err_from_is_err_and c.from_residual-in_err-rest-2.result c.from_residual-in_err-rest-2.ensures.1 in rw (p.1, p.2)
    (halts_within (within_parts _ _ _) (halts_later (joint_head c.args.head.now c.args.n c.args.end.now) c.in_ok-rest.ensures (halts_first (joint_end c.args.n c.args.end.now c.requires.closes) c.in_err-rest-2.ensures)))

pub returns : goal.returns
returns c = passes_within (Beyond c.args.end.now) tt c.literal-2.result (within_parts c.args.head.now c.args.n c.args.end.now)
    (passes_later tt c.literal-2.result (joint_head c.args.head.now c.args.n c.args.end.now) c.in_ok-rest.ensures
    (passes_later tt c.literal-2.result (joint_end c.args.n c.args.end.now c.requires.closes) c.in_ok-rest-2.ensures (passes_lax (Beyond c.args.end.now) _ _ tt c.literal-2.result c.literal-2.ensures)))
