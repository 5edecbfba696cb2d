use Rattle.std.proofs.Common.{drop, take, length, ◌-◌}
use Rattle.aplc_infer.proofs.Stepping.{settled_more, first_rest}
use Rattle.aplc_infer.proofs.flowing.+settle.Goals as goal

pub returns-in_ok-rest-in-len1-up : goal.returns-in_ok-rest-in-len1-up
returns-in_ok-rest-in-len1-up t c = settled_more c.args.lookup.now c.args.demands.now c.d-item.result (take (length c.args.demands.now - 1) (drop 1 c.args.demands.now)) c.args.tables.now c.raise.new.self c.settle.new.tables c.in_ok-first-in-len1-up.first c.in_ok-rest-in-len1-up.rest c.either.result (first_rest c.args.demands.now c.d-item.result c.in-len1-up.len_at_least c.d-item.is) c.in_ok-first-in-len1-up.ensures c.in_ok-rest-in-len1-up.ensures c.either.ensures
