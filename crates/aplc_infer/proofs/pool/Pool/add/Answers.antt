use Rattle.aplc_infer.proofs.Pooled.{added_fact}
use Rattle.aplc_infer.proofs.pool.Pool.add.Goals as goal

pub returns-clause-fact : goal.returns-clause-fact
returns-clause-fact c = added_fact c.insert_full.new.self.keys c.in_ok-number.number c.args.fact c.in_ok-number.ensures.stored
