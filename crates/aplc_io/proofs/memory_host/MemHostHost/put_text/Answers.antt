use Rattle.std.proofs.Common.{rules, refl}
use Rattle.aplc_io.specs.Memory.{TextCallFails}
use Rattle.aplc_io.proofs.memory_host.MemHostHost.put_text.Goals as goal
use Rattle.aplc_io.proofs.memory_host.MemHostHost.put_text.Goals.{then-len-self-via-then-len-self, then-len-self-via-else-len-self+then-contains}

pub returns-then-len-self-clause-failed : goal.returns-then-len-self-clause-failed
returns-then-len-self-clause-failed c =
    let why : TextCallFails c.args.self.now = rw (← c.self.view_is) (elim c.then-len-self.branch [ then-len-self-via-then-len-self w ↦ search (rules, w) | then-len-self-via-else-len-self+then-contains w ↦ search (rules, w) ]) in
    (λ _. why, λ _. refl)
