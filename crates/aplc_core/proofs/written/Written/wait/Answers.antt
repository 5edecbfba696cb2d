use Rattle.std.proofs.Common.{rules}
use Rattle.aplc_core.proofs.Turned.{one_waits}
use Rattle.aplc_core.proofs.written.Written.wait.Goals as goal

pub returns : goal.returns
returns c = one_waits c.self.inside.steps.items c.self.inside.free c.self.inside.kept c.push.new.self c.args.kept c.args.self.now c.self.view_is (search rules)
