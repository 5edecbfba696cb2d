use Rattle.std.proofs.Common.{◌≡◌}
use Rattle.aplc_gen.specs.Emitted.{clear_code}
use Rattle.aplc_gen.specs.Writing.{added, site_of}
use Rattle.aplc_gen.proofs.generating.emit_clear.Given as goal

abbrev pub invariant-loop-flag : goal.invariant-loop-flag
invariant-loop-flag l = l.b ≡ added (clear_code (site_of l.site) l.flag) l.fn.b
