use Rattle.std.proofs.Common.{◌≡◌, ◌++◌, drop}
use Rattle.std.specs.Prelude.{reverse}
use Rattle.aplc_gen.proofs.known.Known.add_all.Given as goal

-- those that are left, before those so far, are all
abbrev pub invariant-loop-name : goal.invariant-loop-name
invariant-loop-name l = reverse (drop l.name-index l.names) ++ l.self ≡ reverse l.names ++ l.fn.self
