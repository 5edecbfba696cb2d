use Rattle.aplc_gen.specs.Writing.{lowered_core}
use Rattle.aplc_gen.proofs.Laying.{IsLaidOut}
use Rattle.aplc_gen.proofs.layout.layout.Given as goal

abbrev pub invariant-loop-function : goal.invariant-loop-function
invariant-loop-function l = IsLaidOut (lowered_core l.core) l.function l.frames.items l.needs
