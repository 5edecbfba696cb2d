use Rattle.aplc_gen.specs.Writing.{lowered_core}
use Rattle.aplc_gen.proofs.Listed.{FunctionsLeft}
use Rattle.aplc_gen.proofs.generating.functions.Given as goal

-- the functions so far, with those left, are the whole
abbrev pub invariant-loop-index : goal.invariant-loop-index
invariant-loop-index l = FunctionsLeft l.layout (lowered_core l.core) l.index l.functions.items
