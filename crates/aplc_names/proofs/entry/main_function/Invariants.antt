use Rattle.std.proofs.Common.{◌≡◌, drop}
use Rattle.std.specs.Prelude.{find}
use Rattle.aplc_syntax.specs.declared.tree.Function.{Function}
use Rattle.aplc_names.specs.Outlines.{outline}
use Rattle.aplc_names.specs.Clashes.{is_start}
use Rattle.aplc_names.proofs.entry.main_function.Given as goal

abbrev pub invariant-loop-function : goal.invariant-loop-function
invariant-loop-function l =
    find (λ (f : Function). is_start l.program.names (outline f)) (drop l.function-index l.program.functions)
    ≡ find (λ (f : Function). is_start l.program.names (outline f)) l.program.functions
