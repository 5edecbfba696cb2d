use Rattle.std.proofs.Common.{◌≡◌, drop, map, true}
use Rattle.aplc_names.specs.PlainPrograms.{names_of_header}
use Rattle.aplc_core.specs.PlainSteps.{effect_of}
use Rattle.aplc_gen.specs.Layouts.{routine_at}
use Rattle.aplc_gen.specs.Writing.{lowered_core}
use Rattle.aplc_gen.specs.Made.{steps_need, are_low_steps}
use Rattle.aplc_gen.proofs.layout.Needs.add_steps.Given as goal

abbrev pub invariant-loop-step : goal.invariant-loop-step
invariant-loop-step l =
    (steps_need (routine_at (lowered_core l.core) l.function).header.scope (map effect_of (drop l.step-index l.steps)) l.self ≡ steps_need (routine_at (lowered_core l.core) l.function).header.scope (map effect_of l.steps) l.fn.self)
    × (are_low_steps (routine_at (lowered_core l.core) l.function).header.scope (names_of_header (routine_at (lowered_core l.core) l.function).header) (map effect_of (drop l.step-index l.steps)) ≡ true)
