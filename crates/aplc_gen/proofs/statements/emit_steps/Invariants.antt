use Rattle.std.proofs.Common.{◌≡◌, drop, map, true}
use Rattle.aplc_core.specs.PlainSteps.{effect_of}
use Rattle.aplc_gen.specs.Emitted.{work_code, known_through, branches}
use Rattle.aplc_gen.specs.Writing.{added, site_of, slots_at, fits_steps}
use Rattle.aplc_gen.proofs.statements.emit_steps.Given as goal

-- the code so far, with that of the steps left, is the whole
abbrev pub invariant-loop-step : goal.invariant-loop-step
invariant-loop-step l =
    (added (work_code (site_of l.flow) l.known (map effect_of (drop l.step-index l.steps))) l.b ≡ added (work_code (site_of l.flow) l.fn.known (map effect_of l.steps)) l.fn.b)
    × (known_through l.known (map effect_of (drop l.step-index l.steps)) ≡ known_through l.fn.known (map effect_of l.steps))
    × (branches (map effect_of (drop l.step-index l.steps)) ≡ branches (map effect_of l.steps))
    × (fits_steps (slots_at l.flow) (map effect_of (drop l.step-index l.steps)) ≡ true)
