-- What the run of a program shows.
use Rattle.std.specs.Prelude.{ℕ, List, map, pos}
use Rattle.aplc_cprof.specs.Behaviour.{Standing}
use Rattle.aplc_cprof.specs.Behaviour as standing
use Rattle.aplc_cprof.specs.Machine as machine
use Rattle.aplc_names.specs.PlainPrograms.{PlainProgram}
use Rattle.aplc_names.specs.States.{Place, Places, Marking}
use Rattle.aplc_names.specs.Runs.{Run, Ended, Faulted, Going, eager}
use Rattle.aplc_core.specs.CoreRuns.{PlainCore, core}

-- a place of the source as one of the machine
abbrev pub place_shown : Place → machine.Place
place_shown p = record { name = p.function; line = pos p.line }

abbrev pub places_shown : Places → machine.Places
places_shown ps = record { here = place_shown ps.here; behind = map place_shown ps.behind }

abbrev pub run_shown : Run → Standing
run_shown (Ended o marks) = standing.Ended o (map place_shown marks)
run_shown (Faulted o marks k places) = standing.Faulted o (map place_shown marks) k (places_shown places)
run_shown (Going o marks) = standing.Going o (map place_shown marks)

-- what a program shows on an input, with so many lines started
abbrev pub source_behaviour : PlainProgram → Marking → List ℕ → ℕ → Standing
source_behaviour p m input n = run_shown (eager p m input n)

-- what a lowered program shows
abbrev pub core_behaviour : PlainCore → Marking → List ℕ → ℕ → Standing
core_behaviour p m input n = run_shown (core p m input n)
