-- The run of a MAIN of sums with so many lines started.
use Rattle.std.specs.Prelude.{ℕ, List, [], codes}
use Rattle.aplc_names.specs.Sums.{Task}
use Rattle.aplc_names.specs.Runs.{Run, Ended, Faulted, Going}
use Rattle.aplc_names.specs.SumEager.{State, Outcome, lines_from}
use Rattle.aplc_names.specs.SumEager as outcome

abbrev pub run_of : Outcome (Unit {0}) → Run
run_of (outcome.Gives done s) = Ended s.output s.marks
run_of (outcome.Faulted k s) = Faulted s.output s.marks k s.places
run_of (outcome.Going s) = Going s.output s.marks

abbrev pub main : List ℕ
main = codes "MAIN"

-- at first one frame stands, that of MAIN, before its first line
abbrev pub initial : List ℕ → ℕ → State
initial input n = record { places = record { here = record { function = main; line = 0 }; behind = [] }; input = input; output = []; marks = []; left = n }

-- MAIN on an input, stopped before line n + 1 would start; a line without a statement counts too
unfoldable pub eager : List Task → List ℕ → ℕ → Run
eager lines input n = run_of (lines_from 1 lines (initial input n))
