-- Runs of whole programs, with so many lines started.
use Rattle.std.specs.Prelude.{ℕ, zero, suc, ◌+◌, List, [], ◌∷◌, ◌++◌, sum, map, Option, Some, None, slice_get, false, nat_lt, if◌then◌else◌}
use Rattle.aplc_scalar.specs.declared.kind.FaultKind.{FaultKind}
use Rattle.aplc_scalar.specs.declared.kind.FaultKind.TheVariants as fault
use Rattle.aplc_arr.specs.Arrays.{Array}
use Rattle.aplc_names.specs.PlainPrograms.{Action, nothing, Routine, PlainProgram, main_routine, names_of_header, header_count}
use Rattle.aplc_names.specs.States.{Values, Place, Places, at_line, in_front, depth, World, State, Marking, Outcome, Gives, and_then, final, on_world, set_name, no_values, worked, weight_of, grown, shrunk}
use Rattle.aplc_names.specs.States as outcome
use Rattle.aplc_names.specs.Eager.{Caller, Context, statement}

-- the run of a function from a line on, until it is left; it gives the value of the result's name, if that has one
abbrev pub Runner : Type 0
Runner = Routine → ℕ → State → Outcome (Option Array)

-- ---- Calls

-- how many frames may stand
abbrev pub depth_limit : ℕ
depth_limit = 4096

abbrev pub set_some : Option ℕ → Option Array → Values → Values
set_some None v names = names
set_some (Some n) v names = set_name n v names

-- the local names of a function that is entered: its arguments alone have values
abbrev pub frame : Routine → Option Array → Option Array → Values
frame f x y = set_some f.left x (set_some f.right y no_values)

-- what the values of these names count
abbrev pub count_of : List ℕ → Values → ℕ
count_of ns names = sum (map (λ n. weight_of (names n)) ns)

-- where a function stands before its first line
abbrev pub place_of : Routine → Place
place_of f = record { function = f.title; line = 0 }

-- a new frame stands in front, and its parameters count; the names of the header count as work
abbrev pub entered : Routine → Option Array → Option Array → State → State
entered f x y s = record {
  world = worked (header_count f) (record s.world { locals = frame f x y; places = in_front (place_of f) s.world.places });
  account = record (grown (count_of (names_of_header f) (frame f x y)) s.account) { held = 0 };
}

-- the caller's frame and statement again, where s is the state before the call and t the one where function f was left
abbrev pub back : Routine → State → State → State
back f s t = record {
  world = record t.world { locals = s.world.locals; places = s.world.places };
  account = record (shrunk (count_of (names_of_header f) t.world.locals) t.account) { held = s.account.held };
}

-- LIMIT where as many frames stand as may
abbrev pub call_routine : Runner → Option Routine → Option Array → Option Array → State → Outcome (Option Array)
call_routine r None x y s = outcome.Faulted fault.Value s
call_routine r (Some f) x y s =
    if nat_lt (depth s.world.places) depth_limit
    then and_then (r f 1 (entered f x y s)) (λ v t. Gives v (back f s t))
    else outcome.Faulted fault.Limit s

abbrev pub caller : PlainProgram → Runner → Caller
caller p r j x y s = call_routine r (slice_get p.routines j) x y s

-- ---- Lines

-- the line with this number
abbrev pub line_at : List Action → ℕ → Option Action
line_at xs zero = None
line_at xs (suc l) = slice_get xs l

-- an empty statement leaves no mark
abbrev pub marks_of : Action → Place → List Place
marks_of nothing q = []
marks_of x q = q ∷ []

-- line l is started: the frame stands there, and a statement leaves a mark; k more may start
abbrev pub started : ℕ → Action → ℕ → World → World
started l x k w = record w { left = k; places = at_line l w.places; marks = w.marks ++ marks_of x (at_line l w.places).here }

abbrev pub after : ℕ → Option ℕ → ℕ
after l None = l + 1
after l (Some t) = t

abbrev pub result_of : Option ℕ → Values → Option Array
result_of None names = None
result_of (Some n) names = names n

-- the line of number l, where so many may still start, and then the next ones; where there is no such line the function
-- is left
abbrev pub from_line : Context → Routine → (ℕ → State → Outcome (Option Array)) → ℕ → Option Action → ℕ → State → Outcome (Option Array)
from_line c f next l None k s = Gives (result_of f.result s.world.locals) s
from_line c f next l (Some x) zero s = outcome.Going s
from_line c f next l (Some x) (suc k) s = and_then (statement c x (on_world (started l x k) s)) (λ to t. next (after l to) t)

abbrev pub context : PlainProgram → Marking → Runner → Routine → Context
context p m r f = record { origin = p.origin; scope = f.scope; marking = m; call = caller p r }

-- function f from line l on, where calls and lines together nest at most k deep
abbrev pub run : PlainProgram → Marking → ℕ → Runner
run p m zero f l s = outcome.Going s
run p m (suc k) f l s = from_line (context p m (run p m k) f) f (run p m k f) l (line_at f.lines l) s.world.left s

-- ---- Whole runs

-- What a run comes to: its output and its marks, and for a fault its kind and the places of that moment.
pub data Run : Type 0 where
  Ended : List ℕ → List Place → Run
  Faulted : List ℕ → List Place → FaultKind → Places → Run
  Going : List ℕ → List Place → Run

abbrev pub run_of : {A : Type 0} → Outcome A → Run
run_of (Gives v s) = Ended s.world.output s.world.marks
run_of (outcome.Faulted k s) = Faulted s.world.output s.world.marks k s.world.places
run_of (outcome.Going s) = Going s.world.output s.world.marks

-- at first one frame stands, before its first line, and no name has a value; n lines may start; the names of the header
-- count as work
abbrev pub initial : Routine → List ℕ → ℕ → State
initial f input n = record {
  world = record { globals = no_values; locals = no_values; places = record { here = place_of f; behind = [] }; left = n; input = input; output = []; marks = []; work = header_count f; given = [] };
  account = record { now = 0; peak = 0; held = 0; late = false };
}

-- a function where a program starts, stopped before line n + 1 would start; an empty line counts too
abbrev pub run_main : PlainProgram → Marking → List ℕ → ℕ → Routine → Outcome (Option Array)
run_main p m input n f = run p m (n + 1) f 1 (initial f input n)

-- MAIN on an input
abbrev pub evaluated : PlainProgram → Marking → List ℕ → ℕ → Outcome (Option Array)
evaluated p m input n = run_main p m input n (main_routine p)

unfoldable pub eager : PlainProgram → Marking → List ℕ → ℕ → Run
eager p m input n = run_of (evaluated p m input n)

-- the greatest account met
unfoldable pub peak : PlainProgram → Marking → List ℕ → ℕ → ℕ
peak p m input n = (final (evaluated p m input n)).account.peak

unfoldable pub work : PlainProgram → Marking → List ℕ → ℕ → ℕ
work p m input n = (final (evaluated p m input n)).world.work
