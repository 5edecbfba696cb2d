-- Runs of programs whose lines are steps. The state is that of eager evaluation, with slots beside it while a line runs.
use Rattle.std.specs.Prelude.{ℕ, zero, suc, ◌+◌, ℤ, List, [], ◌∷◌, ◌++◌, length, Option, Some, None, option_map, slice_get, unwrap_or, option_and_then, Bool, true, false, nat_eq, if◌then◌else◌}
use Rattle.aplc_scalar.specs.declared.kind.Kind.TheVariants.{Num, Char}
use Rattle.aplc_scalar.specs.declared.kind.FaultKind.TheVariants as fault
use Rattle.aplc_scalar.specs.Input.{input_line, number_line}
use Rattle.aplc_arr.specs.Arrays.{Array, product}
use Rattle.aplc_arr.specs.Indexing.{indexed}
use Rattle.aplc_names.specs.PlainPrograms.{Routine, no_routine}
use Rattle.aplc_names.specs.Primitives.{mono_of, dyad_of, mono_applications, dyad_applications, places_listed}
use Rattle.aplc_names.specs.States.{Place, World, State, Marking, Giving, Outcome, Gives, and_then, final, on_world, on_account, is_among, worked, at_line, released, ended}
use Rattle.aplc_names.specs.States as outcome
use Rattle.aplc_names.specs.Eager.{Caller, Context, Use, passed, stored, displayed, held_for, ready, made, none_for, literal, vector, value_of_name, there, read_line, old_value, assigned, put, change_there, function_of, branch_to, branched}
use Rattle.aplc_names.specs.Runs.{Run, run_of, call_routine, after, result_of, initial}
use Rattle.aplc_core.specs.PlainSteps.{Term, Literal, Read, Slot, Mono, Dyad, Index, Terms, no_more, left_out, and_term, Effect, Keep, Store, StoreAt, Call, ReadText, ReadNums, Show, Branch, id_of}

-- ---- Slots

-- the value in each slot, with the number of its node
abbrev pub Slots : Type 0
Slots = ℕ → Option Giving

abbrev pub no_slots : Slots
no_slots k = None

abbrev pub set_slot : ℕ → ℕ → Array → Slots → Slots
set_slot k i v slots j = if nat_eq k j then Some (record { node = i; value = v }) else slots j

-- what is read of a slot that has no value of that node
abbrev pub nothing_kept : Array
nothing_kept = vector Num []

abbrev pub value_kept : ℕ → Option Giving → Array
value_kept i None = nothing_kept
value_kept i (Some g) = if nat_eq g.node i then g.value else nothing_kept

-- where a step takes its value from a slot, the slot has that value as one of the step's node from now on
abbrev pub passed_on : ℕ → Array → Term → Slots → Slots
passed_on i v (Slot j k) slots = set_slot k i v slots
passed_on i v t slots = slots

-- ---- What a line says of its nodes

pub record Told : Type 0 where
  -- the assignments to names
  pub assigned : List ℕ
  -- the nodes whose value is assigned to a name
  pub stored : List ℕ
  -- those whose value is displayed
  pub displayed : List ℕ

abbrev pub told_by : Effect → Told → Told
told_by (Store i n t) l = record l { assigned = i ∷ l.assigned; stored = id_of t ∷ l.stored }
told_by (Show i t) l = record l { displayed = id_of t ∷ l.displayed }
told_by _ l = l

abbrev pub told : List Effect → Told
told [] = record { assigned = []; stored = []; displayed = [] }
told (x ∷ xs) = told_by x (told xs)

-- what is done with the value of node i
abbrev pub use_in : Told → ℕ → Use
use_in l i = if is_among i l.stored then stored else if is_among i l.displayed then displayed else passed

-- ---- Trees

-- the value of an assignment is there already and adds nothing; VALUE where the name has none
abbrev pub read_again : Option Array → State → Outcome Array
read_again None s = outcome.Faulted fault.Value s
read_again (Some v) s = Gives v s

-- an assignment's own number reads what the assignment wrote
abbrev pub read_name : Context → ℕ → Use → Bool → ℕ → State → Outcome Array
read_name c i u true n s = read_again (old_value (c.scope n) n s.world) s
read_name c i u false n s = there c i u (value_of_name (c.scope n) n s.world) s

abbrev mutual
  -- the value of a tree, from right to left; a slot adds nothing
  pub term_value : Context → Told → Slots → Term → State → Outcome Array
  term_value c l slots (Literal i k zs) s = ready c i (use_in l i) (length zs) (literal k zs) s
  term_value c l slots (Read i n) s = read_name c i (use_in l i) (is_among i l.assigned) n s
  term_value c l slots (Slot i k) s = Gives (value_kept i (slots k)) s
  term_value c l slots (Mono i f b) s =
      and_then (term_value c l slots b s) (λ y s1. made c i (use_in l i) none_for (mono_applications c.origin f y.shape) (mono_of c.origin f y) s1)
  term_value c l slots (Dyad i f a b) s =
      and_then (term_value c l slots b s) (λ y s1.
      and_then (term_value c l slots a s1) (λ x s2. made c i (use_in l i) (places_listed c.origin f x.shape) (dyad_applications c.origin f x.shape y.shape) (dyad_of c.origin f x y) s2))
  term_value c l slots (Index i a xs) s =
      and_then (term_values c l slots xs s) (λ js s1.
      and_then (term_value c l slots a s1) (λ x s2. made c i (use_in l i) none_for none_for (indexed c.origin x js) s2))

  -- the values of an index list, from the last to the first
  pub term_values : Context → Told → Slots → Terms → State → Outcome (List (Option Array))
  term_values c l slots no_more s = Gives [] s
  term_values c l slots (left_out xs) s = and_then (term_values c l slots xs s) (λ vs s1. Gives (None ∷ vs) s1)
  term_values c l slots (and_term t xs) s =
      and_then (term_values c l slots xs s) (λ vs s1. and_then (term_value c l slots t s1) (λ v s2. Gives (Some v ∷ vs) s2))

-- ---- Steps

abbrev pub kept_in : Slots → Option ℕ → Option Giving
kept_in slots None = None
kept_in slots (Some k) = slots k

abbrev pub value_of : Giving → Array
value_of g = g.value

abbrev pub held_for_kept : Marking → Option Giving → ℕ
held_for_kept m None = 0
held_for_kept m (Some g) = held_for m g.node g.value.shape

-- the call, with its left argument and its right one; their holds leave
abbrev pub called_with : Context → ℕ → Option Giving → Option Giving → State → Outcome (Option Array)
called_with c n x y s =
    c.call (function_of (c.scope n)) (option_map value_of x) (option_map value_of y) (on_account (released (held_for_kept c.marking x + held_for_kept c.marking y)) s)

-- the value of node i goes into slot k
abbrev pub into_slot : ℕ → ℕ → Slots → Outcome Array → Outcome Slots
into_slot k i slots o = and_then o (λ v s. Gives (set_slot k i v slots) s)

-- VALUE where a result that is used was never set; a call without a result has work 1
abbrev pub returned : Context → ℕ → Use → Option ℕ → Option Array → Slots → State → Outcome Slots
returned c i u None r slots s = Gives slots (on_world (worked 1) s)
returned c i u (Some k) r slots s = into_slot k i slots (there c i u r s)

-- a value that is displayed by its statement, or as that of a node
abbrev pub shown_as : Context → Told → Option ℕ → Term → Array → Slots → State → Outcome Slots
shown_as c l None t v slots s = Gives slots (put v s)
shown_as c l (Some i) t v slots s = and_then (ready c i (use_in l i) 0 v (put v s)) (λ w s1. Gives (passed_on i v t slots) s1)

-- a step of a line, which gives the slots after it; where a branch leads is told below
abbrev pub step_done : Context → Told → Effect → Slots → State → Outcome Slots
step_done c l (Keep k t) slots s = into_slot k (id_of t) slots (term_value c l slots t s)
step_done c l (Store i n t) slots s =
    and_then (term_value c l slots t s) (λ v s1.
    and_then (ready c i (use_in l i) (product v.shape) v (assigned (c.scope n) n v s1)) (λ w s2. Gives slots s2))
step_done c l (StoreAt i n xs t) slots s =
    and_then (term_value c l slots t s) (λ v s1.
    and_then (term_values c l slots xs s1) (λ js s2.
    and_then (change_there c i (use_in l i) n js v (value_of_name (c.scope n) n s2.world) s2) (λ w s3. Gives (passed_on i v t slots) s3)))
step_done c l (Call i n a b r) slots s =
    and_then (called_with c n (kept_in slots a) (kept_in slots b) s) (λ v s1. returned c i (use_in l i) r v slots s1)
step_done c l (ReadText i k) slots s = into_slot k i slots (read_line c i (use_in l i) Char (input_line s.world.input) s)
step_done c l (ReadNums i k) slots s = into_slot k i slots (read_line c i (use_in l i) Num (number_line s.world.input) s)
step_done c l (Show i t) slots s = and_then (term_value c l slots t s) (λ v s1. shown_as c l i t v slots s1)
step_done c l (Branch t) slots s = and_then (term_value c l slots t s) (λ v s1. Gives slots s1)

-- the steps in order, which give the line where they lead, or none where the next one follows
abbrev pub steps_done : Context → Told → List Effect → Slots → State → Outcome (Option ℕ)
steps_done c l [] slots s = Gives None (on_account ended s)
steps_done c l (Branch t ∷ xs) slots s = and_then (term_value c l slots t s) (λ v s1. branched (branch_to v) s1)
steps_done c l (x ∷ xs) slots s = and_then (step_done c l x slots s) (λ slots1 s1. steps_done c l xs slots1 s1)

-- the steps of a line; without one it is empty
abbrev pub line_done : Context → List Effect → State → Outcome (Option ℕ)
line_done c [] s = Gives None s
line_done c xs s = steps_done c (told xs) xs no_slots s

-- ---- Programs

pub record CoreRoutine : Type 0 where
  -- its header; its lines are not read
  pub header : Routine
  -- the steps of each line, from line 1 on
  pub steps : List (List Effect)

pub record PlainCore : Type 0 where
  pub origin : ℤ
  pub routines : List CoreRoutine
  pub start : Option ℕ

abbrev pub CoreRunner : Type 0
CoreRunner = CoreRoutine → ℕ → State → Outcome (Option Array)

abbrev pub no_core : CoreRoutine
no_core = record { header = no_routine; steps = [] }

abbrev pub core_called : CoreRunner → Option CoreRoutine → Option Array → Option Array → State → Outcome (Option Array)
core_called r None x y s = outcome.Faulted fault.Value s
core_called r (Some f) x y s = call_routine (λ g l t. r f l t) (Some f.header) x y s

abbrev pub core_caller : PlainCore → CoreRunner → Caller
core_caller p r j x y s = core_called r (slice_get p.routines j) x y s

abbrev pub steps_at : List (List Effect) → ℕ → Option (List Effect)
steps_at xs zero = None
steps_at xs (suc l) = slice_get xs l

-- a line without steps leaves no mark
abbrev pub marks_of_steps : List Effect → Place → List Place
marks_of_steps [] q = []
marks_of_steps xs q = q ∷ []

abbrev pub begun : ℕ → List Effect → ℕ → World → World
begun l xs k w = record w { left = k; places = at_line l w.places; marks = w.marks ++ marks_of_steps xs (at_line l w.places).here }

abbrev pub from_steps : Context → CoreRoutine → (ℕ → State → Outcome (Option Array)) → ℕ → Option (List Effect) → ℕ → State → Outcome (Option Array)
from_steps c f next l None k s = Gives (result_of f.header.result s.world.locals) s
from_steps c f next l (Some xs) zero s = outcome.Going s
from_steps c f next l (Some xs) (suc k) s = and_then (line_done c xs (on_world (begun l xs k) s)) (λ to t. next (after l to) t)

abbrev pub core_context : PlainCore → Marking → CoreRunner → CoreRoutine → Context
core_context p m r f = record { origin = p.origin; scope = f.header.scope; marking = m; call = core_caller p r }

-- function f from line l on, where calls and lines together nest at most k deep
abbrev pub core_run : PlainCore → Marking → ℕ → CoreRunner
core_run p m zero f l s = outcome.Going s
core_run p m (suc k) f l s = from_steps (core_context p m (core_run p m k) f) f (core_run p m k f) l (steps_at f.steps l) s.world.left s

-- ---- Whole runs

abbrev pub main_core : PlainCore → CoreRoutine
main_core p = unwrap_or (option_and_then (slice_get p.routines) p.start) no_core

abbrev pub core_main : PlainCore → Marking → List ℕ → ℕ → CoreRoutine → Outcome (Option Array)
core_main p m input n f = core_run p m (n + 1) f 1 (initial f.header input n)

-- MAIN on an input
abbrev pub core_evaluated : PlainCore → Marking → List ℕ → ℕ → Outcome (Option Array)
core_evaluated p m input n = core_main p m input n (main_core p)

unfoldable pub core : PlainCore → Marking → List ℕ → ℕ → Run
core p m input n = run_of (core_evaluated p m input n)

-- the greatest account met
unfoldable pub core_peak : PlainCore → Marking → List ℕ → ℕ → ℕ
core_peak p m input n = (final (core_evaluated p m input n)).account.peak

unfoldable pub core_work : PlainCore → Marking → List ℕ → ℕ → ℕ
core_work p m input n = (final (core_evaluated p m input n)).world.work
