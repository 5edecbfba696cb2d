-- Which variables a program and its functions have, and where each value stands.
use Rattle.std.specs.Prelude.{ℕ, ◌+◌, suc, List, [], ◌∷◌, length, Bool, nat_eq, if◌then◌else◌, slice_get, unwrap_or}
use Rattle.aplc_cprof.specs.declared.syntax.Int.{Int}
use Rattle.aplc_cprof.specs.declared.syntax.Int.TheVariants as int
use Rattle.aplc_names.specs.declared.scope.Scope.{Scope}
use Rattle.aplc_names.specs.declared.scope.Scope.TheVariants as scope
use Rattle.aplc_names.specs.States.{is_among}
use Rattle.aplc_core.specs.CoreRuns.{CoreRoutine, PlainCore, no_core}

-- the variables of a function
pub record Frame : Type 0 where
  -- the local names that have one
  pub names : List ℕ
  -- those that may be unset when they are read: they have a flag
  pub unsure : List ℕ
  -- how many slots the lines use
  pub slots : ℕ
  -- the names that have a value wherever a branch may lead, and at the end
  pub sure : List ℕ

-- the variables of a program
pub record Layout : Type 0 where
  -- the global names that have one
  pub globals : List ℕ
  -- those that may be unset when they are read
  pub unsure : List ℕ
  -- the functions that are called, by their numbers, in the order of their C functions from 1 on
  pub called : List ℕ
  -- calls are counted, since they may nest too deep
  pub counted : Bool
  -- of each function, by its number
  pub frames : List Frame

-- a function that is being written, in its program
pub record Site : Type 0 where
  pub program : PlainCore
  pub layout : Layout
  -- its number
  pub number : ℕ
  -- the run begins with it: it is no call's
  pub first : Bool

-- ---- Numbers

-- where something stands first in a list, and the list's length if it does not
abbrev pub place_in : List ℕ → ℕ → ℕ
place_in [] n = 0
place_in (x ∷ xs) n = if nat_eq x n then 0 else suc (place_in xs n)

-- the C function of a function that is called
abbrev pub function_place : Layout → ℕ → ℕ
function_place y j = suc (place_in y.called j)

abbrev pub no_frame : Frame
no_frame = record { names = []; unsure = []; slots = 0; sure = [] }

abbrev pub frame_of : Layout → ℕ → Frame
frame_of y j = unwrap_or (slice_get y.frames j) no_frame

abbrev pub routine_at : PlainCore → ℕ → CoreRoutine
routine_at p j = unwrap_or (slice_get p.routines j) no_core

abbrev pub the_routine : Site → CoreRoutine
the_routine g = routine_at g.program g.number

abbrev pub the_frame : Site → Frame
the_frame g = frame_of g.layout g.number

-- ---- Global variables: those of calls, the values of names, their flags

abbrev pub depth : Int
depth = int.Global 0

-- the right argument of a call on its way, and the left one
abbrev pub right_passed : Int
right_passed = int.Global 1

abbrev pub left_passed : Int
left_passed = int.Global 2

-- the result on its way, and whether there is one
abbrev pub result : Int
result = int.Global 3

abbrev pub result_flag : Int
result_flag = int.Global 4

-- a program without calls has none of these
abbrev pub for_calls : List ℕ → ℕ
for_calls [] = 0
for_calls (j ∷ js) = 5

abbrev pub global_base : Layout → ℕ
global_base y = for_calls y.called

abbrev pub global_ints : Layout → ℕ
global_ints y = global_base y + length y.globals + length y.unsure

-- ---- Local variables: the values of names, their flags, the line, the slots, and what stands within trees

abbrev pub line_place : Site → ℕ
line_place g = length (the_frame g).names + length (the_frame g).unsure

abbrev pub slot_place : Site → ℕ → ℕ
slot_place g k = line_place g + 1 + k

-- the first one that is free for values within trees
abbrev pub base : Site → ℕ
base g = line_place g + 1 + (the_frame g).slots

-- ---- Names

abbrev pub local_value : Site → ℕ → Int
local_value g n = int.Local (place_in (the_frame g).names n)

abbrev pub local_flag : Site → ℕ → Int
local_flag g n = int.Local (length (the_frame g).names + place_in (the_frame g).unsure n)

abbrev pub global_value : Layout → ℕ → Int
global_value y n = int.Global (global_base y + place_in y.globals n)

abbrev pub global_flag : Layout → ℕ → Int
global_flag y n = int.Global (global_base y + length y.globals + place_in y.unsure n)

-- the value of a variable's name
abbrev pub value_place : Site → Scope → ℕ → Int
value_place g scope.Local n = local_value g n
value_place g _ n = global_value g.layout n

-- 1 where it has one, else 0
abbrev pub flag_place : Site → Scope → ℕ → Int
flag_place g scope.Local n = local_flag g n
flag_place g _ n = global_flag g.layout n

abbrev pub is_unsure : Site → Scope → ℕ → Bool
is_unsure g scope.Local n = is_among n (the_frame g).unsure
is_unsure g _ n = is_among n g.layout.unsure
