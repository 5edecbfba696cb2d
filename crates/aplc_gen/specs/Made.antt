-- The variables that are made for a program: each local name has one and a flag, and so has each global name of a step.
use Rattle.std.specs.Prelude.{ℕ, ◌+◌, max, List, [], ◌∷◌, ◌++◌, length, Option, Some, None, Bool, true, false, if◌then◌else◌, ◌&&◌, nat_lt, nat_le, refl}
use Rattle.std.specs.Option.{option_to_list}
use Rattle.std.specs.Coded.{Coded, code_by, coded×, coded_list, coded_ℕ}
use Rattle.aplc_names.specs.declared.scope.Scope.{Scope}
use Rattle.aplc_names.specs.declared.scope.Scope.TheVariants as scope
use Rattle.aplc_names.specs.PlainPrograms.{names_of_header}
use Rattle.aplc_names.specs.States.{is_among}
use Rattle.aplc_names.specs.Eager.{function_of}
use Rattle.aplc_core.specs.PlainSteps.{Term, Read, Slot, Mono, Dyad, Effect, Keep, Store, Call, Show, Branch}
use Rattle.aplc_core.specs.CoreRuns.{CoreRoutine, PlainCore}
use Rattle.aplc_gen.specs.Layouts.{Frame, Layout}

-- ---- Lists without repetitions

abbrev pub with_new : ℕ → List ℕ → List ℕ
with_new n ns = if is_among n ns then ns else ns ++ n ∷ []

abbrev pub with_each : List ℕ → List ℕ → List ℕ
with_each ns [] = ns
with_each ns (m ∷ ms) = with_each (with_new m ns) ms

-- ---- What steps need

pub record Needs : Type 0 where
  -- global names
  pub globals : List ℕ
  -- functions
  pub called : List ℕ
  -- slots of one function
  pub slots : ℕ

abbrev pub needs_code : Coded Needs
needs_code = code_by (List ℕ × (List ℕ × ℕ)) (coded× (coded_list coded_ℕ) (coded× (coded_list coded_ℕ) coded_ℕ)) (λ s. (s.globals, (s.called, s.slots))) (λ p. record { globals = p.0; called = p.1.0; slots = p.1.1 }) (λ _. refl)

abbrev pub no_needs : Needs
no_needs = record { globals = []; called = []; slots = 0 }

abbrev pub with_global : Scope → ℕ → Needs → Needs
with_global scope.Global n s = record s { globals = with_new n s.globals }
with_global _ n s = s

abbrev pub with_slot : ℕ → Needs → Needs
with_slot k s = record s { slots = max s.slots (k + 1) }

abbrev pub with_slots : Option ℕ → Needs → Needs
with_slots None s = s
with_slots (Some k) s = with_slot k s

abbrev pub with_called : ℕ → Needs → Needs
with_called j s = record s { called = with_new j s.called }

abbrev pub term_needs : (ℕ → Scope) → Term → Needs → Needs
term_needs sc (Read i n) s = with_global (sc n) n s
term_needs sc (Slot i k) s = with_slot k s
term_needs sc (Mono i f b) s = term_needs sc b s
term_needs sc (Dyad i f a b) s = term_needs sc a (term_needs sc b s)
term_needs sc _ s = s

abbrev pub step_needs : (ℕ → Scope) → Effect → Needs → Needs
step_needs sc (Keep k t) s = with_slot k (term_needs sc t s)
step_needs sc (Store i n t) s = with_global (sc n) n (term_needs sc t s)
step_needs sc (Call i n a b r) s = with_slots r (with_slots b (with_slots a (with_called (function_of (sc n)) s)))
step_needs sc (Show o t) s = term_needs sc t s
step_needs sc (Branch t) s = term_needs sc t s
step_needs sc _ s = s

abbrev pub steps_need : (ℕ → Scope) → List Effect → Needs → Needs
steps_need sc [] s = s
steps_need sc (x ∷ xs) s = steps_need sc xs (step_needs sc x s)

abbrev pub lines_need : (ℕ → Scope) → List (List Effect) → Needs → Needs
lines_need sc [] s = s
lines_need sc (x ∷ xs) s = lines_need sc xs (steps_need sc x s)

-- each function has slots of its own
abbrev pub routine_needs : CoreRoutine → Needs → Needs
routine_needs f s = lines_need f.header.scope f.steps (record s { slots = 0 })

abbrev pub all_need : List CoreRoutine → Needs → Needs
all_need [] s = s
all_need (f ∷ fs) s = all_need fs (routine_needs f s)

-- ---- Programs

abbrev pub parameters : CoreRoutine → List ℕ
parameters f = option_to_list f.header.left ++ option_to_list f.header.right

-- with this many slots
abbrev pub frame_made : CoreRoutine → ℕ → Frame
frame_made f k = record {
  names = with_each [] (names_of_header f.header);
  unsure = with_each [] (names_of_header f.header);
  slots = k;
  sure = with_each [] (parameters f);
}

abbrev pub frames_made : List CoreRoutine → Needs → List Frame
frames_made [] s = []
frames_made (f ∷ fs) s = frame_made f (routine_needs f s).slots ∷ frames_made fs (routine_needs f s)

abbrev pub is_some_called : List ℕ → Bool
is_some_called [] = false
is_some_called (j ∷ js) = true

abbrev pub layout_with : Needs → List Frame → Layout
layout_with s frames = record { globals = s.globals; unsure = s.globals; called = s.called; counted = is_some_called s.called; frames = frames }

-- the variables of a program
abbrev pub layout_of : PlainCore → Layout
layout_of p = layout_with (all_need p.routines no_needs) (frames_made p.routines no_needs)

-- ---- What is asked of a program: slots and names have small numbers, and local names are those of headers

abbrev pub is_low_name : List ℕ → Scope → ℕ → Bool
is_low_name hs scope.Local n = is_among n hs
is_low_name hs scope.Global n = nat_lt n 262144
is_low_name hs _ n = true

abbrev pub is_low_slot : Option ℕ → Bool
is_low_slot None = true
is_low_slot (Some k) = nat_lt k 2000

abbrev pub is_low_term : (ℕ → Scope) → List ℕ → Term → Bool
is_low_term sc hs (Read i n) = is_low_name hs (sc n) n
is_low_term sc hs (Slot i k) = nat_lt k 2000
is_low_term sc hs (Mono i f b) = is_low_term sc hs b
is_low_term sc hs (Dyad i f a b) = is_low_term sc hs a && is_low_term sc hs b
is_low_term sc hs _ = true

abbrev pub is_low_step : (ℕ → Scope) → List ℕ → Effect → Bool
is_low_step sc hs (Keep k t) = nat_lt k 2000 && is_low_term sc hs t
is_low_step sc hs (Store i n t) = is_low_name hs (sc n) n && is_low_term sc hs t
is_low_step sc hs (Call i n a b r) = is_low_slot a && (is_low_slot b && is_low_slot r)
is_low_step sc hs (Show o t) = is_low_term sc hs t
is_low_step sc hs (Branch t) = is_low_term sc hs t
is_low_step sc hs _ = true

abbrev pub are_low_steps : (ℕ → Scope) → List ℕ → List Effect → Bool
are_low_steps sc hs [] = true
are_low_steps sc hs (x ∷ xs) = is_low_step sc hs x && are_low_steps sc hs xs

abbrev pub are_low_lines : (ℕ → Scope) → List ℕ → List (List Effect) → Bool
are_low_lines sc hs [] = true
are_low_lines sc hs (x ∷ xs) = are_low_steps sc hs x && are_low_lines sc hs xs

abbrev pub are_below : List ℕ → Bool
are_below [] = true
are_below (n ∷ ns) = nat_lt n 262144 && are_below ns

abbrev pub is_low_routine : CoreRoutine → Bool
is_low_routine f = are_below (names_of_header f.header) && are_low_lines f.header.scope (names_of_header f.header) f.steps

abbrev pub are_low_routines : List CoreRoutine → Bool
are_low_routines [] = true
are_low_routines (f ∷ fs) = is_low_routine f && are_low_routines fs

-- a text of at most 262144 bytes has no more names, and functions are at most 999
abbrev pub is_modest : PlainCore → Bool
is_modest p = nat_le (length p.routines) 999 && are_low_routines p.routines
