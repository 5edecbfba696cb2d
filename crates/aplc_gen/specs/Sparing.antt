-- Which flags a program needs, which names surely have a value, and whether its calls have to be counted.
use Rattle.std.specs.Prelude.{ℕ, suc, ◌+◌, min, List, [], ◌∷◌, Option, Some, None, Bool, true, false, ◌&&◌, if◌then◌else◌, slice_get, unwrap_or, refl}
use Rattle.std.specs.List.{filter}
use Rattle.std.specs.Coded.{Coded, code_by, coded×, coded_list, coded_ℕ}
use Rattle.aplc_names.specs.declared.scope.Scope.{Scope}
use Rattle.aplc_names.specs.declared.scope.Scope.TheVariants as scope
use Rattle.aplc_names.specs.States.{is_among}
use Rattle.aplc_core.specs.PlainSteps.{Term, Read, Mono, Dyad, Effect, Keep, Store, Show, Branch}
use Rattle.aplc_core.specs.CoreRuns.{CoreRoutine, PlainCore}
use Rattle.aplc_gen.specs.Layouts.{Frame, Layout, Site, the_routine}
use Rattle.aplc_gen.specs.Emitted.{known_after, known_behind, known_through, branches, is_entry, first_known, site_at}
use Rattle.aplc_gen.specs.Laid.{known_at_end, lines_fall}
use Rattle.aplc_gen.specs.Made.{with_each, layout_of}

-- ---- Flags: of the names that are read where they are not known to have a value

pub record Flags : Type 0 where
  -- local names of one function, the latest first
  pub locals : List ℕ
  -- global names
  pub globals : List ℕ

abbrev pub flags_code : Coded Flags
flags_code = code_by (List ℕ × List ℕ) (coded× (coded_list coded_ℕ) (coded_list coded_ℕ)) (λ s. (s.locals, s.globals)) (λ p. record { locals = p.0; globals = p.1 }) (λ _. refl)

abbrev pub no_flags : Flags
no_flags = record { locals = []; globals = [] }

abbrev pub with_flag : Scope → ℕ → Flags → Flags
with_flag scope.Local n s = record s { locals = n ∷ s.locals }
with_flag (scope.Label z) n s = s
with_flag _ n s = record s { globals = n ∷ s.globals }

abbrev pub read_flags : List ℕ → Scope → ℕ → Flags → Flags
read_flags known x n s = if is_among n known then s else with_flag x n s

abbrev pub term_flags : (ℕ → Scope) → List ℕ → Term → Flags → Flags
term_flags sc known (Read i n) s = read_flags known (sc n) n s
term_flags sc known (Mono i f b) s = term_flags sc known b s
term_flags sc known (Dyad i f a b) s = term_flags sc (known_after known b) a (term_flags sc known b s)
term_flags sc known _ s = s

abbrev pub step_flags : (ℕ → Scope) → List ℕ → Effect → Flags → Flags
step_flags sc known (Keep k t) s = term_flags sc known t s
step_flags sc known (Store i n t) s = term_flags sc known t s
step_flags sc known (Show o t) s = term_flags sc known t s
step_flags sc known (Branch t) s = term_flags sc known t s
step_flags sc known _ s = s

abbrev pub steps_flags : (ℕ → Scope) → List ℕ → List Effect → Flags → Flags
steps_flags sc known [] s = s
steps_flags sc known (x ∷ xs) s = steps_flags sc (known_behind known x) xs (step_flags sc known x s)

-- the lines from number l on, as the code goes through them
abbrev pub lines_flags : CoreRoutine → List ℕ → Bool → ℕ → List (List Effect) → Flags → Flags
lines_flags f known through l [] s = s
lines_flags f known through l ([] ∷ xs) s = lines_flags f known through (l + 1) xs s
lines_flags f known through l ((x ∷ more) ∷ xs) s =
    if through && is_entry f l then s
    else (if branches (x ∷ more) then steps_flags f.header.scope known (x ∷ more) s
    else lines_flags f (known_through known (x ∷ more)) true (l + 1) xs (steps_flags f.header.scope known (x ∷ more) s))

-- the segments that begin at entries, where these names have a value
abbrev pub arms_flags : CoreRoutine → List ℕ → ℕ → List (List Effect) → Flags → Flags
arms_flags f sure l [] s = s
arms_flags f sure l (x ∷ xs) s = arms_flags f sure (l + 1) xs (if is_entry f l then lines_flags f sure false l (x ∷ xs) s else s)

-- the result at the end
abbrev pub result_flags : List ℕ → Option ℕ → Flags → Flags
result_flags sure None s = s
result_flags sure (Some n) s = if is_among n sure then s else record s { locals = n ∷ s.locals }

-- ---- Functions

-- what has a value behind the first segment, and so wherever a branch may lead
abbrev pub sure_of : Site → List ℕ
sure_of g = with_each [] (known_at_end g (first_known g) false 1 (the_routine g).steps)

abbrev pub run_flags : CoreRoutine → List ℕ → List ℕ → Flags → Flags
run_flags f known sure s = result_flags sure f.header.result (arms_flags f sure 1 f.steps (lines_flags f known false 1 f.steps (record s { locals = [] })))

abbrev pub site_flags : Site → Flags → Flags
site_flags g s = run_flags (the_routine g) (first_known g) (sure_of g) s

abbrev pub is_flag_of : List ℕ → ℕ → Bool
is_flag_of ns n = is_among n ns

abbrev pub frame_spared : List ℕ → List ℕ → Frame → Frame
frame_spared flags sure x = record { names = x.names; unsure = filter (is_flag_of flags) x.names; slots = x.slots; sure = sure }

-- of the functions from number j on, with their frames as they are without this
abbrev pub frames_spared : Layout → PlainCore → ℕ → List Frame → Flags → List Frame
frames_spared y p j [] s = []
frames_spared y p j (x ∷ xs) s =
    frame_spared (site_flags (site_at y p false j) s).locals (sure_of (site_at y p false j)) x
    ∷ frames_spared y p (suc j) xs (site_flags (site_at y p false j) s)

abbrev pub flags_spared : Layout → PlainCore → ℕ → List Frame → Flags → Flags
flags_spared y p j [] s = s
flags_spared y p j (x ∷ xs) s = flags_spared y p (suc j) xs (site_flags (site_at y p false j) s)

-- ---- Calls: where each leads to a lower rank, they nest less deep than there are ranks

abbrev pub rank_in : List ℕ → ℕ → ℕ
rank_in ranks j = min (unwrap_or (slice_get ranks j) 0) 4095

-- of the functions from number j on
abbrev pub all_fall : List ℕ → ℕ → List CoreRoutine → Bool
all_fall ranks j [] = true
all_fall ranks j (f ∷ fs) = lines_fall (rank_in ranks) j f f.steps && all_fall ranks (suc j) fs

-- ---- Programs

abbrev pub spared_with : Layout → PlainCore → List ℕ → Layout
spared_with y p ranks = record {
  globals = y.globals;
  unsure = filter (is_flag_of (flags_spared y p 0 y.frames no_flags).globals) y.globals;
  called = y.called;
  counted = if all_fall ranks 0 p.routines then false else y.counted;
  frames = frames_spared y p 0 y.frames no_flags;
}

-- the variables of a program, where its functions have these ranks
abbrev pub spared : PlainCore → List ℕ → Layout
spared p ranks = spared_with (layout_of p) p ranks
