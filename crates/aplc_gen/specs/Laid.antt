-- Which layouts serve a program: every variable that its code names is there, and what is taken for set is set.
use Rattle.std.specs.Prelude.{◌≡◌, ◌<◌, ◌+◌, ◌^◌, ℕ, List, [], ◌∷◌, Option, Some, None, Bool, true, false, ◌&&◌, ◌||◌, nat_lt, nat_le, length, slice_get, unwrap_or, if◌then◌else◌}
use Rattle.aplc_names.specs.declared.scope.Scope.{Scope}
use Rattle.aplc_names.specs.declared.scope.Scope.TheVariants as scope
use Rattle.aplc_names.specs.PlainPrograms.{header_count}
use Rattle.aplc_names.specs.States.{is_among}
use Rattle.aplc_names.specs.Eager.{function_of}
use Rattle.aplc_core.specs.PlainSteps.{Term, Literal, Read, Slot, Mono, Dyad, Index, Effect, Keep, Store, Call, Show, Branch}
use Rattle.aplc_core.specs.CoreRuns.{CoreRoutine, PlainCore}
use Rattle.aplc_gen.specs.Layouts.{Layout, Site, the_routine, the_frame, frame_of, global_ints, is_unsure}
use Rattle.aplc_gen.specs.Emitted.{scope_at, known_after, known_behind, known_through, branches, is_entry, first_known, site_at}

-- ---- Names

-- a variable of this name is there
abbrev pub has_place : Site → Scope → ℕ → Bool
has_place g scope.Local n = is_among n (the_frame g).names
has_place g scope.Global n = is_among n g.layout.globals
has_place g _ n = true

abbrev pub is_label : Scope → Bool
is_label (scope.Label z) = true
is_label _ = false

-- where it is not known to have a value, it has a flag
abbrev pub is_flagged : Site → List ℕ → Scope → ℕ → Bool
is_flagged g known x n = is_among n known || (is_label x || is_unsure g x n)

-- ---- Trees and steps

abbrev pub is_laid_term : Site → List ℕ → Term → Bool
is_laid_term g known (Literal i kind zs) = true
is_laid_term g known (Read i n) = has_place g (scope_at g n) n && is_flagged g known (scope_at g n) n
is_laid_term g known (Slot i k) = nat_lt k (the_frame g).slots
is_laid_term g known (Mono i p b) = is_laid_term g known b
is_laid_term g known (Dyad i p a b) = is_laid_term g known b && is_laid_term g (known_after known b) a
is_laid_term g known (Index i a xs) = false

abbrev pub is_laid_slot : Site → Option ℕ → Bool
is_laid_slot g None = true
is_laid_slot g (Some k) = nat_lt k (the_frame g).slots

abbrev pub is_laid_step : Site → List ℕ → Effect → Bool
is_laid_step g known (Keep k t) = nat_lt k (the_frame g).slots && is_laid_term g known t
is_laid_step g known (Store i n t) = has_place g (scope_at g n) n && is_laid_term g known t
is_laid_step g known (Call i n a b r) =
    is_among (function_of (scope_at g n)) g.layout.called && (is_laid_slot g a && (is_laid_slot g b && is_laid_slot g r))
is_laid_step g known (Show o t) = is_laid_term g known t
is_laid_step g known (Branch t) = is_laid_term g known t
is_laid_step g known _ = false

abbrev pub are_laid_steps : Site → List ℕ → List Effect → Bool
are_laid_steps g known [] = true
are_laid_steps g known (x ∷ xs) = is_laid_step g known x && are_laid_steps g (known_behind known x) xs

-- the lines from number l on, as the code goes through them
abbrev pub are_laid_lines : Site → List ℕ → Bool → ℕ → List (List Effect) → Bool
are_laid_lines g known through l [] = true
are_laid_lines g known through l ([] ∷ xs) = are_laid_lines g known through (l + 1) xs
are_laid_lines g known through l ((x ∷ more) ∷ xs) =
    if through && is_entry (the_routine g) l then true
    else are_laid_steps g known (x ∷ more) && (if branches (x ∷ more) then true else are_laid_lines g (known_through known (x ∷ more)) true (l + 1) xs)

-- ---- Names that are surely set

abbrev pub are_among : List ℕ → List ℕ → Bool
are_among [] ys = true
are_among (x ∷ xs) ys = is_among x ys && are_among xs ys

-- what is known where the lines gone through from number l on end
abbrev pub known_at_end : Site → List ℕ → Bool → ℕ → List (List Effect) → List ℕ
known_at_end g known through l [] = known
known_at_end g known through l ([] ∷ xs) = known_at_end g known through (l + 1) xs
known_at_end g known through l ((x ∷ more) ∷ xs) =
    if through && is_entry (the_routine g) l then known
    else (if branches (x ∷ more) then known_through known (x ∷ more) else known_at_end g (known_through known (x ∷ more)) true (l + 1) xs)

-- ---- Functions

abbrev pub is_laid_name : Site → Option ℕ → Bool
is_laid_name g None = true
is_laid_name g (Some n) = is_among n (the_frame g).names

abbrev pub is_laid_result : Site → Option ℕ → Bool
is_laid_result g None = true
is_laid_result g (Some n) = is_among n (the_frame g).names && (is_among n (the_frame g).sure || is_among n (the_frame g).unsure)

-- the segments that begin at entries, among the lines from number l on
abbrev pub are_laid_arms : Site → ℕ → List (List Effect) → Bool
are_laid_arms g l [] = true
are_laid_arms g l (x ∷ xs) = (if is_entry (the_routine g) l then are_laid_lines g (the_frame g).sure false l (x ∷ xs) else true) && are_laid_arms g (l + 1) xs

-- a function that is written; it has no more flags than local names
abbrev pub is_laid_site : Site → Bool
is_laid_site g =
    nat_le (length (the_frame g).unsure) (header_count (the_routine g).header) &&
    (are_laid_lines g (first_known g) false 1 (the_routine g).steps
    && (are_laid_arms g 1 (the_routine g).steps
    && (are_among (first_known g) (the_frame g).sure
    && (are_among (the_frame g).sure (known_at_end g (first_known g) false 1 (the_routine g).steps)
    && (is_laid_name g (the_routine g).header.left && (is_laid_name g (the_routine g).header.right && is_laid_result g (the_routine g).header.result))))))

-- ---- Programs

abbrev pub are_laid_sites : Layout → PlainCore → List ℕ → Bool
are_laid_sites y p [] = true
are_laid_sites y p (j ∷ js) = is_laid_site (site_at y p false j) && are_laid_sites y p js

-- calls lead to lower numbers, so that they nest no deeper than these
abbrev pub step_falls : (ℕ → ℕ) → ℕ → CoreRoutine → Effect → Bool
step_falls rank j f (Call i n a b r) = nat_lt (rank (function_of (f.header.scope n))) (rank j)
step_falls rank j f _ = true

abbrev pub steps_fall : (ℕ → ℕ) → ℕ → CoreRoutine → List Effect → Bool
steps_fall rank j f [] = true
steps_fall rank j f (x ∷ xs) = step_falls rank j f x && steps_fall rank j f xs

abbrev pub lines_fall : (ℕ → ℕ) → ℕ → CoreRoutine → List (List Effect) → Bool
lines_fall rank j f [] = true
lines_fall rank j f (x ∷ xs) = steps_fall rank j f x && lines_fall rank j f xs

-- no function is called from within itself: each has a number that its calls lead down from
pub record IsShallow (p : PlainCore) : Type 0 where
  pub rank : ℕ → ℕ
  pub low : (j : ℕ) → rank j < 4096
  pub falls : (j : ℕ) (f : CoreRoutine) → slice_get p.routines j ≡ Some f → lines_fall rank j f f.steps ≡ true

abbrev pub is_counted : List ℕ → Bool → Bool
is_counted [] counted = if counted then false else true
is_counted (j ∷ js) counted = true

-- the layout serves the program
pub record IsLaid (y : Layout) (p : PlainCore) : Type 0 where
  pub begins : is_laid_site (site_at y p true (unwrap_or p.start 0)) ≡ true
  pub calls : are_laid_sites y p y.called ≡ true
  -- without calls nothing is counted
  pub counts : is_counted y.called y.counted ≡ true
  pub shallow : y.counted ≡ false → IsShallow p

-- there are no more variables and functions than a text may have
pub record HasCounts (y : Layout) : Type 0 where
  pub globals : global_ints y < 2 ^ 32
  pub called : length y.called < 2 ^ 31
  pub frames : (j : ℕ) → length (frame_of y j).names + length (frame_of y j).unsure + (frame_of y j).slots < 2 ^ 31
