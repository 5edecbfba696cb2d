-- What the steps have of a program of scalars of which all is built: the code relies on this, and on nothing else.
use Rattle.std.specs.Prelude.{ℕ, ◌+◌, List, [], ◌∷◌, length, Option, Some, None, is_some, Bool, true, false, ◌&&◌, nat_eq, nat_le, slice_get, if◌then◌else◌, option_and_then}
use Rattle.aplc_scalar.specs.Scalar.{in_range}
use Rattle.aplc_cprof.specs.WellFormed.{is_name as is_text_name}
use Rattle.aplc_names.specs.declared.scope.Scope.{Scope}
use Rattle.aplc_names.specs.declared.scope.Scope.TheVariants as scope
use Rattle.aplc_names.specs.PlainPrograms.{Routine}
use Rattle.aplc_names.specs.States.{is_among}
use Rattle.aplc_names.specs.Eager.{function_of}
use Rattle.aplc_core.specs.PlainSteps.{Term, Literal, Read, Slot, Mono, Dyad, Index, Effect, Keep, Store, Call, Show, Branch, id_of}
use Rattle.aplc_core.specs.CoreRuns.{Told, told, CoreRoutine, PlainCore}
use Rattle.aplc_gen.specs.Built.{is_number, is_sign, is_checked}

-- ---- What the steps of a line have done so far

pub record Ready : Type 0 where
  -- the node whose value is in a slot
  pub kept : ℕ → Option ℕ
  -- the names that were assigned
  pub stored : List ℕ

abbrev pub nothing_ready : Ready
nothing_ready = record { kept = λ k. None; stored = [] }

abbrev pub keeping : ℕ → ℕ → Ready → Ready
keeping k i r = record r { kept = λ j. if nat_eq j k then Some i else r.kept j }

abbrev pub ready_after : Ready → Effect → Ready
ready_after r (Keep k t) = keeping k (id_of t) r
ready_after r (Store i n t) = record r { stored = n ∷ r.stored }
ready_after r (Call i n a b (Some k)) = keeping k i r
ready_after r _ = r

-- ---- Names

-- a variable
abbrev pub is_variable : Scope → Bool
is_variable scope.Local = true
is_variable scope.Global = true
is_variable _ = false

-- a variable, or a label of a number in range
abbrev pub is_readable : Scope → Bool
is_readable (scope.Label z) = in_range z
is_readable (scope.Function j) = false
is_readable _ = true

-- the value of an assignment is read behind it alone
abbrev pub is_read : Bool → List ℕ → ℕ → Scope → Bool
is_read true stored n x = is_variable x && is_among n stored
is_read false stored n x = is_readable x

-- ---- Trees

abbrev pub is_node : Option ℕ → ℕ → Bool
is_node None i = false
is_node (Some j) i = nat_eq j i

-- all in a tree is built, and each value that it waits for is there
abbrev pub is_term : (ℕ → Scope) → Told → Ready → Term → Bool
is_term sc l r (Literal i k zs) = is_number k zs
is_term sc l r (Read i n) = is_read (is_among i l.assigned) r.stored n (sc n)
is_term sc l r (Slot i k) = is_node (r.kept k) i
is_term sc l r (Mono i f b) = is_sign f && is_term sc l r b
is_term sc l r (Dyad i f a b) = is_checked f && (is_term sc l r a && is_term sc l r b)
is_term sc l r (Index i a xs) = false

-- ---- Steps

-- something is in the slot of an argument
abbrev pub is_kept : Ready → Option ℕ → Bool
is_kept r None = true
is_kept r (Some k) = is_some (r.kept k)

-- there is the one where there is the other
abbrev pub both_or_none : Option ℕ → Option ℕ → Bool
both_or_none None None = true
both_or_none (Some a) (Some b) = true
both_or_none _ _ = false

-- arguments and result are those of the function's header
abbrev pub suits : Option ℕ → Option ℕ → Option ℕ → Option CoreRoutine → Bool
suits a b r None = false
suits a b r (Some g) = both_or_none a g.header.left && (both_or_none b g.header.right && both_or_none r g.header.result)

abbrev pub is_effect : PlainCore → (ℕ → Scope) → Told → Ready → Effect → Bool
is_effect p sc l r (Keep k t) = is_term sc l r t
is_effect p sc l r (Store i n t) = is_variable (sc n) && is_term sc l r t
is_effect p sc l r (Call i n a b s) = suits a b s (slice_get p.routines (function_of (sc n))) && (is_kept r a && is_kept r b)
is_effect p sc l r (Show None t) = is_term sc l r t
is_effect p sc l r (Branch t) = is_term sc l r t
is_effect p sc l r _ = false

abbrev pub are_effects : PlainCore → (ℕ → Scope) → Told → Ready → List Effect → Bool
are_effects p sc l r [] = true
are_effects p sc l r (x ∷ xs) = is_effect p sc l r x && are_effects p sc l (ready_after r x) xs

-- ---- Costs

-- how many steps the code of a tree takes at most
abbrev pub term_cost : Term → ℕ
term_cost (Read i n) = 1
term_cost (Mono i f b) = 1 + term_cost b
term_cost (Dyad i f a b) = 1 + (term_cost a + term_cost b)
term_cost t = 0

-- that of a step; what a function does that is called is not counted
abbrev pub effect_cost : Effect → ℕ
effect_cost (Keep k t) = 1 + term_cost t
effect_cost (Store i n t) = 2 + term_cost t
effect_cost (Show o t) = 2 + term_cost t
effect_cost (Branch t) = 1 + term_cost t
effect_cost _ = 4

abbrev pub effects_cost : List Effect → ℕ
effects_cost [] = 0
effects_cost (x ∷ xs) = effect_cost x + effects_cost xs

-- ---- Programs

-- a statement has at most 256 nodes, each of which costs at most 5
abbrev pub is_line : PlainCore → (ℕ → Scope) → List Effect → Bool
is_line p sc xs = are_effects p sc (told xs) nothing_ready xs && nat_le (effects_cost xs) 2000

abbrev pub are_lines : PlainCore → (ℕ → Scope) → List (List Effect) → Bool
are_lines p sc [] = true
are_lines p sc (xs ∷ more) = is_line p sc xs && are_lines p sc more

abbrev pub is_own : Scope → Bool
is_own scope.Local = true
is_own _ = false

abbrev pub is_own_name : (ℕ → Scope) → Option ℕ → Bool
is_own_name sc None = true
is_own_name sc (Some n) = is_own (sc n)

-- arguments and result are local variables
abbrev pub has_own_names : Routine → Bool
has_own_names f = is_own_name f.scope f.left && (is_own_name f.scope f.right && is_own_name f.scope f.result)

-- its name is one for `at`, and it has at most 999 lines
abbrev pub is_routine : PlainCore → CoreRoutine → Bool
is_routine p f = is_text_name f.header.title && (has_own_names f.header && (nat_le (length f.steps) 999 && are_lines p f.header.scope f.steps))

abbrev pub are_routines : PlainCore → List CoreRoutine → Bool
are_routines p [] = true
are_routines p (f ∷ fs) = is_routine p f && are_routines p fs

-- it takes and gives nothing
abbrev pub is_bare : Routine → Bool
is_bare f = both_or_none f.left None && (both_or_none f.right None && both_or_none f.result None)

abbrev pub begins : Option CoreRoutine → Bool
begins None = false
begins (Some f) = is_bare f.header

abbrev pub is_sound : PlainCore → Bool
is_sound p = begins (option_and_then (slice_get p.routines) p.start) && are_routines p p.routines
