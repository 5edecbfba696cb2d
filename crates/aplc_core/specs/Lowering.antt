-- Statements cut at their effects: an effect becomes a step, and what waits for its value is kept in a slot before it.
use Rattle.std.specs.Prelude.{ℕ, ◌+◌, List, [], ◌∷◌, ◌++◌, map, pos, Option, Some, None}
use Rattle.aplc_scalar.specs.declared.kind.Kind.TheVariants.{Num, Char}
use Rattle.aplc_syntax.specs.declared.tree.Primitive.{Primitive}
use Rattle.aplc_syntax.specs.PlainTrees.{Tree, Trees, Argument, absent, given}
use Rattle.aplc_syntax.specs.PlainTrees as t
use Rattle.aplc_names.specs.PlainPrograms.{Action, nothing, quiet, perform, display, branch, Routine, PlainProgram}
use Rattle.aplc_core.specs.PlainSteps.{Term, Literal, Read, Slot, Mono, Dyad, Index, Terms, no_more, left_out, and_term, Effect, Keep, Store, StoreAt, Call, ReadText, ReadNums, Show, Branch, id_of}
use Rattle.aplc_core.specs.CoreRuns.{CoreRoutine, PlainCore}

-- ---- What a tree comes to

-- steps, then a tree without effects that has the value; slots from `next` on are free
pub record Cut : Type 0 where
  pub steps : List Effect
  pub term : Term
  pub next : ℕ

pub record CutList : Type 0 where
  pub steps : List Effect
  pub terms : Terms
  pub next : ℕ

-- steps, behind which slot `slot` has the value of node `node`
pub record Kept : Type 0 where
  pub steps : List Effect
  pub node : ℕ
  pub slot : ℕ
  pub next : ℕ

-- an argument of a call, that is there or not
pub record CutArgument : Type 0 where
  pub steps : List Effect
  pub slot : Option ℕ
  pub next : ℕ

-- ---- Keeping

-- what stands in a slot needs no other
abbrev pub kept_term : List Effect → Term → ℕ → Kept
kept_term xs (Slot i k) n = record { steps = xs; node = i; slot = k; next = n }
kept_term xs t n = record { steps = xs ++ Keep n t ∷ []; node = id_of t; slot = n; next = n + 1 }

abbrev pub kept : Cut → Kept
kept x = kept_term x.steps x.term x.next

abbrev pub from_slot : Kept → Cut
from_slot x = record { steps = x.steps; term = Slot x.node x.slot; next = x.next }

abbrev pub and_kept : Kept → Terms → CutList
and_kept x xs = record { steps = x.steps; terms = and_term (Slot x.node x.slot) xs; next = x.next }

abbrev pub and_left_out : CutList → CutList
and_left_out xs = record xs { terms = left_out xs.terms }

-- each place of an index list in a slot, from the last to the first
abbrev pub kept_terms : List Effect → Terms → ℕ → CutList
kept_terms xs no_more n = record { steps = xs; terms = no_more; next = n }
kept_terms xs (left_out ts) n = and_left_out (kept_terms xs ts n)
kept_terms xs (and_term t ts) n =
    (λ (ys : CutList). and_kept (kept_term ys.steps t ys.next) ys.terms) (kept_terms xs ts n)

abbrev pub kept_all : CutList → CutList
kept_all xs = kept_terms xs.steps xs.terms xs.next

-- ---- One after another

-- the first waits for these steps
abbrev pub before : Cut → List Effect → Cut
before x [] = x
before x (y ∷ ys) = from_slot (kept x)

abbrev pub all_before : CutList → List Effect → CutList
all_before xs [] = xs
all_before xs (y ∷ ys) = kept_all xs

abbrev pub dyad_of : ℕ → Primitive → Cut → Cut → Cut
dyad_of i f y x = record { steps = y.steps ++ x.steps; term = Dyad i f x.term y.term; next = x.next }

abbrev pub index_of : ℕ → CutList → Cut → Cut
index_of i js x = record { steps = js.steps ++ x.steps; term = Index i x.term js.terms; next = x.next }

abbrev pub list_of : CutList → Cut → CutList
list_of js x = record { steps = js.steps ++ x.steps; terms = and_term x.term js.terms; next = x.next }

-- what comes second is cut with the slots that the first leaves free
abbrev pub then_cut : {A : Type 0} → (Cut → Cut → A) → (ℕ → Cut) → Cut → A
then_cut whole more y = whole y (more y.next)

abbrev pub list_then_cut : {A : Type 0} → (CutList → Cut → A) → (ℕ → Cut) → CutList → A
list_then_cut whole more js = whole js (more js.next)

abbrev pub cut_dyad : ℕ → Primitive → Cut → (ℕ → Cut) → Cut
cut_dyad i f y more = then_cut (dyad_of i f) more (before y (more y.next).steps)

abbrev pub cut_index : ℕ → CutList → (ℕ → Cut) → Cut
cut_index i js more = list_then_cut (index_of i) more (all_before js (more js.next).steps)

abbrev pub cut_more : CutList → (ℕ → Cut) → CutList
cut_more js more = list_then_cut list_of more (all_before js (more js.next).steps)

abbrev pub cut_mono : ℕ → Primitive → Cut → Cut
cut_mono i f y = record y { term = Mono i f y.term }

-- ---- Effects

abbrev pub cut_assign : ℕ → ℕ → Cut → Cut
cut_assign i n x = record x { steps = x.steps ++ Store i n x.term ∷ []; term = Read i n }

abbrev pub cut_show : ℕ → Kept → Cut
cut_show i x = record { steps = x.steps ++ Show (Some i) (Slot x.node x.slot) ∷ []; term = Slot i x.slot; next = x.next }

abbrev pub assign_at_of : ℕ → ℕ → Kept → CutList → Cut
assign_at_of i n x js = record { steps = x.steps ++ js.steps ++ StoreAt i n js.terms (Slot x.node x.slot) ∷ []; term = Slot i x.slot; next = js.next }

abbrev pub cut_assign_at : ℕ → ℕ → Kept → (ℕ → CutList) → Cut
cut_assign_at i n x more = assign_at_of i n x (more x.next)

abbrev pub argument_kept : Kept → CutArgument
argument_kept x = record { steps = x.steps; slot = Some x.slot; next = x.next }

-- the steps of a call whose result goes into this slot
abbrev pub call_steps : ℕ → ℕ → CutArgument → CutArgument → Option ℕ → List Effect
call_steps i n y x r = y.steps ++ x.steps ++ Call i n x.slot y.slot r ∷ []

abbrev pub call_of : ℕ → ℕ → CutArgument → CutArgument → Cut
call_of i n y x = record { steps = call_steps i n y x (Some x.next); term = Slot i x.next; next = x.next + 1 }

abbrev pub cut_call : ℕ → ℕ → CutArgument → (ℕ → CutArgument) → Cut
cut_call i n y more = call_of i n y (more y.next)

-- ---- Trees

abbrev mutual
  -- with the first free slot
  pub cut : Tree → ℕ → Cut
  cut (t.Numbers i p zs) k = record { steps = []; term = Literal i Num zs; next = k }
  cut (t.Text i p cs) k = record { steps = []; term = Literal i Char (map pos cs); next = k }
  cut (t.Name i p n) k = record { steps = []; term = Read i n; next = k }
  cut (t.TextInput i p) k = record { steps = ReadText i k ∷ []; term = Slot i k; next = k + 1 }
  cut (t.NumsInput i p) k = record { steps = ReadNums i k ∷ []; term = Slot i k; next = k + 1 }
  cut (t.Mono i p f b) k = cut_mono i f (cut b k)
  cut (t.Dyad i p f a b) k = cut_dyad i f (cut b k) (λ n. cut a n)
  cut (t.Index i p a xs) k = cut_index i (cut_list xs k) (λ n. cut a n)
  cut (t.Assign i p n a) k = cut_assign i n (cut a k)
  cut (t.AssignAt i p n xs a) k = cut_assign_at i n (kept (cut a k)) (λ m. cut_list xs m)
  cut (t.Show i p a) k = cut_show i (kept (cut a k))
  cut (t.Call i p n a b) k = cut_call i n (cut_argument b k) (λ m. cut_argument a m)

  pub cut_list : Trees → ℕ → CutList
  cut_list t.no_more k = record { steps = []; terms = no_more; next = k }
  cut_list (t.left_out xs) k = and_left_out (cut_list xs k)
  cut_list (t.and_tree x xs) k = cut_more (cut_list xs k) (λ n. cut x n)

  pub cut_argument : Argument → ℕ → CutArgument
  cut_argument absent k = record { steps = []; slot = None; next = k }
  cut_argument (given x) k = argument_kept (kept (cut x k))

-- ---- Statements

abbrev pub change_steps : ℕ → ℕ → Cut → CutList → List Effect
change_steps i n x js = x.steps ++ js.steps ++ StoreAt i n js.terms x.term ∷ []

abbrev pub changed_by : ℕ → ℕ → (ℕ → CutList) → Cut → List Effect
changed_by i n more x = change_steps i n x (more x.next)

abbrev pub changed_quietly : ℕ → ℕ → Cut → (ℕ → CutList) → List Effect
changed_quietly i n x more = changed_by i n more (before x (more x.next).steps)

-- a value that nothing uses is not kept behind an effect
abbrev pub quiet_steps : Tree → List Effect
quiet_steps (t.Assign i p n a) = (cut_assign i n (cut a 0)).steps
quiet_steps (t.AssignAt i p n xs a) = changed_quietly i n (cut a 0) (cut_list xs)
quiet_steps (t.Show i p a) = (cut a 0).steps ++ Show (Some i) (cut a 0).term ∷ []
quiet_steps x = (kept (cut x 0)).steps

abbrev pub performed : ℕ → ℕ → CutArgument → (ℕ → CutArgument) → List Effect
performed i n y more = call_steps i n y (more y.next) None

abbrev pub lowered : Action → List Effect
lowered nothing = []
lowered (quiet x) = quiet_steps x
lowered (perform i p n a b) = performed i n (cut_argument b 0) (cut_argument a)
lowered (display x) = (cut x 0).steps ++ Show None (cut x 0).term ∷ []
lowered (branch p x) = (cut x 0).steps ++ Branch (cut x 0).term ∷ []

abbrev pub lowered_routine : Routine → CoreRoutine
lowered_routine f = record { header = f; steps = map lowered f.lines }

abbrev pub lowered_program : PlainProgram → PlainCore
lowered_program p = record { origin = p.origin; routines = map lowered_routine p.routines; start = p.start }
