-- Which nodes are held: those whose whole value is in memory before a node above them is computed.
use Rattle.std.specs.Prelude.{ℕ, List, [], ◌∷◌, ◌++◌, Option, Some, None, Bool, false, ◌&&◌, nat_lt, slice_get, unwrap_or}
use Rattle.aplc_names.specs.States.{is_among}
use Rattle.aplc_infer.specs.declared.facts.Fact.{Fact}
use Rattle.aplc_infer.specs.Shown.{fact_at}
use Rattle.aplc_core.specs.PlainSteps.{Term, Literal, Read, Slot, Mono, Dyad, Index, Terms, no_more, left_out, and_term, Effect, Keep, Store, StoreAt, Call, ReadText, ReadNums, Show, Branch, id_of}
use Rattle.aplc_core.specs.CorePrograms.{Core, program_steps}

-- ---- Nodes that are computed

-- the nodes of a tree that have arguments
abbrev mutual
  pub inner : Term → List ℕ
  inner (Mono i f b) = i ∷ inner b
  inner (Dyad i f a b) = i ∷ (inner a ++ inner b)
  inner (Index i a xs) = i ∷ (inner a ++ list_inner xs)
  inner (Literal i k zs) = []
  inner (Read i n) = []
  inner (Slot i k) = []

  pub list_inner : Terms → List ℕ
  list_inner no_more = []
  list_inner (left_out xs) = list_inner xs
  list_inner (and_term t xs) = inner t ++ list_inner xs

-- those of a step, and the node that it keeps
abbrev pub step_inner : Effect → List ℕ
step_inner (Keep k t) = id_of t ∷ inner t
step_inner (Store i n t) = inner t
step_inner (StoreAt i n xs t) = list_inner xs ++ inner t
step_inner (Call i n a b r) = []
step_inner (ReadText i k) = []
step_inner (ReadNums i k) = []
step_inner (Show i t) = inner t
step_inner (Branch t) = inner t

-- those of each item, one after another
abbrev pub each_of : {A : Type 0} → (A → List ℕ) → List A → List ℕ
each_of f [] = []
each_of f (x ∷ xs) = f x ++ each_of f xs

abbrev pub line_inner : List Effect → List ℕ
line_inner xs = each_of step_inner xs

abbrev pub function_inner : List (List Effect) → List ℕ
function_inner xs = each_of line_inner xs

abbrev pub program_inner : List (List (List Effect)) → List ℕ
program_inner xs = each_of function_inner xs

-- ---- Held and swept

abbrev pub is_ranked : Option ℕ → Bool
is_ranked None = false
is_ranked (Some r) = nat_lt 0 r

-- a value of rank 1 or more
abbrev pub has_axes : Option Fact → Bool
has_axes None = false
has_axes (Some f) = is_ranked f.rank

-- node n is held
abbrev pub is_held : Core → ℕ → Bool
is_held c n = is_among n (program_inner (program_steps c.program)) && has_axes (fact_at c.facts n)

-- all elements of node n are computed at its eager place and dropped: no node yet
abbrev pub is_swept : Core → ℕ → Bool
is_swept c n = false

-- ---- Plans

-- what a plan says of node n, by its table
abbrev pub held_in : List Bool → ℕ → Bool
held_in xs n = unwrap_or (slice_get xs n) false

abbrev pub swept_in : List Bool → ℕ → Bool
swept_in xs n = false
