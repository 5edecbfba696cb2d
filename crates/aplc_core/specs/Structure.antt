-- What the steps of a line say of its statement: each node under its own number, in eager order and with its own arguments.
use Rattle.std.specs.Prelude.{◌≡◌, ℕ, List, [], ◌∷◌, ◌++◌, map, pos, Option, Some, None, nat_eq, if◌then◌else◌}
use Rattle.aplc_scalar.specs.declared.kind.Kind.TheVariants.{Num, Char}
use Rattle.aplc_syntax.specs.declared.tree.Primitive.{Primitive}
use Rattle.aplc_syntax.specs.PlainTrees.{Tree, Trees, Argument, absent, given, id_of}
use Rattle.aplc_syntax.specs.PlainTrees as t
use Rattle.aplc_names.specs.PlainPrograms.{Action, nothing, quiet, perform, display, branch}
use Rattle.aplc_core.specs.PlainSteps.{Term, Literal, Read, Slot, Mono, Dyad, Index, Terms, no_more, left_out, and_term, Effect, Keep, Store, StoreAt, Call, ReadText, ReadNums, Show, Branch}

-- ---- Eager order

-- the numbers of nodes in the order in which they are evaluated: arguments from right to left, then the node itself
abbrev mutual
  pub in_order : Tree → List ℕ
  in_order (t.Mono i p f a) = in_order a ++ i ∷ []
  in_order (t.Dyad i p f a b) = in_order b ++ in_order a ++ i ∷ []
  in_order (t.Index i p a xs) = list_in_order xs ++ in_order a ++ i ∷ []
  in_order (t.Assign i p n a) = in_order a ++ i ∷ []
  in_order (t.AssignAt i p n xs a) = in_order a ++ list_in_order xs ++ i ∷ []
  in_order (t.Show i p a) = in_order a ++ i ∷ []
  in_order (t.Call i p n a b) = argument_in_order b ++ argument_in_order a ++ i ∷ []
  in_order (t.Numbers i p zs) = i ∷ []
  in_order (t.Text i p cs) = i ∷ []
  in_order (t.Name i p n) = i ∷ []
  in_order (t.TextInput i p) = i ∷ []
  in_order (t.NumsInput i p) = i ∷ []

  pub list_in_order : Trees → List ℕ
  list_in_order t.no_more = []
  list_in_order (t.left_out xs) = list_in_order xs
  list_in_order (t.and_tree x xs) = list_in_order xs ++ in_order x

  pub argument_in_order : Argument → List ℕ
  argument_in_order absent = []
  argument_in_order (given x) = in_order x

abbrev pub order_of : Action → List ℕ
order_of nothing = []
order_of (quiet x) = in_order x
order_of (perform i p n a b) = argument_in_order b ++ argument_in_order a ++ i ∷ []
order_of (display x) = in_order x
order_of (branch p x) = in_order x

-- ---- Trees of steps

-- what steps have done
pub record Done : Type 0 where
  -- the node whose value is in each slot
  pub slots : ℕ → Option Tree
  -- the nodes that steps carried out or kept, the last one first
  pub nodes : List Tree

abbrev pub nothing_done : Done
nothing_done = record { slots = λ k. None; nodes = [] }

pub data IsAmong (x : Tree) : List Tree → Type 0 where
  first : {xs : List Tree} → IsAmong x (x ∷ xs)
  behind : {y : Tree} {xs : List Tree} → IsAmong x xs → IsAmong x (y ∷ xs)

-- A tree of a step is this node of the statement, and these nodes are evaluated with it, in this order. An assignment that
-- was carried out stands as a read of its name under its own number; what is in a slot stands as that slot under its own.
mutual
  pub data Means (d : Done) : Term → Tree → List ℕ → Type 0 where
    means_numbers : {i p : ℕ} {zs : _} → Means d (Literal i Num zs) (t.Numbers i p zs) (i ∷ [])
    means_text : {i p : ℕ} {cs : List ℕ} → Means d (Literal i Char (map pos cs)) (t.Text i p cs) (i ∷ [])
    means_name : {i p n : ℕ} → Means d (Read i n) (t.Name i p n) (i ∷ [])
    means_assigned : {i p n : ℕ} {a : Tree} → IsAmong (t.Assign i p n a) d.nodes → Means d (Read i n) (t.Assign i p n a) []
    means_slot : {k : ℕ} {x : Tree} → d.slots k ≡ Some x → Means d (Slot (id_of x) k) x []
    means_mono : {i p : ℕ} {f : Primitive} {b : Term} {y : Tree} {js : List ℕ}
        → Means d b y js → Means d (Mono i f b) (t.Mono i p f y) (js ++ i ∷ [])
    means_dyad : {i p : ℕ} {f : Primitive} {a b : Term} {x y : Tree} {js ks : List ℕ}
        → Means d b y js → Means d a x ks → Means d (Dyad i f a b) (t.Dyad i p f x y) (js ++ ks ++ i ∷ [])
    means_index : {i p : ℕ} {a : Term} {bs : Terms} {x : Tree} {ys : Trees} {js ks : List ℕ}
        → MeansList d bs ys js → Means d a x ks → Means d (Index i a bs) (t.Index i p x ys) (js ++ ks ++ i ∷ [])

  pub data MeansList (d : Done) : Terms → Trees → List ℕ → Type 0 where
    means_no_more : MeansList d no_more t.no_more []
    means_left_out : {bs : Terms} {ys : Trees} {js : List ℕ} → MeansList d bs ys js → MeansList d (left_out bs) (t.left_out ys) js
    means_and : {b : Term} {bs : Terms} {y : Tree} {ys : Trees} {js ks : List ℕ}
        → MeansList d bs ys js → Means d b y ks → MeansList d (and_term b bs) (t.and_tree y ys) (js ++ ks)

-- the slot of an argument has its value
pub data IsIn (d : Done) : Option ℕ → Argument → Type 0 where
  is_absent : IsIn d None absent
  is_given : {k : ℕ} {x : Tree} → d.slots k ≡ Some x → IsIn d (Some k) (given x)

-- ---- Steps

-- the slot has the value of the node from now on
abbrev pub set_in : Option ℕ → Tree → Done → Done
set_in None x d = d
set_in (Some k) x d = record d { slots = λ j. if nat_eq k j then Some x else d.slots j }

-- the node was carried out, and its value is in the slot, if there is one
abbrev pub did : Option ℕ → Tree → Done → Done
did k x d = record (set_in k x d) { nodes = x ∷ d.nodes }

-- the slot in which a step finds its value
abbrev pub slot_of : Term → Option ℕ
slot_of (Slot i k) = Some k
slot_of _ = None

-- A step carries out one node: what was done, the step, the nodes evaluated by it, what is done then.
pub data Does (d : Done) : Effect → List ℕ → Done → Type 0 where
  keeps : {k : ℕ} {b : Term} {x : Tree} {js : List ℕ} → Means d b x js → Does d (Keep k b) js (did (Some k) x d)
  stores : {i p n : ℕ} {b : Term} {x : Tree} {js : List ℕ}
      → Means d b x js → Does d (Store i n b) (js ++ i ∷ []) (did None (t.Assign i p n x) d)
  -- the value of an indexed assignment or of a display stays in the slot of what is assigned or displayed
  stores_at : {i p n : ℕ} {b : Term} {bs : Terms} {x : Tree} {ys : Trees} {js ks : List ℕ}
      → Means d b x js → MeansList d bs ys ks → Does d (StoreAt i n bs b) (js ++ ks ++ i ∷ []) (did (slot_of b) (t.AssignAt i p n ys x) d)
  shows : {i p : ℕ} {b : Term} {x : Tree} {js : List ℕ}
      → Means d b x js → Does d (Show (Some i) b) (js ++ i ∷ []) (did (slot_of b) (t.Show i p x) d)
  calls : {i p n : ℕ} {a b r : Option ℕ} {x y : Argument}
      → IsIn d b y → IsIn d a x → Does d (Call i n a b r) (i ∷ []) (did r (t.Call i p n x y) d)
  reads_text : {i p k : ℕ} → Does d (ReadText i k) (i ∷ []) (did (Some k) (t.TextInput i p) d)
  reads_nums : {i p k : ℕ} → Does d (ReadNums i k) (i ∷ []) (did (Some k) (t.NumsInput i p) d)

-- steps in a row
pub data DoesAll : Done → List Effect → List ℕ → Done → Type 0 where
  no_steps : {d : Done} → DoesAll d [] [] d
  and_steps : {x : Effect} {xs : List Effect} {js ks : List ℕ} {d e h : Done} → Does d x js e → DoesAll e xs ks h → DoesAll d (x ∷ xs) (js ++ ks) h

-- ---- Statements

-- The steps of a line are this statement, its nodes in this order. The last step of a statement whose value is not used
-- carries out its node.
pub data Says : List Effect → Action → List ℕ → Type 0 where
  says_nothing : Says [] nothing []
  says_quiet : {xs : List Effect} {x : Tree} {js : List ℕ} {d : Done} {rest : List Tree}
      → DoesAll nothing_done xs js d → d.nodes ≡ x ∷ rest → Says xs (quiet x) js
  says_perform : {xs : List Effect} {i p n : ℕ} {a b : Option ℕ} {x y : Argument} {js : List ℕ} {d : Done}
      → DoesAll nothing_done xs js d → IsIn d b y → IsIn d a x → Says (xs ++ Call i n a b None ∷ []) (perform i p n x y) (js ++ i ∷ [])
  says_display : {xs : List Effect} {b : Term} {x : Tree} {js ks : List ℕ} {d : Done}
      → DoesAll nothing_done xs js d → Means d b x ks → Says (xs ++ Show None b ∷ []) (display x) (js ++ ks)
  says_branch : {p : ℕ} {xs : List Effect} {b : Term} {x : Tree} {js ks : List ℕ} {d : Done}
      → DoesAll nothing_done xs js d → Means d b x ks → Says (xs ++ Branch b ∷ []) (branch p x) (js ++ ks)
