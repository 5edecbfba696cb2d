-- Steps and their trees as plain data, for definitions by cases and proofs by induction.
use Rattle.std.specs.Prelude.{ℕ, ℤ, List, [], ◌∷◌, Option, Some, None, option_map}
use Rattle.aplc_scalar.specs.declared.kind.Kind.{Kind}
use Rattle.aplc_syntax.specs.declared.tree.Primitive.{Primitive}
use Rattle.aplc_core.specs.declared.step.SlotId.{SlotId}
use Rattle.aplc_core.specs.declared.step.Tree.{Tree, fold-Tree}
use Rattle.aplc_core.specs.declared.step.Tree.TheOpen as o
use Rattle.aplc_core.specs.declared.step.Tree.TheOpen.{Tree-F}
use Rattle.aplc_core.specs.declared.step.Step.{Step}
use Rattle.aplc_core.specs.declared.step.Step.TheVariants as v

-- a tree without effects; each node has its number i
mutual
  pub data Term : Type 0 where
    Literal : (i : ℕ) → Kind → List ℤ → Term
    -- a name by its number n, here and below
    Read : (i n : ℕ) → Term
    -- a slot by its number k, here and below
    Slot : (i k : ℕ) → Term
    Mono : (i : ℕ) → Primitive → Term → Term
    Dyad : (i : ℕ) → Primitive → Term → Term → Term
    Index : (i : ℕ) → Term → Terms → Term

  -- the places of an index list in order, some left out
  pub data Terms : Type 0 where
    no_more : Terms
    left_out : Terms → Terms
    and_term : Term → Terms → Terms

-- a step, with the number i of the node that it carries out
pub data Effect : Type 0 where
  Keep : (k : ℕ) → Term → Effect
  Store : (i n : ℕ) → Term → Effect
  StoreAt : (i n : ℕ) → Terms → Term → Effect
  -- with the slots of the left argument, of the right one and of the result
  Call : (i n : ℕ) → Option ℕ → Option ℕ → Option ℕ → Effect
  ReadText : (i k : ℕ) → Effect
  ReadNums : (i k : ℕ) → Effect
  Show : Option ℕ → Term → Effect
  Branch : Term → Effect

-- ---- Of a tree, of a step

abbrev pub terms_of : List (Option Term) → Terms
terms_of [] = no_more
terms_of (None ∷ xs) = left_out (terms_of xs)
terms_of (Some t ∷ xs) = and_term t (terms_of xs)

abbrev pub tree_term : Tree-F Term → Term
tree_term (o.Literal i k zs) = Literal i.0 k zs
tree_term (o.Read i n) = Read i.0 n.0
tree_term (o.Slot i k) = Slot i.0 k.0
tree_term (o.Mono i f b) = Mono i.0 f b
tree_term (o.Dyad i f a b) = Dyad i.0 f a b
tree_term (o.Index i a xs) = Index i.0 a (terms_of xs)

-- a tree as plain data
abbrev pub term_of : Tree → Term
term_of t = fold-Tree Term tree_term t

-- an index list as plain data
abbrev pub terms_in : List (Option Tree) → Terms
terms_in [] = no_more
terms_in (None ∷ xs) = left_out (terms_in xs)
terms_in (Some t ∷ xs) = and_term (term_of t) (terms_in xs)

abbrev pub slot_number : SlotId → ℕ
slot_number k = k.0

-- a step as plain data
abbrev pub effect_of : Step → Effect
effect_of (v.Keep k t) = Keep k.0 (term_of t)
effect_of (v.Store i n t) = Store i.0 n.0 (term_of t)
effect_of (v.StoreAt i n xs t) = StoreAt i.0 n.0 (terms_in xs) (term_of t)
effect_of (v.Call i n a b r) = Call i.0 n.0 (option_map slot_number a) (option_map slot_number b) (option_map slot_number r)
effect_of (v.Text i k) = ReadText i.0 k.0
effect_of (v.Nums i k) = ReadNums i.0 k.0
effect_of (v.Show None t) = Show None (term_of t)
effect_of (v.Show (Some i) t) = Show (Some i.0) (term_of t)
effect_of (v.Branch t) = Branch (term_of t)

-- ---- Numbers

-- the number of a tree's node
abbrev pub id_of : Term → ℕ
id_of (Literal i k zs) = i
id_of (Read i n) = i
id_of (Slot i k) = i
id_of (Mono i f b) = i
id_of (Dyad i f a b) = i
id_of (Index i a xs) = i
