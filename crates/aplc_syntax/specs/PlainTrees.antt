-- The tree of a node as plain data, for definitions by cases and proofs by induction.
use Rattle.std.specs.Prelude.{ℕ, ℤ, List, [], ◌∷◌, ◌++◌, Option, Some, None}
use Rattle.aplc_syntax.specs.declared.tree.Primitive.{Primitive}
use Rattle.aplc_syntax.specs.declared.tree.Form.TheOpen as o
use Rattle.aplc_syntax.specs.declared.tree.Form.TheOpen.{Form-F}
use Rattle.aplc_syntax.specs.declared.tree.Form.{Form, fold-Form}
use Rattle.aplc_syntax.specs.declared.tree.Node.{Node, Node-F, fold-Node}

-- a node has its number i, its place p in bytes from the file's first, and what it is
mutual
  pub data Tree : Type 0 where
    Numbers : (i p : ℕ) → List ℤ → Tree
    Text : (i p : ℕ) → List ℕ → Tree
    -- a name by its number n, here and below
    Name : (i p n : ℕ) → Tree
    TextInput : (i p : ℕ) → Tree
    NumsInput : (i p : ℕ) → Tree
    Mono : (i p : ℕ) → Primitive → Tree → Tree
    Dyad : (i p : ℕ) → Primitive → Tree → Tree → Tree
    Index : (i p : ℕ) → Tree → Trees → Tree
    Assign : (i p n : ℕ) → Tree → Tree
    AssignAt : (i p n : ℕ) → Trees → Tree → Tree
    Show : (i p : ℕ) → Tree → Tree
    -- a call with its left argument and its right one
    Call : (i p n : ℕ) → Argument → Argument → Tree

  -- the places of an index list in order, some left out
  pub data Trees : Type 0 where
    no_more : Trees
    left_out : Trees → Trees
    and_tree : Tree → Trees → Trees

  pub data Argument : Type 0 where
    absent : Argument
    given : Tree → Argument

-- ---- Of a node

abbrev pub trees_of : List (Option Tree) → Trees
trees_of [] = no_more
trees_of (None ∷ xs) = left_out (trees_of xs)
trees_of (Some t ∷ xs) = and_tree t (trees_of xs)

abbrev pub argument_of : Option Tree → Argument
argument_of None = absent
argument_of (Some t) = given t

abbrev pub form_tree : Form-F (ℕ → ℕ → Tree) Tree → ℕ → ℕ → Tree
form_tree (o.Numbers xs) i p = Numbers i p xs
form_tree (o.Text cs) i p = Text i p cs
form_tree (o.Name n) i p = Name i p n.0
form_tree o.TextInput i p = TextInput i p
form_tree o.NumsInput i p = NumsInput i p
form_tree (o.Mono f a) i p = Mono i p f a
form_tree (o.Dyad f a b) i p = Dyad i p f a b
form_tree (o.Index a xs) i p = Index i p a (trees_of xs)
form_tree (o.Assign n a) i p = Assign i p n.0 a
form_tree (o.AssignAt n xs a) i p = AssignAt i p n.0 (trees_of xs) a
form_tree (o.Show a) i p = Show i p a
form_tree (o.Call n a b) i p = Call i p n.0 (argument_of a) (argument_of b)

abbrev pub node_tree : Node-F (ℕ → ℕ → Tree) Tree → Tree
node_tree n = n.form n.id.0 n.place

-- a node as plain data
abbrev pub tree_of : Node → Tree
tree_of n = fold-Node (ℕ → ℕ → Tree) Tree form_tree node_tree n

-- a form as plain data, where its node has number i and place p
abbrev pub tree_in : Form → ℕ → ℕ → Tree
tree_in x i p = fold-Form (ℕ → ℕ → Tree) Tree form_tree node_tree x i p

-- an index list as plain data
abbrev pub trees_in : List (Option Node) → Trees
trees_in [] = no_more
trees_in (None ∷ xs) = left_out (trees_in xs)
trees_in (Some n ∷ xs) = and_tree (tree_of n) (trees_in xs)

-- an argument of a call as plain data
abbrev pub argument_in : Option Node → Argument
argument_in None = absent
argument_in (Some n) = given (tree_of n)

-- ---- Numbers and places

-- the number of a tree's node
abbrev pub id_of : Tree → ℕ
id_of (Numbers i p xs) = i
id_of (Text i p cs) = i
id_of (Name i p n) = i
id_of (TextInput i p) = i
id_of (NumsInput i p) = i
id_of (Mono i p f a) = i
id_of (Dyad i p f a b) = i
id_of (Index i p a xs) = i
id_of (Assign i p n a) = i
id_of (AssignAt i p n xs a) = i
id_of (Show i p a) = i
id_of (Call i p n a b) = i

-- the place of a tree's node
abbrev pub place_of : Tree → ℕ
place_of (Numbers i p xs) = p
place_of (Text i p cs) = p
place_of (Name i p n) = p
place_of (TextInput i p) = p
place_of (NumsInput i p) = p
place_of (Mono i p f a) = p
place_of (Dyad i p f a b) = p
place_of (Index i p a xs) = p
place_of (Assign i p n a) = p
place_of (AssignAt i p n xs a) = p
place_of (Show i p a) = p
place_of (Call i p n a b) = p

-- the numbers of a tree's node and of all nodes in it
abbrev mutual
  pub ids : Tree → List ℕ
  ids (Mono i p f a) = i ∷ ids a
  ids (Dyad i p f a b) = i ∷ (ids a ++ ids b)
  ids (Index i p a xs) = i ∷ (ids a ++ trees_ids xs)
  ids (Assign i p n a) = i ∷ ids a
  ids (AssignAt i p n xs a) = i ∷ (trees_ids xs ++ ids a)
  ids (Show i p a) = i ∷ ids a
  ids (Call i p n a b) = i ∷ (argument_ids a ++ argument_ids b)
  ids (Numbers i p xs) = i ∷ []
  ids (Text i p cs) = i ∷ []
  ids (Name i p n) = i ∷ []
  ids (TextInput i p) = i ∷ []
  ids (NumsInput i p) = i ∷ []

  pub trees_ids : Trees → List ℕ
  trees_ids no_more = []
  trees_ids (left_out xs) = trees_ids xs
  trees_ids (and_tree t xs) = ids t ++ trees_ids xs

  pub argument_ids : Argument → List ℕ
  argument_ids absent = []
  argument_ids (given t) = ids t
