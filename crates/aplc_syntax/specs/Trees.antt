-- The tree of a statement: which forms are nodes, and the place of each.
use Rattle.std.specs.Prelude.{ℕ, ◌+◌, List, [], ◌∷◌, ℤ, Option, Some, None}
use Rattle.aplc_scalar.specs.declared.function.ScalarFn.{ScalarFn}
use Rattle.aplc_scalar.specs.declared.function.ScalarFn.TheVariants as f
use Rattle.aplc_syntax.specs.declared.tree.NameId.{NameId}
use Rattle.aplc_syntax.specs.declared.tree.Axis.{Axis}
use Rattle.aplc_syntax.specs.declared.tree.Axis.TheVariants as ax
use Rattle.aplc_syntax.specs.declared.tree.Primitive.{Primitive}
use Rattle.aplc_syntax.specs.declared.tree.Primitive.TheVariants as pr
use Rattle.aplc_syntax.specs.declared.tree.Form.{Form}
use Rattle.aplc_syntax.specs.declared.tree.Form.TheVariants as v
use Rattle.aplc_syntax.specs.declared.tree.Node.{Node}
use Rattle.aplc_syntax.specs.declared.tree.Statement.{Statement}
use Rattle.aplc_syntax.specs.declared.tree.Statement.TheVariants as st
use Rattle.aplc_syntax.specs.declared.word.Stroke.{Stroke}
use Rattle.aplc_syntax.specs.declared.word.Stroke.TheVariants as stroke
use Rattle.aplc_syntax.specs.Words.{text_between}
use Rattle.aplc_syntax.specs.Grammar.{F, arith_fn, compare_fn, X, no_axis, axis, M, arith1, not1, both1, turn1, reduce, call1, D, scalar2, both2, dyadic2, turn2, copies, outer, inner, call2, N, no_number, number, S, numbers, literal, variable, call0, text_input, nums_input, E, operand, before, between, assign, assign_at, show, O, simple, paren, index, L, last_gap, last_entry, gap, entry, Sentence, value, branch, perform0, perform1, perform2}

abbrev pub name_id : ℕ → NameId
name_id n = record { 0 = n }

-- a node has its place as its number
abbrev pub node : ℕ → Form → Node
node p form = record { id = record { 0 = p }; place = p; form = form }

-- ---- Functions

abbrev pub scalar_of : F → ScalarFn
scalar_of (arith_fn g) = g
scalar_of (compare_fn g) = g

-- the axis that is named, or else the function's own
abbrev pub axis_of : Axis → X → Axis
axis_of a no_axis = a
axis_of a (axis pl pn pr n) = ax.At n

abbrev pub reduction : Stroke → ScalarFn → Axis → Primitive
reduction stroke.Slash g a = pr.Reduce g a
reduction stroke.Backslash g a = pr.Scan g a

abbrev pub copying : Stroke → Axis → Primitive
copying stroke.Slash a = pr.Replicate a
copying stroke.Backslash a = pr.Expand a

-- a function and its argument, placed at the function's first word
abbrev pub apply1 : M → Node → Node
apply1 (arith1 p g) b = node p (v.Mono (pr.Scalar g) b)
apply1 (not1 p) b = node p (v.Mono (pr.Scalar f.Not) b)
apply1 (both1 p g) b = node p (v.Mono g b)
apply1 (turn1 p a x) b = node p (v.Mono (pr.Reverse (axis_of a x)) b)
apply1 (reduce p g ps s a x) b = node p (v.Mono (reduction s (scalar_of g) (axis_of a x)) b)
apply1 (call1 p n) b = node p (v.Call (name_id n) None (Some b))

-- a function at its left argument and its right one
abbrev pub apply2 : D → Node → Node → Node
apply2 (scalar2 p g) a b = node p (v.Dyad (pr.Scalar (scalar_of g)) a b)
apply2 (both2 p g) a b = node p (v.Dyad g a b)
apply2 (dyadic2 p g) a b = node p (v.Dyad g a b)
apply2 (turn2 p c x) a b = node p (v.Dyad (pr.Reverse (axis_of c x)) a b)
apply2 (copies p s c x) a b = node p (v.Dyad (copying s (axis_of c x)) a b)
apply2 (outer p pd pf g) a b = node p (v.Dyad (pr.Outer (scalar_of g)) a b)
apply2 (inner p g pd ph h) a b = node p (v.Dyad (pr.Inner (scalar_of g) (scalar_of h)) a b)
apply2 (call2 p n) a b = node p (v.Call (name_id n) (Some a) (Some b))

-- ---- Values

abbrev pub numbers_of : N → List ℤ
numbers_of no_number = []
numbers_of (number p x ns) = x ∷ numbers_of ns

-- the tree of a simple operand of a text
abbrev pub tree_S : List ℕ → S → Node
tree_S text (numbers p x ns) = node p (v.Numbers (x ∷ numbers_of ns))
tree_S text (literal p to) = node p (v.Text (text_between text p to))
tree_S text (variable p n) = node p (v.Name (name_id n))
tree_S text (call0 p n) = node p (v.Call (name_id n) None None)
tree_S text (text_input p) = node p v.TextInput
tree_S text (nums_input p) = node p v.NumsInput

-- parentheses and gaps are no nodes; an indexed value has the place of its bracket, an assignment that of the name
abbrev mutual
  pub tree_E : List ℕ → E → Node
  tree_E text (operand o) = tree_O text o
  tree_E text (before m e) = apply1 m (tree_E text e)
  tree_E text (between o d e) = apply2 d (tree_O text o) (tree_E text e)
  tree_E text (assign r p n pa e) = node p (v.Assign (name_id n) (tree_E text e))
  tree_E text (assign_at r p n pl l pa e) = node p (v.AssignAt (name_id n) (trees_L text l) (tree_E text e))
  tree_E text (show p pa e) = node p (v.Show (tree_E text e))

  pub tree_O : List ℕ → O → Node
  tree_O text (simple s) = tree_S text s
  tree_O text (paren p e q) = tree_E text e
  tree_O text (index o p l) = node p (v.Index (tree_O text o) (trees_L text l))

  pub trees_L : List ℕ → L → List (Option Node)
  trees_L text (last_gap p) = None ∷ []
  trees_L text (last_entry e p) = Some (tree_E text e) ∷ []
  trees_L text (gap p l) = None ∷ trees_L text l
  trees_L text (entry e p l) = Some (tree_E text e) ∷ trees_L text l

-- how many nodes a form has
abbrev mutual
  pub nodes_E : E → ℕ
  nodes_E (operand o) = nodes_O o
  nodes_E (before m e) = 1 + nodes_E e
  nodes_E (between o d e) = 1 + (nodes_O o + nodes_E e)
  nodes_E (assign r p n pa e) = 1 + nodes_E e
  nodes_E (assign_at r p n pl l pa e) = 1 + (nodes_L l + nodes_E e)
  nodes_E (show p pa e) = 1 + nodes_E e

  pub nodes_O : O → ℕ
  nodes_O (simple s) = 1
  nodes_O (paren p e q) = nodes_E e
  nodes_O (index o p l) = 1 + (nodes_O o + nodes_L l)

  pub nodes_L : L → ℕ
  nodes_L (last_gap p) = 0
  nodes_L (last_entry e p) = nodes_E e
  nodes_L (gap p l) = nodes_L l
  nodes_L (entry e p l) = nodes_E e + nodes_L l

-- ---- Statements

-- an assignment and `⎕←` display nothing, unless in parentheses; every other value is displayed
abbrev pub valued : E → Node → Statement
valued (operand o) x = st.Display x
valued (before m e) x = st.Display x
valued (between o d e) x = st.Display x
valued (assign r p n pa e) x = st.Quiet x
valued (assign_at r p n pl l pa e) x = st.Quiet x
valued (show p pa e) x = st.Quiet x

-- the statement that a form of a text is; a call of a procedure displays nothing
abbrev pub statement_of : List ℕ → Sentence → Statement
statement_of text (value e) = valued e (tree_E text e)
statement_of text (branch p e) = st.Branch p (tree_E text e)
statement_of text (perform0 p n) = st.Quiet (node p (v.Call (name_id n) None None))
statement_of text (perform1 p n e) = st.Quiet (node p (v.Call (name_id n) None (Some (tree_E text e))))
statement_of text (perform2 o p n e) = st.Quiet (node p (v.Call (name_id n) (Some (tree_O text o)) (Some (tree_E text e))))

-- how many nodes a statement has
abbrev pub nodes_of : Sentence → ℕ
nodes_of (value e) = nodes_E e
nodes_of (branch p e) = nodes_E e
nodes_of (perform0 p n) = 1
nodes_of (perform1 p n e) = 1 + nodes_E e
nodes_of (perform2 o p n e) = 1 + (nodes_O o + nodes_E e)
