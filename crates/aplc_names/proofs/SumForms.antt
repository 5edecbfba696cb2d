-- The sum that each form is, if it is one.
use Rattle.std.proofs.Common.{◌≡◌, ◌∙◌, ap, sym, subst, refl, ℕ, List, ℤ}
use Rattle.std.specs.Prelude.{Option, None}
use Rattle.aplc_syntax.specs.declared.tree.NameId.{NameId}
use Rattle.aplc_syntax.specs.declared.tree.Primitive.{Primitive}
use Rattle.aplc_syntax.specs.declared.tree.Node.{Node}
use Rattle.aplc_syntax.specs.declared.tree.Form.{Form}
use Rattle.aplc_syntax.specs.declared.tree.Form.TheVariants as v
use Rattle.aplc_syntax.specs.declared.tree.Form.TheOpen as o
use Rattle.aplc_syntax.specs.declared.tree.Form.TheOpen.{Form-F}
use Rattle.aplc_syntax.specs.declared.tree.Form.TheFolds.{fold_out-Form}
use Rattle.aplc_syntax.specs.PlainTrees.{Tree, form_tree, node_tree, tree_in}
use Rattle.aplc_syntax.proofs.PlainForms.{tree_node, tree_Numbers, tree_Text, tree_Name, tree_TextInput, tree_NumsInput, tree_Mono, tree_Dyad, tree_Index, tree_Assign, tree_AssignAt, tree_Show, tree_Call}
use Rattle.aplc_names.specs.Sums.{dyad, alone, tree_sum, sum_of, sum_in}

abbrev Plain : Type 0
Plain = ℕ → ℕ → Tree

-- a form is the same sum wherever it stands
placed : (l : Form-F Plain Tree) (i p : ℕ) → tree_sum (form_tree l i p) ≡ tree_sum (form_tree l 0 0)
placed (o.Numbers xs) i p = refl
placed (o.Text cs) i p = refl
placed (o.Name n) i p = refl
placed o.TextInput i p = refl
placed o.NumsInput i p = refl
placed (o.Mono f a) i p = refl
placed (o.Dyad f a b) i p = refl
placed (o.Index a xs) i p = refl
placed (o.Assign n a) i p = refl
placed (o.AssignAt n xs a) i p = refl
placed (o.Show a) i p = refl
placed (o.Call n a b) i p = refl

anywhere : (h : Plain) (l : Form-F Plain Tree) → h ≡ form_tree l → (i p : ℕ) → tree_sum (h i p) ≡ tree_sum (h 0 0)
anywhere h l e i p = subst (λ (g : Plain). tree_sum (g i p) ≡ tree_sum (g 0 0)) (sym e) (placed l i p)

form_anywhere : (x : Form) (i p : ℕ) → tree_sum (tree_in x i p) ≡ sum_in x
form_anywhere x i p = anywhere (tree_in x) _ (fold_out-Form Plain Tree form_tree node_tree x) i p

pub sum_node : (n : Node) → sum_of n ≡ sum_in n.form
sum_node n = ap tree_sum (tree_node n) ∙ form_anywhere n.form n.id.0 n.place

pub sum_Numbers : (xs : List ℤ) → sum_in (v.Numbers xs) ≡ alone xs
sum_Numbers xs = ap tree_sum (tree_Numbers xs 0 0)

pub sum_Dyad : (p : Primitive) (a b : Node) → sum_in (v.Dyad p a b) ≡ dyad p (sum_of a) (sum_of b)
sum_Dyad p a b = ap tree_sum (tree_Dyad p a b 0 0)

pub sum_Text : (xs : List ℕ) → sum_in (v.Text xs) ≡ None
sum_Text xs = ap tree_sum (tree_Text xs 0 0)

pub sum_Name : (n : NameId) → sum_in (v.Name n) ≡ None
sum_Name n = ap tree_sum (tree_Name n 0 0)

pub sum_TextInput : sum_in v.TextInput ≡ None
sum_TextInput = ap tree_sum (tree_TextInput 0 0)

pub sum_NumsInput : sum_in v.NumsInput ≡ None
sum_NumsInput = ap tree_sum (tree_NumsInput 0 0)

pub sum_Mono : (p : Primitive) (a : Node) → sum_in (v.Mono p a) ≡ None
sum_Mono p a = ap tree_sum (tree_Mono p a 0 0)

pub sum_Index : (a : Node) (xs : List (Option Node)) → sum_in (v.Index a xs) ≡ None
sum_Index a xs = ap tree_sum (tree_Index a xs 0 0)

pub sum_Assign : (n : NameId) (a : Node) → sum_in (v.Assign n a) ≡ None
sum_Assign n a = ap tree_sum (tree_Assign n a 0 0)

pub sum_AssignAt : (n : NameId) (xs : List (Option Node)) (a : Node) → sum_in (v.AssignAt n xs a) ≡ None
sum_AssignAt n xs a = ap tree_sum (tree_AssignAt n xs a 0 0)

pub sum_Show : (a : Node) → sum_in (v.Show a) ≡ None
sum_Show a = ap tree_sum (tree_Show a 0 0)

pub sum_Call : (n : NameId) (a b : Option Node) → sum_in (v.Call n a b) ≡ None
sum_Call n a b = ap tree_sum (tree_Call n a b 0 0)

pub ruleset sum_equations = (sum_Numbers, sum_Dyad, sum_Text, sum_Name, sum_TextInput, sum_NumsInput, sum_Mono, sum_Index, sum_Assign, sum_AssignAt, sum_Show, sum_Call)
