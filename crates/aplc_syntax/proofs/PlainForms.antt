-- What each form is as plain data.
use Rattle.std.proofs.Common.{◌≡◌, ◌∙◌, ap, sym, refl, ℕ, List, [], ◌∷◌, ℤ}
use Rattle.std.specs.Prelude.{Option, Some, None, map}
use Rattle.aplc_syntax.specs.declared.tree.NameId.{NameId}
use Rattle.aplc_syntax.specs.declared.tree.Primitive.{Primitive}
use Rattle.aplc_syntax.specs.declared.tree.Node.{Node}
use Rattle.aplc_syntax.specs.declared.tree.Form.{Form}
use Rattle.aplc_syntax.specs.declared.tree.Form.TheVariants as v
use Rattle.aplc_syntax.specs.declared.tree.Form.TheOpen.{Form-F}
use Rattle.aplc_syntax.specs.declared.tree.Form.TheFolds.{fold-roll-Form, fold_out-Node}
use Rattle.aplc_syntax.specs.PlainTrees.{Tree, Numbers, Text, Name, TextInput, NumsInput, Mono, Dyad, Index, Assign, AssignAt, Show, Call, left_out, and_tree, trees_of, form_tree, node_tree, tree_of, tree_in, trees_in, argument_in}
use Rattle.aplc_syntax.specs.Trees.{node, name_id}

abbrev Plain : Type 0
Plain = ℕ → ℕ → Tree

abbrev at : ℕ → ℕ → Form → Tree
at i p x = tree_in x i p

-- ---- Forms

pub tree_node : (n : Node) → tree_of n ≡ tree_in n.form n.id.0 n.place
tree_node n = fold_out-Node Plain Tree form_tree node_tree n

-- two functions of entries that agree give the same trees
trees_same : (f : Option Node → Option Tree) (xs : List (Option Node)) → f None ≡ None → ((n : Node) → f (Some n) ≡ Some (tree_of n)) → trees_of (map f xs) ≡ trees_in xs
trees_same f [] h k = refl
trees_same f (None ∷ xs) h k = ap (λ x. trees_of (x ∷ map f xs)) h ∙ ap left_out (trees_same f xs h k)
trees_same f (Some n ∷ xs) h k = ap (λ x. trees_of (x ∷ map f xs)) (k n) ∙ ap (and_tree (tree_of n)) (trees_same f xs h k)

pub tree_Numbers : (xs : List ℤ) (i p : ℕ) → tree_in (v.Numbers xs) i p ≡ Numbers i p xs
tree_Numbers xs i p = ap (at i p) (sym (v.rolls-Numbers xs)) ∙ ap (λ (h : Plain). h i p) (fold-roll-Form Plain Tree form_tree node_tree (Form-F.Numbers xs))

pub tree_Text : (xs : List ℕ) (i p : ℕ) → tree_in (v.Text xs) i p ≡ Text i p xs
tree_Text xs i p = ap (at i p) (sym (v.rolls-Text xs)) ∙ ap (λ (h : Plain). h i p) (fold-roll-Form Plain Tree form_tree node_tree (Form-F.Text xs))

pub tree_Name : (n : NameId) (i p : ℕ) → tree_in (v.Name n) i p ≡ Name i p n.0
tree_Name n i p = ap (at i p) (sym (v.rolls-Name n)) ∙ ap (λ (h : Plain). h i p) (fold-roll-Form Plain Tree form_tree node_tree (Form-F.Name n))

pub tree_TextInput : (i p : ℕ) → tree_in v.TextInput i p ≡ TextInput i p
tree_TextInput i p = ap (at i p) (sym v.rolls-TextInput) ∙ ap (λ (h : Plain). h i p) (fold-roll-Form Plain Tree form_tree node_tree Form-F.TextInput)

pub tree_NumsInput : (i p : ℕ) → tree_in v.NumsInput i p ≡ NumsInput i p
tree_NumsInput i p = ap (at i p) (sym v.rolls-NumsInput) ∙ ap (λ (h : Plain). h i p) (fold-roll-Form Plain Tree form_tree node_tree Form-F.NumsInput)

pub tree_Mono : (f : Primitive) (a : Node) (i p : ℕ) → tree_in (v.Mono f a) i p ≡ Mono i p f (tree_of a)
tree_Mono f a i p = ap (at i p) (sym (v.rolls-Mono f a)) ∙ ap (λ (h : Plain). h i p) (fold-roll-Form Plain Tree form_tree node_tree (Form-F.Mono f a))

pub tree_Dyad : (f : Primitive) (a b : Node) (i p : ℕ) → tree_in (v.Dyad f a b) i p ≡ Dyad i p f (tree_of a) (tree_of b)
tree_Dyad f a b i p = ap (at i p) (sym (v.rolls-Dyad f a b)) ∙ ap (λ (h : Plain). h i p) (fold-roll-Form Plain Tree form_tree node_tree (Form-F.Dyad f a b))

pub tree_Index : (a : Node) (xs : List (Option Node)) (i p : ℕ) → tree_in (v.Index a xs) i p ≡ Index i p (tree_of a) (trees_in xs)
tree_Index a xs i p = ap (at i p) (sym (v.rolls-Index a xs)) ∙ ap (λ (h : Plain). h i p) (fold-roll-Form Plain Tree form_tree node_tree (Form-F.Index a xs)) ∙ ap (Index i p (tree_of a)) (trees_same _ xs refl (λ m. refl))

pub tree_Assign : (n : NameId) (a : Node) (i p : ℕ) → tree_in (v.Assign n a) i p ≡ Assign i p n.0 (tree_of a)
tree_Assign n a i p = ap (at i p) (sym (v.rolls-Assign n a)) ∙ ap (λ (h : Plain). h i p) (fold-roll-Form Plain Tree form_tree node_tree (Form-F.Assign n a))

pub tree_AssignAt : (n : NameId) (xs : List (Option Node)) (a : Node) (i p : ℕ) → tree_in (v.AssignAt n xs a) i p ≡ AssignAt i p n.0 (trees_in xs) (tree_of a)
tree_AssignAt n xs a i p = ap (at i p) (sym (v.rolls-AssignAt n xs a)) ∙ ap (λ (h : Plain). h i p) (fold-roll-Form Plain Tree form_tree node_tree (Form-F.AssignAt n xs a)) ∙ ap (λ t. AssignAt i p n.0 t (tree_of a)) (trees_same _ xs refl (λ m. refl))

pub tree_Show : (a : Node) (i p : ℕ) → tree_in (v.Show a) i p ≡ Show i p (tree_of a)
tree_Show a i p = ap (at i p) (sym (v.rolls-Show a)) ∙ ap (λ (h : Plain). h i p) (fold-roll-Form Plain Tree form_tree node_tree (Form-F.Show a))

pub tree_Call : (n : NameId) (a b : Option Node) (i p : ℕ) → tree_in (v.Call n a b) i p ≡ Call i p n.0 (argument_in a) (argument_in b)
tree_Call n None None i p = ap (at i p) (sym (v.rolls-Call n None None)) ∙ ap (λ (h : Plain). h i p) (fold-roll-Form Plain Tree form_tree node_tree (Form-F.Call n None None))
tree_Call n None (Some b) i p = ap (at i p) (sym (v.rolls-Call n None (Some b))) ∙ ap (λ (h : Plain). h i p) (fold-roll-Form Plain Tree form_tree node_tree (Form-F.Call n None (Some b)))
tree_Call n (Some a) None i p = ap (at i p) (sym (v.rolls-Call n (Some a) None)) ∙ ap (λ (h : Plain). h i p) (fold-roll-Form Plain Tree form_tree node_tree (Form-F.Call n (Some a) None))
tree_Call n (Some a) (Some b) i p = ap (at i p) (sym (v.rolls-Call n (Some a) (Some b))) ∙ ap (λ (h : Plain). h i p) (fold-roll-Form Plain Tree form_tree node_tree (Form-F.Call n (Some a) (Some b)))

pub ruleset plain_forms = (tree_Numbers, tree_Text, tree_Name, tree_TextInput, tree_NumsInput, tree_Mono, tree_Dyad, tree_Index, tree_Assign, tree_AssignAt, tree_Show, tree_Call)

-- ---- Nodes that have their place as their number

at_place : (p : ℕ) (x : Form) → tree_of (node p x) ≡ tree_in x p p
at_place p x = tree_node (node p x)

pub numbers_node : (p : ℕ) (xs : List ℤ) → tree_of (node p (v.Numbers xs)) ≡ Numbers p p xs
numbers_node p xs = at_place p (v.Numbers xs) ∙ tree_Numbers xs p p

pub text_node : (p : ℕ) (cs : List ℕ) → tree_of (node p (v.Text cs)) ≡ Text p p cs
text_node p cs = at_place p (v.Text cs) ∙ tree_Text cs p p

pub name_node : (p n : ℕ) → tree_of (node p (v.Name (name_id n))) ≡ Name p p n
name_node p n = at_place p (v.Name (name_id n)) ∙ tree_Name (name_id n) p p

pub text_input_node : (p : ℕ) → tree_of (node p v.TextInput) ≡ TextInput p p
text_input_node p = at_place p v.TextInput ∙ tree_TextInput p p

pub nums_input_node : (p : ℕ) → tree_of (node p v.NumsInput) ≡ NumsInput p p
nums_input_node p = at_place p v.NumsInput ∙ tree_NumsInput p p

pub mono_node : (p : ℕ) (g : Primitive) (a : Node) → tree_of (node p (v.Mono g a)) ≡ Mono p p g (tree_of a)
mono_node p g a = at_place p (v.Mono g a) ∙ tree_Mono g a p p

pub dyad_node : (p : ℕ) (g : Primitive) (a b : Node) → tree_of (node p (v.Dyad g a b)) ≡ Dyad p p g (tree_of a) (tree_of b)
dyad_node p g a b = at_place p (v.Dyad g a b) ∙ tree_Dyad g a b p p

pub index_node : (p : ℕ) (a : Node) (xs : List (Option Node)) → tree_of (node p (v.Index a xs)) ≡ Index p p (tree_of a) (trees_in xs)
index_node p a xs = at_place p (v.Index a xs) ∙ tree_Index a xs p p

pub assign_node : (p n : ℕ) (a : Node) → tree_of (node p (v.Assign (name_id n) a)) ≡ Assign p p n (tree_of a)
assign_node p n a = at_place p (v.Assign (name_id n) a) ∙ tree_Assign (name_id n) a p p

pub assign_at_node : (p n : ℕ) (xs : List (Option Node)) (a : Node) → tree_of (node p (v.AssignAt (name_id n) xs a)) ≡ AssignAt p p n (trees_in xs) (tree_of a)
assign_at_node p n xs a = at_place p (v.AssignAt (name_id n) xs a) ∙ tree_AssignAt (name_id n) xs a p p

pub show_node : (p : ℕ) (a : Node) → tree_of (node p (v.Show a)) ≡ Show p p (tree_of a)
show_node p a = at_place p (v.Show a) ∙ tree_Show a p p

pub call_node : (p n : ℕ) (a b : Option Node) → tree_of (node p (v.Call (name_id n) a b)) ≡ Call p p n (argument_in a) (argument_in b)
call_node p n a b = at_place p (v.Call (name_id n) a b) ∙ tree_Call (name_id n) a b p p
