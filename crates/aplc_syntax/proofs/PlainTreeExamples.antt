-- The trees of small statements as plain data, computed.
use Rattle.std.proofs.Common.{◌≡◌, ◌∙◌, List, [], ◌∷◌, pos, ap, ap₂, Option, Some, None}
use Rattle.std.specs.Prelude.{codes}
use Rattle.aplc_scalar.specs.declared.function.ScalarFn.TheVariants as f
use Rattle.aplc_syntax.specs.declared.tree.Primitive.TheVariants as pr
use Rattle.aplc_syntax.specs.declared.tree.Form.TheVariants as v
use Rattle.aplc_syntax.specs.declared.tree.Statement.{Statement}
use Rattle.aplc_syntax.specs.declared.tree.Statement.TheVariants as st
use Rattle.aplc_syntax.specs.PlainTrees.{Tree, Numbers, Name, Dyad, Index, AssignAt, Show, Call, no_more, left_out, and_tree, given, tree_of}
use Rattle.aplc_syntax.specs.Programs.{IsDerived}
use Rattle.aplc_syntax.specs.Trees.{node, name_id}
use Rattle.aplc_syntax.proofs.Examples.{right_to_left, empty_entries, indexed_assignment, call_of_two, shown_value}
use Rattle.aplc_syntax.proofs.PlainForms.{numbers_node, name_node, dyad_node, index_node, assign_at_node, show_node, call_node}
use Rattle.aplc_syntax.proofs.Sources.{Piece, blank, source, nm, digit, sym, nl, main, first_words}

-- the tree of a statement
abbrev tree_in_statement : Statement → Option Tree
tree_in_statement st.Empty = None
tree_in_statement (st.Quiet n) = Some (tree_of n)
tree_in_statement (st.Display n) = Some (tree_of n)
tree_in_statement (st.Branch p n) = Some (tree_of n)

-- the first line of the first function is derived as a statement of this tree
abbrev IsFirstTree : List Piece → Tree → Type 0
IsFirstTree ps t = (s : Statement) × IsDerived (source ps) (first_words ps) s × (tree_in_statement s ≡ Some t)

there : {x y : Tree} → x ≡ y → (let o : Option Tree = Some x in o) ≡ Some y
there e = ap (λ (t : Tree). Some t) e

-- 2+3×4
pub sum_tree : IsFirstTree (main (digit 2 ∷ sym (codes "+") ∷ digit 3 ∷ sym (codes "×") ∷ digit 4 ∷ []))
    (Dyad 9 9 (pr.Scalar f.Add) (Numbers 8 8 (pos 2 ∷ [])) (Dyad 11 11 (pr.Scalar f.Mul) (Numbers 10 10 (pos 3 ∷ [])) (Numbers 13 13 (pos 4 ∷ []))))
sum_tree = (
  _,
  right_to_left,
  there (
      dyad_node 9 (pr.Scalar f.Add) (node 8 (v.Numbers (pos 2 ∷ []))) (node 11 (v.Dyad (pr.Scalar f.Mul) (node 10 (v.Numbers (pos 3 ∷ []))) (node 13 (v.Numbers (pos 4 ∷ [])))))
      ∙ ap₂ (Dyad 9 9 (pr.Scalar f.Add)) (numbers_node 8 (pos 2 ∷ []))
      (dyad_node 11 (pr.Scalar f.Mul) (node 10 (v.Numbers (pos 3 ∷ []))) (node 13 (v.Numbers (pos 4 ∷ [])))
      ∙ ap₂ (Dyad 11 11 (pr.Scalar f.Mul)) (numbers_node 10 (pos 3 ∷ [])) (numbers_node 13 (pos 4 ∷ [])))),
)

-- B[1;;A[2]]
pub entries_tree : IsFirstTree (main (nm (codes "B") ∷ sym (codes "[") ∷ digit 1 ∷ sym (codes ";") ∷ sym (codes ";") ∷ nm (codes "A") ∷ sym (codes "[") ∷ digit 2 ∷ sym (codes "]") ∷ sym (codes "]") ∷ []))
    (Index 9 9 (Name 8 8 1) (and_tree (Numbers 10 10 (pos 1 ∷ [])) (left_out (and_tree (Index 14 14 (Name 13 13 2) (and_tree (Numbers 15 15 (pos 2 ∷ [])) no_more)) no_more))))
entries_tree = (
  _,
  empty_entries,
  there (
      index_node 9 (node 8 (v.Name (name_id 1))) (Some (node 10 (v.Numbers (pos 1 ∷ []))) ∷ None ∷ Some (node 14 (v.Index (node 13 (v.Name (name_id 2))) (Some (node 15 (v.Numbers (pos 2 ∷ []))) ∷ []))) ∷ [])
      ∙ ap₂ (Index 9 9) (name_node 8 1)
      (ap₂ (λ (x y : Tree). and_tree x (left_out (and_tree y no_more))) (numbers_node 10 (pos 1 ∷ []))
      (index_node 14 (node 13 (v.Name (name_id 2))) (Some (node 15 (v.Numbers (pos 2 ∷ []))) ∷ [])
      ∙ ap₂ (λ (x y : Tree). Index 14 14 x (and_tree y no_more)) (name_node 13 2) (numbers_node 15 (pos 2 ∷ []))))),
)

-- A[2 2]←7 8
pub assignment_tree : IsFirstTree (main (nm (codes "A") ∷ sym (codes "[") ∷ digit 2 ∷ blank ∷ digit 2 ∷ sym (codes "]") ∷ sym (codes "←") ∷ digit 7 ∷ blank ∷ digit 8 ∷ []))
    (AssignAt 8 8 1 (and_tree (Numbers 10 10 (pos 2 ∷ pos 2 ∷ [])) no_more) (Numbers 17 17 (pos 7 ∷ pos 8 ∷ [])))
assignment_tree = (
  _,
  indexed_assignment,
  there (
      assign_at_node 8 1 (Some (node 10 (v.Numbers (pos 2 ∷ pos 2 ∷ []))) ∷ []) (node 17 (v.Numbers (pos 7 ∷ pos 8 ∷ [])))
      ∙ ap₂ (λ (x y : Tree). AssignAt 8 8 1 (and_tree x no_more) y) (numbers_node 10 (pos 2 ∷ pos 2 ∷ [])) (numbers_node 17 (pos 7 ∷ pos 8 ∷ []))),
)

-- 2 F 3 where F has two arguments
pub call_tree : IsFirstTree (sym (codes "∇") ∷ nm (codes "MAIN") ∷ nl ∷ digit 2 ∷ blank ∷ nm (codes "F") ∷ blank ∷ digit 3 ∷ nl ∷ sym (codes "∇") ∷ nl ∷ sym (codes "∇") ∷ nm (codes "R") ∷ sym (codes "←") ∷ nm (codes "A") ∷ blank ∷ nm (codes "F") ∷ blank ∷ nm (codes "B") ∷ nl ∷ sym (codes "∇") ∷ nl ∷ [])
    (Call 10 10 1 (given (Numbers 8 8 (pos 2 ∷ []))) (given (Numbers 12 12 (pos 3 ∷ []))))
call_tree = (
  _,
  call_of_two,
  there (
      call_node 10 1 (Some (node 8 (v.Numbers (pos 2 ∷ [])))) (Some (node 12 (v.Numbers (pos 3 ∷ []))))
      ∙ ap₂ (λ (x y : Tree). Call 10 10 1 (given x) (given y)) (numbers_node 8 (pos 2 ∷ [])) (numbers_node 12 (pos 3 ∷ []))),
)

-- ⎕←1
pub display_tree : IsFirstTree (main (sym (codes "⎕") ∷ sym (codes "←") ∷ digit 1 ∷ []))
    (Show 8 8 (Numbers 14 14 (pos 1 ∷ [])))
display_tree = (_, shown_value, there (show_node 8 (node 14 (v.Numbers (pos 1 ∷ []))) ∙ ap (Show 8 8) (numbers_node 14 (pos 1 ∷ []))))
