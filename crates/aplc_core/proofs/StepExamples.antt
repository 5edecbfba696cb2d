-- The plain data of steps, computed.
use Rattle.std.proofs.Common.{◌≡◌, ◌∙◌, ap, ap₂, ℕ, [], ◌∷◌, pos}
use Rattle.std.specs.Prelude.{Some, None}
use Rattle.aplc_scalar.specs.declared.kind.Kind.TheVariants.{Num}
use Rattle.aplc_scalar.specs.declared.function.ScalarFn.TheVariants as f
use Rattle.aplc_syntax.specs.declared.tree.NodeId.{NodeId}
use Rattle.aplc_syntax.specs.declared.tree.Primitive.TheVariants as pr
use Rattle.aplc_syntax.specs.Trees.{name_id}
use Rattle.aplc_core.specs.declared.step.SlotId.{SlotId}
use Rattle.aplc_core.specs.declared.step.Step.TheVariants as s
use Rattle.aplc_core.specs.declared.step.Tree.{Tree}
use Rattle.aplc_core.specs.declared.step.Tree.TheVariants as v
use Rattle.aplc_core.specs.PlainSteps.{Literal, Read, Slot, Dyad, Index, no_more, left_out, and_term, StoreAt, Show, effect_of, term_of}
use Rattle.aplc_core.proofs.TermForms.{term_Literal, term_Read, term_Slot, term_Dyad, term_Index}

abbrev node_id : ℕ → NodeId
node_id n = record { 0 = n }

abbrev slot_id : ℕ → SlotId
slot_id n = record { 0 = n }

-- node 1, the name of number 0
abbrev name_tree : Tree
name_tree = v.Read (node_id 1) (name_id 0)

-- node 4 in slot 2
abbrev slot_tree : Tree
slot_tree = v.Slot (node_id 4) (slot_id 2)

-- node 5, the number 7
abbrev number_tree : Tree
number_tree = v.Literal (node_id 5) Num (pos 7 ∷ [])

-- `⎕←A+X`, where X was evaluated into slot 2: the left argument stands first
displayed : effect_of (s.Show (Some (node_id 9)) (v.Dyad (node_id 3) (pr.Scalar f.Add) name_tree slot_tree)) ≡ Show (Some 9) (Dyad 3 (pr.Scalar f.Add) (Read 1 0) (Slot 4 2))
displayed = ap (Show (Some 9)) (term_Dyad (node_id 3) (pr.Scalar f.Add) name_tree slot_tree ∙ ap₂ (Dyad 3 (pr.Scalar f.Add)) (term_Read (node_id 1) (name_id 0)) (term_Slot (node_id 4) (slot_id 2)))

-- `B[7;]←X`, where B is name 6
stored : effect_of (s.StoreAt (node_id 8) (name_id 6) (Some number_tree ∷ None ∷ []) slot_tree) ≡ StoreAt 8 6 (and_term (Literal 5 Num (pos 7 ∷ [])) (left_out no_more)) (Slot 4 2)
stored = ap₂ (λ x y. StoreAt 8 6 (and_term x (left_out no_more)) y) (term_Literal (node_id 5) Num (pos 7 ∷ [])) (term_Slot (node_id 4) (slot_id 2))

-- `A[;7]`
element : term_of (v.Index (node_id 2) name_tree (None ∷ Some number_tree ∷ [])) ≡ Index 2 (Read 1 0) (left_out (and_term (Literal 5 Num (pos 7 ∷ [])) no_more))
element = term_Index (node_id 2) name_tree (None ∷ Some number_tree ∷ []) ∙ ap₂ (λ x y. Index 2 x (left_out (and_term y no_more))) (term_Read (node_id 1) (name_id 0)) (term_Literal (node_id 5) Num (pos 7 ∷ []))
