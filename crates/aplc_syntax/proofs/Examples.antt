-- Small statements, their words and their trees, computed.
use Rattle.std.proofs.Common.{List, [], ◌∷◌, pos, refl, arith, Some, None}
use Rattle.std.specs.Prelude.{codes}
use Rattle.std.specs.Char.{encode_utf8}
use Rattle.std.specs.Str.{chars}
use Rattle.aplc_scalar.specs.declared.function.ScalarFn.TheVariants as f
use Rattle.aplc_lex.specs.declared.token.TokenKind.TheVariants as k
use Rattle.aplc_syntax.specs.declared.tree.Axis.TheVariants as ax
use Rattle.aplc_syntax.specs.declared.tree.Primitive.TheVariants as pr
use Rattle.aplc_syntax.specs.declared.tree.Form.TheVariants as v
use Rattle.aplc_syntax.specs.declared.tree.Statement.{Statement}
use Rattle.aplc_syntax.specs.declared.tree.Statement.TheVariants as st
use Rattle.aplc_syntax.specs.declared.word.Arity.TheVariants as arity
use Rattle.aplc_syntax.specs.declared.word.Role.TheVariants as role
use Rattle.aplc_syntax.specs.declared.word.Stroke.TheVariants as stroke
use Rattle.aplc_syntax.specs.Words.{sign}
use Rattle.aplc_syntax.specs.Grammar.{arith_fn, compare_fn, no_axis, axis, not1, both1, turn1, reduce, call1, scalar2, both2, dyadic2, turn2, copies, outer, inner, call2, no_number, number, numbers, literal, variable, call0, text_input, nums_input, operand, before, between, assign, assign_at, show, simple, paren, index, last_entry, gap, entry, value, branch, perform1, perform2}
use Rattle.aplc_syntax.specs.Trees.{node, name_id}
use Rattle.aplc_syntax.specs.Programs.{IsDerived}
use Rattle.aplc_syntax.proofs.Sources.{Piece, blank, piece, source, nm, digit, text, sym, nl, main, first_words}

-- the first line of the first function is derived as this statement
abbrev IsFirstLine : List Piece → Statement → Type 0
IsFirstLine ps s = IsDerived (source ps) (first_words ps) s

-- 2+3×4
pub right_to_left : IsFirstLine (main (digit 2 ∷ sym (codes "+") ∷ digit 3 ∷ sym (codes "×") ∷ digit 4 ∷ []))
    (st.Display (node 9 (v.Dyad (pr.Scalar f.Add) (node 8 (v.Numbers (pos 2 ∷ []))) (node 11 (v.Dyad (pr.Scalar f.Mul) (node 10 (v.Numbers (pos 3 ∷ []))) (node 13 (v.Numbers (pos 4 ∷ []))))))))
unfolding sign encode_utf8 chars
right_to_left = record { form = value (between (simple (numbers 8 (pos 2) no_number)) (scalar2 9 (arith_fn f.Add)) (between (simple (numbers 10 (pos 3) no_number)) (scalar2 11 (arith_fn f.Mul)) (operand (simple (numbers 13 (pos 4) no_number))))); spelled = refl; tree = refl; shallow = refl; small = omega arith }

-- (2+3)×4
pub parentheses : IsFirstLine (main (sym (codes "(") ∷ digit 2 ∷ sym (codes "+") ∷ digit 3 ∷ sym (codes ")") ∷ sym (codes "×") ∷ digit 4 ∷ []))
    (st.Display (node 13 (v.Dyad (pr.Scalar f.Mul) (node 10 (v.Dyad (pr.Scalar f.Add) (node 9 (v.Numbers (pos 2 ∷ []))) (node 11 (v.Numbers (pos 3 ∷ []))))) (node 15 (v.Numbers (pos 4 ∷ []))))))
unfolding sign encode_utf8 chars
parentheses = record { form = value (between (paren 8 (between (simple (numbers 9 (pos 2) no_number)) (scalar2 10 (arith_fn f.Add)) (operand (simple (numbers 11 (pos 3) no_number)))) 12) (scalar2 13 (arith_fn f.Mul)) (operand (simple (numbers 15 (pos 4) no_number)))); spelled = refl; tree = refl; shallow = refl; small = omega arith }

-- -/1 2 3
pub reduction_of_three : IsFirstLine (main (sym (codes "-") ∷ sym (codes "/") ∷ digit 1 ∷ blank ∷ digit 2 ∷ blank ∷ digit 3 ∷ []))
    (st.Display (node 8 (v.Mono (pr.Reduce f.Sub ax.Last) (node 10 (v.Numbers (pos 1 ∷ pos 2 ∷ pos 3 ∷ []))))))
unfolding sign encode_utf8 chars
reduction_of_three = record { form = value (before (reduce 8 (arith_fn f.Sub) 9 stroke.Slash ax.Last no_axis) (operand (simple (numbers 10 (pos 1) (number 12 (pos 2) (number 14 (pos 3) no_number)))))); spelled = refl; tree = refl; shallow = refl; small = omega arith }

-- 1 0 2/'abc'
pub replication : IsFirstLine (main (digit 1 ∷ blank ∷ digit 0 ∷ blank ∷ digit 2 ∷ sym (codes "/") ∷ text (codes "'abc'") ∷ []))
    (st.Display (node 13 (v.Dyad (pr.Replicate ax.Last) (node 8 (v.Numbers (pos 1 ∷ pos 0 ∷ pos 2 ∷ []))) (node 14 (v.Text (97 ∷ 98 ∷ 99 ∷ []))))))
unfolding sign encode_utf8 chars
replication = record { form = value (between (simple (numbers 8 (pos 1) (number 10 (pos 0) (number 12 (pos 2) no_number)))) (copies 13 stroke.Slash ax.Last no_axis) (operand (simple (literal 14 19)))); spelled = refl; tree = refl; shallow = refl; small = omega arith }

-- A[2 2]←7 8
pub indexed_assignment : IsFirstLine (main (nm (codes "A") ∷ sym (codes "[") ∷ digit 2 ∷ blank ∷ digit 2 ∷ sym (codes "]") ∷ sym (codes "←") ∷ digit 7 ∷ blank ∷ digit 8 ∷ []))
    (st.Quiet (node 8 (v.AssignAt (name_id 1) (Some (node 10 (v.Numbers (pos 2 ∷ pos 2 ∷ []))) ∷ []) (node 17 (v.Numbers (pos 7 ∷ pos 8 ∷ []))))))
unfolding sign encode_utf8 chars
indexed_assignment = record { form = value (assign_at role.Variable 8 1 9 (last_entry (operand (simple (numbers 10 (pos 2) (number 12 (pos 2) no_number)))) 13) 14 (operand (simple (numbers 17 (pos 7) (number 19 (pos 8) no_number))))); spelled = refl; tree = refl; shallow = refl; small = omega arith }

-- →(K<4)/L
pub branch_back : IsFirstLine (main (sym (codes "→") ∷ sym (codes "(") ∷ nm (codes "K") ∷ sym (codes "<") ∷ digit 4 ∷ sym (codes ")") ∷ sym (codes "/") ∷ nm (codes "L") ∷ []))
    (st.Branch 8 (node 16 (v.Dyad (pr.Replicate ax.Last) (node 13 (v.Dyad (pr.Scalar f.Less) (node 12 (v.Name (name_id 1))) (node 14 (v.Numbers (pos 4 ∷ []))))) (node 17 (v.Name (name_id 2))))))
unfolding sign encode_utf8 chars
branch_back = record { form = branch 8 (between (paren 11 (between (simple (variable 12 1)) (scalar2 13 (compare_fn f.Less)) (operand (simple (numbers 14 (pos 4) no_number)))) 15) (copies 16 stroke.Slash ax.Last no_axis) (operand (simple (variable 17 2)))); spelled = refl; tree = refl; shallow = refl; small = omega arith }

-- (A←5)
pub shown_assignment : IsFirstLine (main (sym (codes "(") ∷ nm (codes "A") ∷ sym (codes "←") ∷ digit 5 ∷ sym (codes ")") ∷ []))
    (st.Display (node 9 (v.Assign (name_id 1) (node 13 (v.Numbers (pos 5 ∷ []))))))
unfolding sign encode_utf8 chars
shown_assignment = record { form = value (operand (paren 8 (assign role.Variable 9 1 10 (operand (simple (numbers 13 (pos 5) no_number)))) 14)); spelled = refl; tree = refl; shallow = refl; small = omega arith }

-- A←5
pub quiet_assignment : IsFirstLine (main (nm (codes "A") ∷ sym (codes "←") ∷ digit 5 ∷ []))
    (st.Quiet (node 8 (v.Assign (name_id 1) (node 12 (v.Numbers (pos 5 ∷ []))))))
unfolding sign encode_utf8 chars
quiet_assignment = record { form = value (assign role.Variable 8 1 9 (operand (simple (numbers 12 (pos 5) no_number)))); spelled = refl; tree = refl; shallow = refl; small = omega arith }

-- ⎕←1
pub shown_value : IsFirstLine (main (sym (codes "⎕") ∷ sym (codes "←") ∷ digit 1 ∷ []))
    (st.Quiet (node 8 (v.Show (node 14 (v.Numbers (pos 1 ∷ []))))))
unfolding sign encode_utf8 chars
shown_value = record { form = value (show 8 11 (operand (simple (numbers 14 (pos 1) no_number)))); spelled = refl; tree = refl; shallow = refl; small = omega arith }

-- 1 2∘.×1 2 3
pub all_pairs : IsFirstLine (main (digit 1 ∷ blank ∷ digit 2 ∷ sym (codes "∘") ∷ sym (codes ".") ∷ sym (codes "×") ∷ digit 1 ∷ blank ∷ digit 2 ∷ blank ∷ digit 3 ∷ []))
    (st.Display (node 11 (v.Dyad (pr.Outer f.Mul) (node 8 (v.Numbers (pos 1 ∷ pos 2 ∷ []))) (node 17 (v.Numbers (pos 1 ∷ pos 2 ∷ pos 3 ∷ []))))))
unfolding sign encode_utf8 chars
all_pairs = record { form = value (between (simple (numbers 8 (pos 1) (number 10 (pos 2) no_number))) (outer 11 14 15 (arith_fn f.Mul)) (operand (simple (numbers 17 (pos 1) (number 19 (pos 2) (number 21 (pos 3) no_number)))))); spelled = refl; tree = refl; shallow = refl; small = omega arith }

-- A+.×B
pub matrix_product : IsFirstLine (main (nm (codes "A") ∷ sym (codes "+") ∷ sym (codes ".") ∷ sym (codes "×") ∷ nm (codes "B") ∷ []))
    (st.Display (node 9 (v.Dyad (pr.Inner f.Add f.Mul) (node 8 (v.Name (name_id 1))) (node 13 (v.Name (name_id 2))))))
unfolding sign encode_utf8 chars
matrix_product = record { form = value (between (simple (variable 8 1)) (inner 9 (arith_fn f.Add) 10 11 (arith_fn f.Mul)) (operand (simple (variable 13 2)))); spelled = refl; tree = refl; shallow = refl; small = omega arith }

-- +/[1]B
pub axis_of_reduction : IsFirstLine (main (sym (codes "+") ∷ sym (codes "/") ∷ sym (codes "[") ∷ digit 1 ∷ sym (codes "]") ∷ nm (codes "B") ∷ []))
    (st.Display (node 8 (v.Mono (pr.Reduce f.Add (ax.At (pos 1))) (node 13 (v.Name (name_id 1))))))
unfolding sign encode_utf8 chars
axis_of_reduction = record { form = value (before (reduce 8 (arith_fn f.Add) 9 stroke.Slash ax.Last (axis 10 11 12 (pos 1))) (operand (simple (variable 13 1)))); spelled = refl; tree = refl; shallow = refl; small = omega arith }

-- +\\[2]⌽[1]B
pub axes : IsFirstLine (main (sym (codes "+") ∷ sym (codes "\\") ∷ sym (codes "[") ∷ digit 2 ∷ sym (codes "]") ∷ sym (codes "⌽") ∷ sym (codes "[") ∷ digit 1 ∷ sym (codes "]") ∷ nm (codes "B") ∷ []))
    (st.Display (node 8 (v.Mono (pr.Scan f.Add (ax.At (pos 2))) (node 13 (v.Mono (pr.Reverse (ax.At (pos 1))) (node 19 (v.Name (name_id 1))))))))
unfolding sign encode_utf8 chars
axes = record { form = value (before (reduce 8 (arith_fn f.Add) 9 stroke.Backslash ax.Last (axis 10 11 12 (pos 2))) (before (turn1 13 ax.Last (axis 16 17 18 (pos 1))) (operand (simple (variable 19 1))))); spelled = refl; tree = refl; shallow = refl; small = omega arith }

-- 1 2 3[2]
pub index_of_numbers : IsFirstLine (main (digit 1 ∷ blank ∷ digit 2 ∷ blank ∷ digit 3 ∷ sym (codes "[") ∷ digit 2 ∷ sym (codes "]") ∷ []))
    (st.Display (node 13 (v.Index (node 8 (v.Numbers (pos 1 ∷ pos 2 ∷ pos 3 ∷ []))) (Some (node 14 (v.Numbers (pos 2 ∷ []))) ∷ []))))
unfolding sign encode_utf8 chars
index_of_numbers = record { form = value (operand (index (simple (numbers 8 (pos 1) (number 10 (pos 2) (number 12 (pos 3) no_number)))) 13 (last_entry (operand (simple (numbers 14 (pos 2) no_number))) 15))); spelled = refl; tree = refl; shallow = refl; small = omega arith }

-- B[1;;A[2]]
pub empty_entries : IsFirstLine (main (nm (codes "B") ∷ sym (codes "[") ∷ digit 1 ∷ sym (codes ";") ∷ sym (codes ";") ∷ nm (codes "A") ∷ sym (codes "[") ∷ digit 2 ∷ sym (codes "]") ∷ sym (codes "]") ∷ []))
    (st.Display (node 9 (v.Index (node 8 (v.Name (name_id 1))) (Some (node 10 (v.Numbers (pos 1 ∷ []))) ∷ None ∷ Some (node 14 (v.Index (node 13 (v.Name (name_id 2))) (Some (node 15 (v.Numbers (pos 2 ∷ []))) ∷ []))) ∷ []))))
unfolding sign encode_utf8 chars
empty_entries = record { form = value (operand (index (simple (variable 8 1)) 9 (entry (operand (simple (numbers 10 (pos 1) no_number))) 11 (gap 12 (last_entry (operand (index (simple (variable 13 2)) 14 (last_entry (operand (simple (numbers 15 (pos 2) no_number))) 16))) 17))))); spelled = refl; tree = refl; shallow = refl; small = omega arith }

-- ⍴⍞,'it''s'
pub doubled_quote : IsFirstLine (main (sym (codes "⍴") ∷ sym (codes "⍞") ∷ sym (codes ",") ∷ text (codes "'it''s'") ∷ []))
    (st.Display (node 8 (v.Mono (pr.Shape) (node 14 (v.Dyad pr.Ravel (node 11 (v.TextInput)) (node 15 (v.Text (105 ∷ 116 ∷ 39 ∷ 115 ∷ []))))))))
unfolding sign encode_utf8 chars
doubled_quote = record { form = value (before (both1 8 pr.Shape) (between (simple (text_input 11)) (both2 14 pr.Ravel) (operand (simple (literal 15 22))))); spelled = refl; tree = refl; shallow = refl; small = omega arith }

-- +/⎕NUMS
pub number_input : IsFirstLine (main (sym (codes "+") ∷ sym (codes "/") ∷ piece k.NumsInput (codes "⎕NUMS") ∷ []))
    (st.Display (node 8 (v.Mono (pr.Reduce f.Add ax.Last) (node 10 (v.NumsInput)))))
unfolding sign encode_utf8 chars
number_input = record { form = value (before (reduce 8 (arith_fn f.Add) 9 stroke.Slash ax.Last no_axis) (operand (simple (nums_input 10)))); spelled = refl; tree = refl; shallow = refl; small = omega arith }

-- (A←5)+~A
pub assignment_inside : IsFirstLine (main (sym (codes "(") ∷ nm (codes "A") ∷ sym (codes "←") ∷ digit 5 ∷ sym (codes ")") ∷ sym (codes "+") ∷ sym (codes "~") ∷ nm (codes "A") ∷ []))
    (st.Display (node 15 (v.Dyad (pr.Scalar f.Add) (node 9 (v.Assign (name_id 1) (node 13 (v.Numbers (pos 5 ∷ []))))) (node 16 (v.Mono (pr.Scalar f.Not) (node 17 (v.Name (name_id 1))))))))
unfolding sign encode_utf8 chars
assignment_inside = record { form = value (between (paren 8 (assign role.Variable 9 1 10 (operand (simple (numbers 13 (pos 5) no_number)))) 14) (scalar2 15 (arith_fn f.Add)) (before (not1 16) (operand (simple (variable 17 1))))); spelled = refl; tree = refl; shallow = refl; small = omega arith }

-- 1 2⍀'ab'
pub expansion : IsFirstLine (main (digit 1 ∷ blank ∷ digit 2 ∷ sym (codes "⍀") ∷ text (codes "'ab'") ∷ []))
    (st.Display (node 11 (v.Dyad (pr.Expand ax.First) (node 8 (v.Numbers (pos 1 ∷ pos 2 ∷ []))) (node 14 (v.Text (97 ∷ 98 ∷ []))))))
unfolding sign encode_utf8 chars
expansion = record { form = value (between (simple (numbers 8 (pos 1) (number 10 (pos 2) no_number))) (copies 11 stroke.Backslash ax.First no_axis) (operand (simple (literal 14 18)))); spelled = refl; tree = refl; shallow = refl; small = omega arith }

-- ''
pub empty_text : IsFirstLine (main (text (codes "''") ∷ []))
    (st.Display (node 8 (v.Text ([]))))
unfolding sign encode_utf8 chars
empty_text = record { form = value (operand (simple (literal 8 10))); spelled = refl; tree = refl; shallow = refl; small = omega arith }

-- A⊖[2]⍉B
pub rotation : IsFirstLine (main (nm (codes "A") ∷ sym (codes "⊖") ∷ sym (codes "[") ∷ digit 2 ∷ sym (codes "]") ∷ sym (codes "⍉") ∷ nm (codes "B") ∷ []))
    (st.Display (node 9 (v.Dyad (pr.Reverse (ax.At (pos 2))) (node 8 (v.Name (name_id 1))) (node 15 (v.Mono (pr.Transpose) (node 18 (v.Name (name_id 2))))))))
unfolding sign encode_utf8 chars
rotation = record { form = value (between (simple (variable 8 1)) (turn2 9 ax.First (axis 12 13 14 (pos 2))) (before (both1 15 pr.Transpose) (operand (simple (variable 18 2))))); spelled = refl; tree = refl; shallow = refl; small = omega arith }

-- 5↑A∊B
pub members : IsFirstLine (main (digit 5 ∷ sym (codes "↑") ∷ nm (codes "A") ∷ sym (codes "∊") ∷ nm (codes "B") ∷ []))
    (st.Display (node 9 (v.Dyad pr.Take (node 8 (v.Numbers (pos 5 ∷ []))) (node 13 (v.Dyad pr.Member (node 12 (v.Name (name_id 1))) (node 16 (v.Name (name_id 2))))))))
unfolding sign encode_utf8 chars
members = record { form = value (between (simple (numbers 8 (pos 5) no_number)) (dyadic2 9 pr.Take) (between (simple (variable 12 1)) (dyadic2 13 pr.Member) (operand (simple (variable 16 2))))); spelled = refl; tree = refl; shallow = refl; small = omega arith }

-- F 3 where F has one argument and a result
pub call_of_one : IsFirstLine (sym (codes "∇") ∷ nm (codes "MAIN") ∷ nl ∷ nm (codes "F") ∷ blank ∷ digit 3 ∷ nl ∷ sym (codes "∇") ∷ nl ∷ sym (codes "∇") ∷ nm (codes "R") ∷ sym (codes "←") ∷ nm (codes "F") ∷ blank ∷ nm (codes "B") ∷ nl ∷ sym (codes "∇") ∷ nl ∷ [])
    (st.Display (node 8 (v.Call (name_id 1) None (Some (node 10 (v.Numbers (pos 3 ∷ [])))))))
unfolding sign encode_utf8 chars
call_of_one = record { form = value (before (call1 8 1) (operand (simple (numbers 10 (pos 3) no_number)))); spelled = refl; tree = refl; shallow = refl; small = omega arith }

-- 2 F 3 where F has two arguments
pub call_of_two : IsFirstLine (sym (codes "∇") ∷ nm (codes "MAIN") ∷ nl ∷ digit 2 ∷ blank ∷ nm (codes "F") ∷ blank ∷ digit 3 ∷ nl ∷ sym (codes "∇") ∷ nl ∷ sym (codes "∇") ∷ nm (codes "R") ∷ sym (codes "←") ∷ nm (codes "A") ∷ blank ∷ nm (codes "F") ∷ blank ∷ nm (codes "B") ∷ nl ∷ sym (codes "∇") ∷ nl ∷ [])
    (st.Display (node 10 (v.Call (name_id 1) (Some (node 8 (v.Numbers (pos 2 ∷ [])))) (Some (node 12 (v.Numbers (pos 3 ∷ [])))))))
unfolding sign encode_utf8 chars
call_of_two = record { form = value (between (simple (numbers 8 (pos 2) no_number)) (call2 10 1) (operand (simple (numbers 12 (pos 3) no_number)))); spelled = refl; tree = refl; shallow = refl; small = omega arith }

-- F+1 where F has none
pub call_of_none : IsFirstLine (sym (codes "∇") ∷ nm (codes "MAIN") ∷ nl ∷ nm (codes "F") ∷ sym (codes "+") ∷ digit 1 ∷ nl ∷ sym (codes "∇") ∷ nl ∷ sym (codes "∇") ∷ nm (codes "R") ∷ sym (codes "←") ∷ nm (codes "F") ∷ nl ∷ sym (codes "∇") ∷ nl ∷ [])
    (st.Display (node 9 (v.Dyad (pr.Scalar f.Add) (node 8 (v.Call (name_id 1) None None)) (node 10 (v.Numbers (pos 1 ∷ []))))))
unfolding sign encode_utf8 chars
call_of_none = record { form = value (between (simple (call0 8 1)) (scalar2 9 (arith_fn f.Add)) (operand (simple (numbers 10 (pos 1) no_number)))); spelled = refl; tree = refl; shallow = refl; small = omega arith }

-- F 1 where F has no result
pub procedure_of_one : IsFirstLine (sym (codes "∇") ∷ nm (codes "MAIN") ∷ nl ∷ nm (codes "F") ∷ blank ∷ digit 1 ∷ nl ∷ sym (codes "∇") ∷ nl ∷ sym (codes "∇") ∷ nm (codes "F") ∷ blank ∷ nm (codes "B") ∷ nl ∷ sym (codes "∇") ∷ nl ∷ [])
    (st.Quiet (node 8 (v.Call (name_id 1) None (Some (node 10 (v.Numbers (pos 1 ∷ [])))))))
unfolding sign encode_utf8 chars
procedure_of_one = record { form = perform1 8 1 (operand (simple (numbers 10 (pos 1) no_number))); spelled = refl; tree = refl; shallow = refl; small = omega arith }

-- (2)F 1 where F has no result and two arguments
pub procedure_of_two : IsFirstLine (sym (codes "∇") ∷ nm (codes "MAIN") ∷ nl ∷ sym (codes "(") ∷ digit 2 ∷ sym (codes ")") ∷ nm (codes "F") ∷ blank ∷ digit 1 ∷ nl ∷ sym (codes "∇") ∷ nl ∷ sym (codes "∇") ∷ nm (codes "A") ∷ blank ∷ nm (codes "F") ∷ blank ∷ nm (codes "B") ∷ nl ∷ sym (codes "∇") ∷ nl ∷ [])
    (st.Quiet (node 11 (v.Call (name_id 1) (Some (node 9 (v.Numbers (pos 2 ∷ [])))) (Some (node 13 (v.Numbers (pos 1 ∷ [])))))))
unfolding sign encode_utf8 chars
procedure_of_two = record { form = perform2 (paren 8 (operand (simple (numbers 9 (pos 2) no_number))) 10) 11 1 (operand (simple (numbers 13 (pos 1) no_number))); spelled = refl; tree = refl; shallow = refl; small = omega arith }

-- F[1]←2 where F has one argument
pub assigned_function : IsFirstLine (sym (codes "∇") ∷ nm (codes "MAIN") ∷ nl ∷ nm (codes "F") ∷ sym (codes "[") ∷ digit 1 ∷ sym (codes "]") ∷ sym (codes "←") ∷ digit 2 ∷ nl ∷ sym (codes "∇") ∷ nl ∷ sym (codes "∇") ∷ nm (codes "R") ∷ sym (codes "←") ∷ nm (codes "F") ∷ blank ∷ nm (codes "B") ∷ nl ∷ sym (codes "∇") ∷ nl ∷ [])
    (st.Quiet (node 8 (v.AssignAt (name_id 1) (Some (node 10 (v.Numbers (pos 1 ∷ []))) ∷ []) (node 15 (v.Numbers (pos 2 ∷ []))))))
unfolding sign encode_utf8 chars
assigned_function = record { form = value (assign_at (role.Function arity.Monadic) 8 1 9 (last_entry (operand (simple (numbers 10 (pos 1) no_number))) 11) 12 (operand (simple (numbers 15 (pos 2) no_number)))); spelled = refl; tree = refl; shallow = refl; small = omega arith }
