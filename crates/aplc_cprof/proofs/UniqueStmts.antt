-- A text is that of one statement at most, and of one list of statements up to a brace.
use Rattle.std.proofs.Common.{◌≡◌, ◌∙◌, ap, ap₂, sym, refl, subst, ℕ, ◌^◌, List, [], ◌∷◌, ◌++◌, append_assoc, codes, decimal, map, Some, None, Bool, false, ◌&&◌, not, IsTrue, cond, nat_eq, get_or, arith}
use Rattle.std.proofs.lemmas.Bool.Decides.{nat_tests}
use Rattle.std.proofs.lemmas.List.{append_cancel_left}
use Rattle.std.specs.Fmt.{signed_decimal}
use Rattle.aplc_scalar.specs.declared.kind.FaultKind.{FaultKind}
use Rattle.aplc_scalar.specs.declared.kind.FaultKind.TheVariants as fault
use Rattle.aplc_cprof.specs.declared.syntax.Int.{Int}
use Rattle.aplc_cprof.specs.declared.syntax.Int.TheVariants as int
use Rattle.aplc_cprof.specs.declared.syntax.Buf.{Buf}
use Rattle.aplc_cprof.specs.declared.syntax.Buf.TheVariants as buf
use Rattle.aplc_cprof.specs.declared.syntax.Checked.{Checked}
use Rattle.aplc_cprof.specs.declared.syntax.Checked.TheVariants as checked
use Rattle.aplc_cprof.specs.declared.syntax.Arm.{Arm, out-Arm, roll-Arm, roll-out-Arm, map-Arm, fold-roll-Arm}
use Rattle.aplc_cprof.specs.declared.syntax.CStmt.{CStmt, out-CStmt, roll-CStmt, roll-out-CStmt, map-CStmt, fold-roll-CStmt, ind-CStmt}
use Rattle.aplc_cprof.specs.declared.syntax.CStmt.TheOpen.{CStmt-F, Arm-F}
use Rattle.aplc_cprof.specs.Text.{expr_text, int_name, buf_name, checked_text, fault_number, stmt_step, arm_step, stmt_text, stmts_text, arm_text, arms_text}
use Rattle.aplc_cprof.proofs.Plain.{is_word, is_index, is_plain_int, is_plain_buf, is_quoteless, all_true, is_plain_expr, plain_stmt_step, plain_arm_step, is_plain_stmt, is_plain_arm}
use Rattle.aplc_cprof.proofs.UniqueNumbers.{is_digit, NoDigit, then_fixed, indexes, words, both, lt_of, clash, decimal_first, skip, skip_index}
use Rattle.aplc_cprof.proofs.UniqueExprs.{apart, ints, bufs, exprs, begins, buf_begins, expr_begins}

-- ---- Checked operators, kinds of faults, and names

abbrev checked_at : List ℕ → Checked
checked_at (a ∷ b ∷ c ∷ d ∷ s) = cond (nat_eq d 97) checked.Add (cond (nat_eq d 115) checked.Sub checked.Mul)
checked_at s = checked.Mul

checked_at_text : (c : Checked) (k : List ℕ) → checked_at (checked_text c ++ k) ≡ c
checked_at_text checked.Add k = refl
checked_at_text checked.Sub k = refl
checked_at_text checked.Mul k = refl

checked_only : (c d : Checked) (k m : List ℕ) → checked_text c ++ k ≡ checked_text d ++ m → (c ≡ d) × (k ≡ m)
checked_only c d k m e =
    let same : c ≡ d = sym (checked_at_text c k) ∙ ap checked_at e ∙ checked_at_text d m in
    (same, append_cancel_left (checked_text d) k m (ap (λ x. checked_text x ++ k) (sym same) ∙ e))

checked_no_digit : (c : Checked) (k : List ℕ) → NoDigit (checked_text c ++ k)
checked_no_digit checked.Add k = refl
checked_no_digit checked.Sub k = refl
checked_no_digit checked.Mul k = refl

abbrev fault_of : ℕ → FaultKind
fault_of n =
    cond (nat_eq n 0) fault.Domain (cond (nat_eq n 1) fault.Index (cond (nat_eq n 2) fault.Length (cond (nat_eq n 3) fault.Limit
    (cond (nat_eq n 4) fault.Rank (cond (nat_eq n 5) fault.Value fault.Input)))))

fault_of_number : (k : FaultKind) → fault_of (fault_number k) ≡ k
fault_of_number fault.Domain = refl
fault_of_number fault.Index = refl
fault_of_number fault.Length = refl
fault_of_number fault.Limit = refl
fault_of_number fault.Rank = refl
fault_of_number fault.Value = refl
fault_of_number fault.Input = refl

fault_index : (k : FaultKind) → IsTrue (is_index (fault_number k))
fault_index fault.Domain = refl
fault_index fault.Index = refl
fault_index fault.Length = refl
fault_index fault.Limit = refl
fault_index fault.Rank = refl
fault_index fault.Value = refl
fault_index fault.Input = refl

no_quote : (c : ℕ) (cs : List ℕ) (k m : List ℕ) → IsTrue (is_quoteless (c ∷ cs)) → c ∷ k ≡ 34 ∷ m → ⊥
no_quote c cs k m h e = let q : c ≡ 34 = cc in let f = (both (not (nat_eq c 34)) (is_quoteless cs) h).0 in grind (arith, nat_tests)

quoted_only : (u v k m : List ℕ) → IsTrue (is_quoteless u) → IsTrue (is_quoteless v) → u ++ (34 ∷ k) ≡ v ++ (34 ∷ m) → (u ≡ v) × (k ≡ m)
quoted_only [] [] k m hu hv e = (refl, append_cancel_left (34 ∷ []) k m e)
quoted_only [] (d ∷ v) k m hu hv e = absurd (no_quote d v (v ++ (34 ∷ m)) k hv (sym e))
quoted_only (c ∷ u) [] k m hu hv e = absurd (no_quote c u (u ++ (34 ∷ k)) m hu e)
quoted_only (c ∷ u) (d ∷ v) k m hu hv e =
    let h : c ≡ d = cc in let t : u ++ (34 ∷ k) ≡ v ++ (34 ∷ m) = cc in
    let r = quoted_only u v k m (both (not (nat_eq c 34)) (is_quoteless u) hu).1 (both (not (nat_eq d 34)) (is_quoteless v) hv).1 t in
    (cc (h, r.0), r.1)

-- ---- The text of each form, and what follows it

abbrev level_written : CStmt-F CStmt Arm → List ℕ → List ℕ
level_written (CStmt-F.Set x e) k = int_name x ++ (codes " = " ++ (expr_text e ++ (codes ";\n" ++ k)))
level_written (CStmt-F.SetCell p e f) k = buf_name p ++ (codes "[" ++ (expr_text e ++ (codes "] = " ++ (expr_text f ++ (codes ";\n" ++ k)))))
level_written (CStmt-F.SetBuf p None) k = buf_name p ++ (codes " = 0;\n" ++ k)
level_written (CStmt-F.SetBuf p (Some q)) k = buf_name p ++ (codes " = " ++ (buf_name q ++ (codes ";\n" ++ k)))
level_written (CStmt-F.Cells p e) k = buf_name p ++ (codes " = cells(" ++ (expr_text e ++ (codes ");\n" ++ k)))
level_written (CStmt-F.Free p) k = codes "drop(" ++ (buf_name p ++ (codes ");\n" ++ k))
level_written (CStmt-F.Check x c e f) k = int_name x ++ (checked_text c ++ (expr_text e ++ (codes ", " ++ (expr_text f ++ (codes ");\n" ++ k)))))
level_written (CStmt-F.Width x e) k = int_name x ++ (codes " = width(" ++ (expr_text e ++ (codes ");\n" ++ k)))
level_written (CStmt-F.PutNum e f) k = codes "put_num(" ++ (expr_text e ++ (codes ", " ++ (expr_text f ++ (codes ");\n" ++ k))))
level_written (CStmt-F.PutChar e) k = codes "put_char(" ++ (expr_text e ++ (codes ");\n" ++ k))
level_written (CStmt-F.ReadText p) k = buf_name p ++ (codes " = read_text();\n" ++ k)
level_written (CStmt-F.ReadNums p) k = buf_name p ++ (codes " = read_nums();\n" ++ k)
level_written (CStmt-F.ReadCount x) k = int_name x ++ (codes " = read_n;\n" ++ k)
level_written (CStmt-F.At name n) k = codes "at(\"" ++ (name ++ (codes "\", " ++ (signed_decimal n ++ (codes ");\n" ++ k))))
level_written CStmt-F.Enter k = codes "enter();\n" ++ k
level_written CStmt-F.Leave k = codes "leave();\n" ++ k
level_written (CStmt-F.Fault i) k = codes "fault(" ++ (decimal (fault_number i) ++ (codes ");\n" ++ k))
level_written (CStmt-F.Call n) k = codes "f" ++ (decimal n ++ (codes "();\n" ++ k))
level_written CStmt-F.Return k = codes "return;\n" ++ k
level_written (CStmt-F.If e a None) k = codes "if (" ++ (expr_text e ++ (codes ") {\n" ++ (stmts_text a ++ (codes "}\n" ++ k))))
level_written (CStmt-F.If e a (Some b)) k = codes "if (" ++ (expr_text e ++ (codes ") {\n" ++ (stmts_text a ++ (codes "} else {\n" ++ (stmts_text b ++ (codes "}\n" ++ k))))))
level_written (CStmt-F.While e a) k = codes "while (" ++ (expr_text e ++ (codes ") {\n" ++ (stmts_text a ++ (codes "}\n" ++ k))))
level_written (CStmt-F.Switch x arms d) k = codes "switch (" ++ (int_name x ++ (codes ") {\n" ++ (arms_text arms ++ (codes "default: {\n" ++ (stmts_text d ++ (codes "} break;\n}\n" ++ k))))))

-- texts grouped to the right
two : (a b k : List ℕ) → (a ++ b) ++ k ≡ a ++ (b ++ k)
two a b k = append_assoc a b k

three : (a b c k : List ℕ) → (a ++ b ++ c) ++ k ≡ a ++ (b ++ (c ++ k))
three a b c k = simp append_assoc

four : (a b c d k : List ℕ) → (a ++ b ++ c ++ d) ++ k ≡ a ++ (b ++ (c ++ (d ++ k)))
four a b c d k = simp append_assoc

four_in : (a b c d k : List ℕ) → (a ++ (b ++ c ++ d)) ++ k ≡ a ++ (b ++ (c ++ (d ++ k)))
four_in a b c d k = simp append_assoc

five : (a b c d e k : List ℕ) → (a ++ b ++ c ++ d ++ e) ++ k ≡ a ++ (b ++ (c ++ (d ++ (e ++ k))))
five a b c d e k = simp append_assoc

five_in : (a b c d e k : List ℕ) → (a ++ b ++ c ++ d ++ [] ++ e) ++ k ≡ a ++ (b ++ (c ++ (d ++ (e ++ k))))
five_in a b c d e k = simp append_assoc

six : (a b c d e f k : List ℕ) → (a ++ b ++ c ++ d ++ e ++ f) ++ k ≡ a ++ (b ++ (c ++ (d ++ (e ++ (f ++ k)))))
six a b c d e f k = simp append_assoc

seven : (a b c d e f g k : List ℕ) → (a ++ b ++ c ++ d ++ e ++ f ++ g) ++ k ≡ a ++ (b ++ (c ++ (d ++ (e ++ (f ++ (g ++ k))))))
seven a b c d e f g k = simp append_assoc

seven_in : (a b c d e f g k : List ℕ) → (a ++ b ++ c ++ d ++ (e ++ f) ++ g) ++ k ≡ a ++ (b ++ (c ++ (d ++ (e ++ (f ++ (g ++ k))))))
seven_in a b c d e f g k = simp append_assoc

-- one level's text is what is written
level_is : (l : CStmt-F CStmt Arm) (k : List ℕ) → stmt_step (map-CStmt CStmt Arm (List ℕ) (List ℕ) stmt_text arm_text l) ++ k ≡ level_written l k
level_is (CStmt-F.Set x e) k = four (int_name x) (codes " = ") (expr_text e) (codes ";\n") k
level_is (CStmt-F.SetCell p e f) k = six (buf_name p) (codes "[") (expr_text e) (codes "] = ") (expr_text f) (codes ";\n") k
level_is (CStmt-F.SetBuf p None) k = two (buf_name p) (codes " = 0;\n") k
level_is (CStmt-F.SetBuf p (Some q)) k = four_in (buf_name p) (codes " = ") (buf_name q) (codes ";\n") k
level_is (CStmt-F.Cells p e) k = four (buf_name p) (codes " = cells(") (expr_text e) (codes ");\n") k
level_is (CStmt-F.Free p) k = three (codes "drop(") (buf_name p) (codes ");\n") k
level_is (CStmt-F.Check x c e f) k = six (int_name x) (checked_text c) (expr_text e) (codes ", ") (expr_text f) (codes ");\n") k
level_is (CStmt-F.Width x e) k = four (int_name x) (codes " = width(") (expr_text e) (codes ");\n") k
level_is (CStmt-F.PutNum e f) k = five (codes "put_num(") (expr_text e) (codes ", ") (expr_text f) (codes ");\n") k
level_is (CStmt-F.PutChar e) k = three (codes "put_char(") (expr_text e) (codes ");\n") k
level_is (CStmt-F.ReadText p) k = two (buf_name p) (codes " = read_text();\n") k
level_is (CStmt-F.ReadNums p) k = two (buf_name p) (codes " = read_nums();\n") k
level_is (CStmt-F.ReadCount x) k = two (int_name x) (codes " = read_n;\n") k
level_is (CStmt-F.At name n) k = five (codes "at(\"") name (codes "\", ") (signed_decimal n) (codes ");\n") k
level_is CStmt-F.Enter k = refl
level_is CStmt-F.Leave k = refl
level_is (CStmt-F.Fault i) k = three (codes "fault(") (decimal (fault_number i)) (codes ");\n") k
level_is (CStmt-F.Call n) k = three (codes "f") (decimal n) (codes "();\n") k
level_is CStmt-F.Return k = refl
level_is (CStmt-F.If e a None) k = five_in (codes "if (") (expr_text e) (codes ") {\n") (stmts_text a) (codes "}\n") k
level_is (CStmt-F.If e a (Some b)) k = seven_in (codes "if (") (expr_text e) (codes ") {\n") (stmts_text a) (codes "} else {\n") (stmts_text b) (codes "}\n") k
level_is (CStmt-F.While e a) k = five (codes "while (") (expr_text e) (codes ") {\n") (stmts_text a) (codes "}\n") k
level_is (CStmt-F.Switch x arms d) k = seven (codes "switch (") (int_name x) (codes ") {\n") (arms_text arms) (codes "default: {\n") (stmts_text d) (codes "} break;\n}\n") k

text_is : (l : CStmt-F CStmt Arm) (k : List ℕ) → stmt_text (roll-CStmt l) ++ k ≡ level_written l k
text_is l k = ap (λ t. t ++ k) (fold-roll-CStmt (List ℕ) (List ℕ) stmt_step arm_step l) ∙ level_is l k

-- ---- Which form a text is of

-- where a word follows the equals sign, and no expression
abbrev worded : List ℕ → ℕ
worded s = cond (nat_eq (get_or s 0 0) 119) 2 (cond (nat_eq (get_or s 0 0) 114) 3 1)

-- behind a whole variable's name
abbrev int_kind : List ℕ → ℕ
int_kind (a ∷ b ∷ c ∷ s) = cond (nat_eq (begins s) 0) (worded s) 0
int_kind s = 0

-- behind a buffer's name
abbrev buf_kind : List ℕ → ℕ
buf_kind s =
    cond (nat_eq (get_or s 0 0) 91) 4 (cond (nat_eq (get_or s 3 0) 48) 5 (cond (nat_eq (get_or s 3 0) 99) 7
    (cond (nat_eq (get_or s 3 0) 114) (cond (nat_eq (get_or s 8 0) 116) 8 9) 5)))

-- behind any other first byte
abbrev leaf_kind : ℕ → List ℕ → ℕ
leaf_kind c s =
    cond (nat_eq c 100) 10 (cond (nat_eq c 112) (cond (nat_eq (get_or s 3 0) 110) 11 12) (cond (nat_eq c 97) 13 (cond (nat_eq c 102) (cond (is_digit (get_or s 0 0)) 15 14)
    (cond (nat_eq c 114) 16 (cond (nat_eq c 105) (cond (nat_eq (get_or s 0 0) 102) 17 21) (cond (nat_eq c 119) 18 (cond (nat_eq c 115) 19 (cond (nat_eq c 101) 22 (cond (nat_eq c 108) 23 20)))))))))

-- the form that a text begins, by a number; 20 where there is none, and 21 for a declaration
abbrev pub kind_at : List ℕ → ℕ
kind_at [] = 20
kind_at (c ∷ s) =
    cond (nat_eq c 118) (int_kind (skip s)) (cond (nat_eq c 103) (int_kind (skip s)) (cond (nat_eq c 98) (buf_kind (skip s)) (cond (nat_eq c 104) (buf_kind (skip s)) (leaf_kind c s))))

abbrev kind : CStmt-F CStmt Arm → ℕ
kind (CStmt-F.Set x e) = 0
kind (CStmt-F.SetCell p e f) = 4
kind (CStmt-F.SetBuf p o) = 5
kind (CStmt-F.Cells p e) = 7
kind (CStmt-F.Free p) = 10
kind (CStmt-F.Check x c e f) = 1
kind (CStmt-F.Width x e) = 2
kind (CStmt-F.PutNum e f) = 11
kind (CStmt-F.PutChar e) = 12
kind (CStmt-F.ReadText p) = 8
kind (CStmt-F.ReadNums p) = 9
kind (CStmt-F.ReadCount x) = 3
kind (CStmt-F.At name n) = 13
kind CStmt-F.Enter = 22
kind CStmt-F.Leave = 23
kind (CStmt-F.Fault i) = 14
kind (CStmt-F.Call n) = 15
kind CStmt-F.Return = 16
kind (CStmt-F.If e a o) = 17
kind (CStmt-F.While e a) = 18
kind (CStmt-F.Switch x arms d) = 19

-- no form is a brace or a declaration
kind_other : (l : CStmt-F CStmt Arm) → (nat_eq (kind l) 20 ≡ false) × (nat_eq (kind l) 21 ≡ false)
kind_other (CStmt-F.Set x e) = (refl, refl)
kind_other (CStmt-F.SetCell p e f) = (refl, refl)
kind_other (CStmt-F.SetBuf p o) = (refl, refl)
kind_other (CStmt-F.Cells p e) = (refl, refl)
kind_other (CStmt-F.Free p) = (refl, refl)
kind_other (CStmt-F.Check x c e f) = (refl, refl)
kind_other (CStmt-F.Width x e) = (refl, refl)
kind_other (CStmt-F.PutNum e f) = (refl, refl)
kind_other (CStmt-F.PutChar e) = (refl, refl)
kind_other (CStmt-F.ReadText p) = (refl, refl)
kind_other (CStmt-F.ReadNums p) = (refl, refl)
kind_other (CStmt-F.ReadCount x) = (refl, refl)
kind_other (CStmt-F.At name n) = (refl, refl)
kind_other CStmt-F.Enter = (refl, refl)
kind_other CStmt-F.Leave = (refl, refl)
kind_other (CStmt-F.Fault i) = (refl, refl)
kind_other (CStmt-F.Call n) = (refl, refl)
kind_other CStmt-F.Return = (refl, refl)
kind_other (CStmt-F.If e a o) = (refl, refl)
kind_other (CStmt-F.While e a) = (refl, refl)
kind_other (CStmt-F.Switch x arms d) = (refl, refl)

kind_int : (x : Int) (k : List ℕ) → IsTrue (is_plain_int x) → NoDigit k → kind_at (int_name x ++ k) ≡ int_kind k
unfolding int_name
kind_int (int.Local n) k h nk = ap int_kind (skip_index n k h nk)
kind_int (int.Global n) k h nk = ap int_kind (skip_index n k h nk)

kind_buf : (x : Buf) (k : List ℕ) → IsTrue (is_plain_buf x) → NoDigit k → kind_at (buf_name x ++ k) ≡ buf_kind k
unfolding buf_name
kind_buf (buf.Local n) k h nk = ap buf_kind (skip_index n k h nk)
kind_buf (buf.Global n) k h nk = ap buf_kind (skip_index n k h nk)

kind_checked : (c : Checked) (k : List ℕ) → int_kind (checked_text c ++ k) ≡ 1
kind_checked checked.Add k = refl
kind_checked checked.Sub k = refl
kind_checked checked.Mul k = refl

kind_source : (q : Buf) (k : List ℕ) → buf_kind (codes " = " ++ (buf_name q ++ k)) ≡ 5
unfolding buf_name
kind_source (buf.Local n) k = refl
kind_source (buf.Global n) k = refl

-- what is plain, one level down
abbrev Good : CStmt-F CStmt Arm → Type 0
Good l = IsTrue (plain_stmt_step (map-CStmt CStmt Arm Bool Bool is_plain_stmt is_plain_arm l))

kind_is : (l : CStmt-F CStmt Arm) → Good l → (k : List ℕ) → kind_at (level_written l k) ≡ kind l
kind_is (CStmt-F.Set x e) h k = let h0 = both (is_plain_int x) (is_plain_expr e) h in kind_int x _ h0.0 refl ∙ ap (λ b. cond b (worded (expr_text e ++ (codes ";\n" ++ k))) 0) (expr_begins e h0.1 (codes ";\n" ++ k))
kind_is (CStmt-F.SetCell p e f) h k = let h0 = both (is_plain_buf p) (is_plain_expr e && is_plain_expr f) h in kind_buf p _ h0.0 refl
kind_is (CStmt-F.SetBuf p None) h k = kind_buf p _ h refl
kind_is (CStmt-F.SetBuf p (Some q)) h k = let h0 = both (is_plain_buf p) (is_plain_buf q) h in kind_buf p _ h0.0 refl ∙ kind_source q _
kind_is (CStmt-F.Cells p e) h k = let h0 = both (is_plain_buf p) (is_plain_expr e) h in kind_buf p _ h0.0 refl
kind_is (CStmt-F.Free p) h k = refl
kind_is (CStmt-F.Check x c e f) h k = let h0 = both (is_plain_int x) (is_plain_expr e && is_plain_expr f) h in kind_int x _ h0.0 (checked_no_digit c _) ∙ kind_checked c _
kind_is (CStmt-F.Width x e) h k = let h0 = both (is_plain_int x) (is_plain_expr e) h in kind_int x _ h0.0 refl
kind_is (CStmt-F.PutNum e f) h k = refl
kind_is (CStmt-F.PutChar e) h k = refl
kind_is (CStmt-F.ReadText p) h k = kind_buf p _ h refl
kind_is (CStmt-F.ReadNums p) h k = kind_buf p _ h refl
kind_is (CStmt-F.ReadCount x) h k = kind_int x _ h refl
kind_is (CStmt-F.At name n) h k = refl
kind_is CStmt-F.Enter h k = refl
kind_is CStmt-F.Leave h k = refl
kind_is (CStmt-F.Fault i) h k = refl
kind_is (CStmt-F.Call n) h k = let l = lt_of n (2 ^ 32) h in let d = decimal_first n (codes "();\n" ++ k) (omega (arith, l)) in ap (λ s. cond (is_digit (get_or s 0 0)) 15 14) d.1.1.0 ∙ ap (λ b. cond b 15 14) d.1.1.1
kind_is CStmt-F.Return h k = refl
kind_is (CStmt-F.If e a None) h k = refl
kind_is (CStmt-F.If e a (Some b)) h k = refl
kind_is (CStmt-F.While e a) h k = refl
kind_is (CStmt-F.Switch x arms d) h k = refl

-- a buffer's name is not 0
no_zero : (q : Buf) (k m : List ℕ) → codes " = 0;\n" ++ k ≡ codes " = " ++ (buf_name q ++ m) → ⊥
no_zero q k m e = apart 1 4 refl (ap begins (append_cancel_left (codes " = ") _ _ e) ∙ buf_begins q m)

-- ---- One level

-- the law for a statement, and for an arm
abbrev OnlyStmt : CStmt → Type 0
OnlyStmt s = IsTrue (is_plain_stmt s) → (t : CStmt) → IsTrue (is_plain_stmt t) → (k m : List ℕ) → stmt_text s ++ k ≡ stmt_text t ++ m → (s ≡ t) × (k ≡ m)

abbrev OnlyArm : Arm → Type 0
OnlyArm a = IsTrue (is_plain_arm a) → (b : Arm) → IsTrue (is_plain_arm b) → (k m : List ℕ) → arm_text a ++ k ≡ arm_text b ++ m → (a ≡ b) × (k ≡ m)

abbrev SuchStmt : Type 0
SuchStmt = (s : CStmt) × OnlyStmt s

abbrev SuchArm : Type 0
SuchArm = (a : Arm) × OnlyArm a

-- the level itself, without the law for its parts
abbrev base : CStmt-F SuchStmt SuchArm → CStmt-F CStmt Arm
base = map-CStmt SuchStmt SuchArm CStmt Arm (λ e. e.0) (λ e. e.0)

-- no statement begins with a brace or a declaration
pub stmt_kind : (s : CStmt) → IsTrue (is_plain_stmt s) → (k : List ℕ) → (n : ℕ) × ((kind_at (stmt_text s ++ k) ≡ n) × ((nat_eq n 20 ≡ false) × (nat_eq n 21 ≡ false)))
stmt_kind s h k =
    let l = out-CStmt s in
    let g : Good l = subst IsTrue (ap is_plain_stmt (sym (roll-out-CStmt s)) ∙ fold-roll-CStmt Bool Bool plain_stmt_step plain_arm_step l) h in
    (kind l, (ap (λ x. kind_at (stmt_text x ++ k)) (sym (roll-out-CStmt s)) ∙ ap kind_at (text_is l k) ∙ kind_is l g k, kind_other l))

no_stmt : (s : CStmt) → IsTrue (is_plain_stmt s) → (k m : List ℕ) → kind_at m ≡ 20 → stmt_text s ++ k ≡ m → ⊥
no_stmt s h k m b e = let r = stmt_kind s h k in apart r.0 20 r.1.1.0 (sym r.1.0 ∙ ap kind_at e ∙ b)

-- a list of statements up to a brace, and of arms up to the default
all_only : (ys : List SuchStmt) (ts : List CStmt) → IsTrue (all_true (map is_plain_stmt (map (λ e. e.0) ys))) → IsTrue (all_true (map is_plain_stmt ts)) → (k m : List ℕ) → kind_at k ≡ 20 → kind_at m ≡ 20
    → stmts_text (map (λ e. e.0) ys) ++ k ≡ stmts_text ts ++ m → (map (λ e. e.0) ys ≡ ts) × (k ≡ m)
all_only [] [] hy ht k m bk bm e = (refl, e)
all_only [] (t ∷ ts) hy ht k m bk bm e =
    let g = both (is_plain_stmt t) (all_true (map is_plain_stmt ts)) ht in
    absurd (no_stmt t g.0 (stmts_text ts ++ m) k bk (sym (e ∙ append_assoc (stmt_text t) (stmts_text ts) m)))
all_only (y ∷ ys) [] hy ht k m bk bm e =
    let f = both (is_plain_stmt y.0) (all_true (map is_plain_stmt (map (λ e. e.0) ys))) hy in
    absurd (no_stmt y.0 f.0 (stmts_text (map (λ e. e.0) ys) ++ k) m bm (sym (append_assoc (stmt_text y.0) (stmts_text (map (λ e. e.0) ys)) k) ∙ e))
all_only (y ∷ ys) (t ∷ ts) hy ht k m bk bm e =
    let f = both (is_plain_stmt y.0) (all_true (map is_plain_stmt (map (λ e. e.0) ys))) hy in
    let g = both (is_plain_stmt t) (all_true (map is_plain_stmt ts)) ht in
    let r = y.1 f.0 t g.0 (stmts_text (map (λ e. e.0) ys) ++ k) (stmts_text ts ++ m)
    (sym (append_assoc (stmt_text y.0) (stmts_text (map (λ e. e.0) ys)) k) ∙ e ∙ append_assoc (stmt_text t) (stmts_text ts) m) in
    let q = all_only ys ts f.1 g.1 k m bk bm r.1 in
    (ap₂ (λ a b. a ∷ b) r.0 q.0, q.1)

-- the text of an arm, and what follows it
abbrev arm_written : Arm-F CStmt Arm → List ℕ → List ℕ
arm_written a k = codes "case " ++ (signed_decimal a.value ++ (codes ": {\n" ++ (stmts_text a.body ++ (codes "} break;\n" ++ k))))

arm_is : (a : Arm-F CStmt Arm) (k : List ℕ) → arm_text (roll-Arm a) ++ k ≡ arm_written a k
arm_is a k =
    ap (λ t. t ++ k) (fold-roll-Arm (List ℕ) (List ℕ) stmt_step arm_step a)
    ∙ five (codes "case ") (signed_decimal a.value) (codes ": {\n") (stmts_text a.body) (codes "} break;\n") k

no_arm : (a : Arm) (k m : List ℕ) → arm_text a ++ k ≡ codes "default: {\n" ++ m → ⊥
no_arm a k m e =
    clash 99 100 _ _ refl (sym (ap (λ x. arm_text x ++ k) (sym (roll-out-Arm a)) ∙ arm_is (out-Arm a) k) ∙ e)

arms_only : (ys : List SuchArm) (ts : List Arm) → IsTrue (all_true (map is_plain_arm (map (λ e. e.0) ys))) → IsTrue (all_true (map is_plain_arm ts)) → (k m : List ℕ)
    → arms_text (map (λ e. e.0) ys) ++ (codes "default: {\n" ++ k) ≡ arms_text ts ++ (codes "default: {\n" ++ m) → (map (λ e. e.0) ys ≡ ts) × (k ≡ m)
arms_only [] [] hy ht k m e = (refl, append_cancel_left (codes "default: {\n") k m e)
arms_only [] (t ∷ ts) hy ht k m e =
    absurd (no_arm t (arms_text ts ++ (codes "default: {\n" ++ m)) k (sym (e ∙ append_assoc (arm_text t) (arms_text ts) (codes "default: {\n" ++ m))))
arms_only (y ∷ ys) [] hy ht k m e =
    absurd (no_arm y.0 (arms_text (map (λ e. e.0) ys) ++ (codes "default: {\n" ++ k)) m (sym (append_assoc (arm_text y.0) (arms_text (map (λ e. e.0) ys)) (codes "default: {\n" ++ k)) ∙ e))
arms_only (y ∷ ys) (t ∷ ts) hy ht k m e =
    let f = both (is_plain_arm y.0) (all_true (map is_plain_arm (map (λ e. e.0) ys))) hy in
    let g = both (is_plain_arm t) (all_true (map is_plain_arm ts)) ht in
    let r = y.1 f.0 t g.0 (arms_text (map (λ e. e.0) ys) ++ (codes "default: {\n" ++ k)) (arms_text ts ++ (codes "default: {\n" ++ m))
    (sym (append_assoc (arm_text y.0) (arms_text (map (λ e. e.0) ys)) (codes "default: {\n" ++ k)) ∙ e ∙ append_assoc (arm_text t) (arms_text ts) (codes "default: {\n" ++ m)) in
    let q = arms_only ys ts f.1 g.1 k m r.1 in
    (ap₂ (λ a b. a ∷ b) r.0 q.0, q.1)

level_only : (y : CStmt-F SuchStmt SuchArm) (l : CStmt-F CStmt Arm) → Good (base y) → Good l → (k m : List ℕ) → level_written (base y) k ≡ level_written l m → (roll-CStmt (base y) ≡ roll-CStmt l) × (k ≡ m)
level_only (CStmt-F.Set x e) (CStmt-F.Set x' e') h g k m z =
    let h0 = both (is_plain_int x) (is_plain_expr e) h in
    let g0 = both (is_plain_int x') (is_plain_expr e') g in
    let r0 = then_fixed ints (codes " = ") (λ k. refl) x x' h0.0 g0.0 _ _ z in
    let r1 = then_fixed exprs (codes ";\n") (λ k. refl) e e' h0.1 g0.1 _ _ r0.1 in
    (ap₂ (λ u v. roll-CStmt (CStmt-F.Set u v)) r0.0 r1.0, r1.1)
level_only (CStmt-F.SetCell p e f) (CStmt-F.SetCell p' e' f') h g k m z =
    let h0 = both (is_plain_buf p) (is_plain_expr e && is_plain_expr f) h in
    let h1 = both (is_plain_expr e) (is_plain_expr f) h0.1 in
    let g0 = both (is_plain_buf p') (is_plain_expr e' && is_plain_expr f') g in
    let g1 = both (is_plain_expr e') (is_plain_expr f') g0.1 in
    let r0 = then_fixed bufs (codes "[") (λ k. refl) p p' h0.0 g0.0 _ _ z in
    let r1 = then_fixed exprs (codes "] = ") (λ k. refl) e e' h1.0 g1.0 _ _ r0.1 in
    let r2 = then_fixed exprs (codes ";\n") (λ k. refl) f f' h1.1 g1.1 _ _ r1.1 in
    (ap₂ (λ u v. roll-CStmt (CStmt-F.SetCell u v f)) r0.0 r1.0 ∙ ap (λ u. roll-CStmt (CStmt-F.SetCell p' e' u)) r2.0, r2.1)
level_only (CStmt-F.SetBuf p None) (CStmt-F.SetBuf p' None) h g k m z =
    let r0 = then_fixed bufs (codes " = 0;\n") (λ k. refl) p p' h g _ _ z in
    (ap (λ u. roll-CStmt (CStmt-F.SetBuf u None)) r0.0, r0.1)
level_only (CStmt-F.SetBuf p (Some q)) (CStmt-F.SetBuf p' (Some q')) h g k m z =
    let h0 = both (is_plain_buf p) (is_plain_buf q) h in
    let g0 = both (is_plain_buf p') (is_plain_buf q') g in
    let r0 = then_fixed bufs (codes " = ") (λ k. refl) p p' h0.0 g0.0 _ _ z in
    let r1 = then_fixed bufs (codes ";\n") (λ k. refl) q q' h0.1 g0.1 _ _ r0.1 in
    (ap₂ (λ u v. roll-CStmt (CStmt-F.SetBuf u (Some v))) r0.0 r1.0, r1.1)
level_only (CStmt-F.Cells p e) (CStmt-F.Cells p' e') h g k m z =
    let h0 = both (is_plain_buf p) (is_plain_expr e) h in
    let g0 = both (is_plain_buf p') (is_plain_expr e') g in
    let r0 = then_fixed bufs (codes " = cells(") (λ k. refl) p p' h0.0 g0.0 _ _ z in
    let r1 = then_fixed exprs (codes ");\n") (λ k. refl) e e' h0.1 g0.1 _ _ r0.1 in
    (ap₂ (λ u v. roll-CStmt (CStmt-F.Cells u v)) r0.0 r1.0, r1.1)
level_only (CStmt-F.Free p) (CStmt-F.Free p') h g k m z =
    let r0 = append_cancel_left (codes "drop(") _ _ z in
    let r1 = then_fixed bufs (codes ");\n") (λ k. refl) p p' h g _ _ r0 in
    (ap (λ u. roll-CStmt (CStmt-F.Free u)) r1.0, r1.1)
level_only (CStmt-F.Check x c e f) (CStmt-F.Check x' c' e' f') h g k m z =
    let h0 = both (is_plain_int x) (is_plain_expr e && is_plain_expr f) h in
    let h1 = both (is_plain_expr e) (is_plain_expr f) h0.1 in
    let g0 = both (is_plain_int x') (is_plain_expr e' && is_plain_expr f') g in
    let g1 = both (is_plain_expr e') (is_plain_expr f') g0.1 in
    let r0 = ints.only x x' h0.0 g0.0 _ _ (checked_no_digit c _) (checked_no_digit c' _) z in
    let r1 = checked_only c c' _ _ r0.1 in
    let r2 = then_fixed exprs (codes ", ") (λ k. refl) e e' h1.0 g1.0 _ _ r1.1 in
    let r3 = then_fixed exprs (codes ");\n") (λ k. refl) f f' h1.1 g1.1 _ _ r2.1 in
    (ap₂ (λ u v. roll-CStmt (CStmt-F.Check u v e f)) r0.0 r1.0 ∙ ap₂ (λ u v. roll-CStmt (CStmt-F.Check x' c' u v)) r2.0 r3.0, r3.1)
level_only (CStmt-F.Width x e) (CStmt-F.Width x' e') h g k m z =
    let h0 = both (is_plain_int x) (is_plain_expr e) h in
    let g0 = both (is_plain_int x') (is_plain_expr e') g in
    let r0 = then_fixed ints (codes " = width(") (λ k. refl) x x' h0.0 g0.0 _ _ z in
    let r1 = then_fixed exprs (codes ");\n") (λ k. refl) e e' h0.1 g0.1 _ _ r0.1 in
    (ap₂ (λ u v. roll-CStmt (CStmt-F.Width u v)) r0.0 r1.0, r1.1)
level_only (CStmt-F.PutNum e f) (CStmt-F.PutNum e' f') h g k m z =
    let h0 = both (is_plain_expr e) (is_plain_expr f) h in
    let g0 = both (is_plain_expr e') (is_plain_expr f') g in
    let r0 = append_cancel_left (codes "put_num(") _ _ z in
    let r1 = then_fixed exprs (codes ", ") (λ k. refl) e e' h0.0 g0.0 _ _ r0 in
    let r2 = then_fixed exprs (codes ");\n") (λ k. refl) f f' h0.1 g0.1 _ _ r1.1 in
    (ap₂ (λ u v. roll-CStmt (CStmt-F.PutNum u v)) r1.0 r2.0, r2.1)
level_only (CStmt-F.PutChar e) (CStmt-F.PutChar e') h g k m z =
    let r0 = append_cancel_left (codes "put_char(") _ _ z in
    let r1 = then_fixed exprs (codes ");\n") (λ k. refl) e e' h g _ _ r0 in
    (ap (λ u. roll-CStmt (CStmt-F.PutChar u)) r1.0, r1.1)
level_only (CStmt-F.ReadText p) (CStmt-F.ReadText p') h g k m z =
    let r0 = then_fixed bufs (codes " = read_text();\n") (λ k. refl) p p' h g _ _ z in
    (ap (λ u. roll-CStmt (CStmt-F.ReadText u)) r0.0, r0.1)
level_only (CStmt-F.ReadNums p) (CStmt-F.ReadNums p') h g k m z =
    let r0 = then_fixed bufs (codes " = read_nums();\n") (λ k. refl) p p' h g _ _ z in
    (ap (λ u. roll-CStmt (CStmt-F.ReadNums u)) r0.0, r0.1)
level_only (CStmt-F.ReadCount x) (CStmt-F.ReadCount x') h g k m z =
    let r0 = then_fixed ints (codes " = read_n;\n") (λ k. refl) x x' h g _ _ z in
    (ap (λ u. roll-CStmt (CStmt-F.ReadCount u)) r0.0, r0.1)
level_only (CStmt-F.At name n) (CStmt-F.At name' n') h g k m z =
    let h0 = both (is_quoteless name) (is_word n) h in
    let g0 = both (is_quoteless name') (is_word n') g in
    let r0 = append_cancel_left (codes "at(\"") _ _ z in
    let r1 = quoted_only name name' _ _ h0.0 g0.0 r0 in
    let r2 = append_cancel_left (codes ", ") _ _ r1.1 in
    let r3 = then_fixed words (codes ");\n") (λ k. refl) n n' h0.1 g0.1 _ _ r2 in
    (ap₂ (λ u v. roll-CStmt (CStmt-F.At u v)) r1.0 r3.0, r3.1)
level_only CStmt-F.Enter CStmt-F.Enter h g k m z =
    let r0 = append_cancel_left (codes "enter();\n") _ _ z in
    (refl, r0)
level_only CStmt-F.Leave CStmt-F.Leave h g k m z =
    let r0 = append_cancel_left (codes "leave();\n") _ _ z in
    (refl, r0)
level_only (CStmt-F.Fault i) (CStmt-F.Fault i') h g k m z =
    let r0 = append_cancel_left (codes "fault(") _ _ z in
    let r1 = then_fixed indexes (codes ");\n") (λ k. refl) (fault_number i) (fault_number i') (fault_index i) (fault_index i') _ _ r0 in
    (ap (λ u. roll-CStmt (CStmt-F.Fault u)) (sym (fault_of_number i) ∙ ap fault_of r1.0 ∙ fault_of_number i'), r1.1)
level_only (CStmt-F.Call n) (CStmt-F.Call n') h g k m z =
    let r0 = append_cancel_left (codes "f") _ _ z in
    let r1 = then_fixed indexes (codes "();\n") (λ k. refl) n n' h g _ _ r0 in
    (ap (λ u. roll-CStmt (CStmt-F.Call u)) r1.0, r1.1)
level_only CStmt-F.Return CStmt-F.Return h g k m z =
    let r0 = append_cancel_left (codes "return;\n") _ _ z in
    (refl, r0)
level_only (CStmt-F.If e a None) (CStmt-F.If e' a' None) h g k m z =
    let h0 = both (is_plain_expr e) (all_true (map is_plain_stmt (map (λ e. e.0) a))) h in
    let g0 = both (is_plain_expr e') (all_true (map is_plain_stmt a')) g in
    let r0 = append_cancel_left (codes "if (") _ _ z in
    let r1 = then_fixed exprs (codes ") {\n") (λ k. refl) e e' h0.0 g0.0 _ _ r0 in
    let r2 = all_only a a' h0.1 g0.1 _ _ refl refl r1.1 in
    let r3 = append_cancel_left (codes "}\n") _ _ r2.1 in
    (ap₂ (λ u v. roll-CStmt (CStmt-F.If u v None)) r1.0 r2.0, r3)
level_only (CStmt-F.If e a (Some b)) (CStmt-F.If e' a' (Some b')) h g k m z =
    let h0 = both (is_plain_expr e) (all_true (map is_plain_stmt (map (λ e. e.0) a)) && all_true (map is_plain_stmt (map (λ e. e.0) b))) h in
    let h1 = both (all_true (map is_plain_stmt (map (λ e. e.0) a))) (all_true (map is_plain_stmt (map (λ e. e.0) b))) h0.1 in
    let g0 = both (is_plain_expr e') (all_true (map is_plain_stmt a') && all_true (map is_plain_stmt b')) g in
    let g1 = both (all_true (map is_plain_stmt a')) (all_true (map is_plain_stmt b')) g0.1 in
    let r0 = append_cancel_left (codes "if (") _ _ z in
    let r1 = then_fixed exprs (codes ") {\n") (λ k. refl) e e' h0.0 g0.0 _ _ r0 in
    let r2 = all_only a a' h1.0 g1.0 _ _ refl refl r1.1 in
    let r3 = append_cancel_left (codes "} else {\n") _ _ r2.1 in
    let r4 = all_only b b' h1.1 g1.1 _ _ refl refl r3 in
    let r5 = append_cancel_left (codes "}\n") _ _ r4.1 in
    (ap₂ (λ u v. roll-CStmt (CStmt-F.If u v (Some (map (λ e. e.0) b)))) r1.0 r2.0 ∙ ap (λ u. roll-CStmt (CStmt-F.If e' a' (Some u))) r4.0, r5)
level_only (CStmt-F.While e a) (CStmt-F.While e' a') h g k m z =
    let h0 = both (is_plain_expr e) (all_true (map is_plain_stmt (map (λ e. e.0) a))) h in
    let g0 = both (is_plain_expr e') (all_true (map is_plain_stmt a')) g in
    let r0 = append_cancel_left (codes "while (") _ _ z in
    let r1 = then_fixed exprs (codes ") {\n") (λ k. refl) e e' h0.0 g0.0 _ _ r0 in
    let r2 = all_only a a' h0.1 g0.1 _ _ refl refl r1.1 in
    let r3 = append_cancel_left (codes "}\n") _ _ r2.1 in
    (ap₂ (λ u v. roll-CStmt (CStmt-F.While u v)) r1.0 r2.0, r3)
level_only (CStmt-F.Switch x arms d) (CStmt-F.Switch x' arms' d') h g k m z =
    let h0 = both (is_plain_int x) (all_true (map is_plain_arm (map (λ e. e.0) arms)) && all_true (map is_plain_stmt (map (λ e. e.0) d))) h in
    let h1 = both (all_true (map is_plain_arm (map (λ e. e.0) arms))) (all_true (map is_plain_stmt (map (λ e. e.0) d))) h0.1 in
    let g0 = both (is_plain_int x') (all_true (map is_plain_arm arms') && all_true (map is_plain_stmt d')) g in
    let g1 = both (all_true (map is_plain_arm arms')) (all_true (map is_plain_stmt d')) g0.1 in
    let r0 = append_cancel_left (codes "switch (") _ _ z in
    let r1 = then_fixed ints (codes ") {\n") (λ k. refl) x x' h0.0 g0.0 _ _ r0 in
    let r2 = arms_only arms arms' h1.0 g1.0 _ _ r1.1 in
    let r3 = all_only d d' h1.1 g1.1 _ _ refl refl r2.1 in
    let r4 = append_cancel_left (codes "} break;\n}\n") _ _ r3.1 in
    (ap₂ (λ u v. roll-CStmt (CStmt-F.Switch u v (map (λ e. e.0) d))) r1.0 r2.0 ∙ ap (λ u. roll-CStmt (CStmt-F.Switch x' arms' u)) r3.0, r4)
level_only (CStmt-F.SetBuf p None) (CStmt-F.SetBuf p' (Some q')) h g k m z =
    let g0 = both (is_plain_buf p') (is_plain_buf q') g in
    let r0 = bufs.only p p' h g0.0 _ _ refl refl z in
    absurd (no_zero q' _ _ r0.1)
level_only (CStmt-F.SetBuf p (Some q)) (CStmt-F.SetBuf p' None) h g k m z =
    let h0 = both (is_plain_buf p) (is_plain_buf q) h in
    let r0 = bufs.only p p' h0.0 g _ _ refl refl z in
    absurd (no_zero q _ _ (sym r0.1))
level_only (CStmt-F.If e a None) (CStmt-F.If e' a' (Some b')) h g k m z =
    let h0 = both (is_plain_expr e) (all_true (map is_plain_stmt (map (λ e. e.0) a))) h in
    let g0 = both (is_plain_expr e') (all_true (map is_plain_stmt a') && all_true (map is_plain_stmt b')) g in
    let g1 = both (all_true (map is_plain_stmt a')) (all_true (map is_plain_stmt b')) g0.1 in
    let r0 = append_cancel_left (codes "if (") _ _ z in
    let r1 = then_fixed exprs (codes ") {\n") (λ k. refl) e e' h0.0 g0.0 _ _ r0 in
    let r2 = all_only a a' h0.1 g1.0 _ _ refl refl r1.1 in
    absurd (clash 10 32 _ _ refl (append_cancel_left (codes "}") _ _ r2.1))
level_only (CStmt-F.If e a (Some b)) (CStmt-F.If e' a' None) h g k m z =
    let h0 = both (is_plain_expr e) (all_true (map is_plain_stmt (map (λ e. e.0) a)) && all_true (map is_plain_stmt (map (λ e. e.0) b))) h in
    let h1 = both (all_true (map is_plain_stmt (map (λ e. e.0) a))) (all_true (map is_plain_stmt (map (λ e. e.0) b))) h0.1 in
    let g0 = both (is_plain_expr e') (all_true (map is_plain_stmt a')) g in
    let r0 = append_cancel_left (codes "if (") _ _ z in
    let r1 = then_fixed exprs (codes ") {\n") (λ k. refl) e e' h0.0 g0.0 _ _ r0 in
    let r2 = all_only a a' h1.0 g0.1 _ _ refl refl r1.1 in
    absurd (clash 32 10 _ _ refl (append_cancel_left (codes "}") _ _ r2.1))
level_only y l h g k m z = absurd (apart (kind (base y)) (kind l) refl (sym (kind_is (base y) h k) ∙ ap kind_at z ∙ kind_is l g m))

-- ---- Every level

stmt_only : (y : CStmt-F SuchStmt SuchArm) → OnlyStmt (roll-CStmt (base y))
stmt_only y h t ht k m e =
    let l = out-CStmt t in
    let f : Good (base y) = subst IsTrue (fold-roll-CStmt Bool Bool plain_stmt_step plain_arm_step (base y)) h in
    let g : Good l = subst IsTrue (ap is_plain_stmt (sym (roll-out-CStmt t)) ∙ fold-roll-CStmt Bool Bool plain_stmt_step plain_arm_step l) ht in
    let r = level_only y l f g k m (sym (text_is (base y) k) ∙ e ∙ ap (λ x. stmt_text x ++ m) (sym (roll-out-CStmt t)) ∙ text_is l m) in
    (r.0 ∙ roll-out-CStmt t, r.1)

abbrev arm_base : Arm-F SuchStmt SuchArm → Arm-F CStmt Arm
arm_base = map-Arm SuchStmt SuchArm CStmt Arm (λ e. e.0) (λ e. e.0)

arm_same : (a b : Arm-F CStmt Arm) → a.value ≡ b.value → a.body ≡ b.body → a ≡ b
arm_same a b v c = λ j. record { value = v j; body = c j }

arm_only : (y : Arm-F SuchStmt SuchArm) → OnlyArm (roll-Arm (arm_base y))
arm_only y h t ht k m e =
    let a = arm_base y in let b = out-Arm t in
    let f = both (is_word a.value) (all_true (map is_plain_stmt a.body)) (subst IsTrue (fold-roll-Arm Bool Bool plain_stmt_step plain_arm_step a) h) in
    let g = both (is_word b.value) (all_true (map is_plain_stmt b.body)) (subst IsTrue (ap is_plain_arm (sym (roll-out-Arm t)) ∙ fold-roll-Arm Bool Bool plain_stmt_step plain_arm_step b) ht) in
    let q = append_cancel_left (codes "case ") _ _ (sym (arm_is a k) ∙ e ∙ ap (λ x. arm_text x ++ m) (sym (roll-out-Arm t)) ∙ arm_is b m) in
    let r = then_fixed words (codes ": {\n") (λ k. refl) a.value b.value f.0 g.0 _ _ q in
    let s = all_only y.body b.body f.1 g.1 (codes "} break;\n" ++ k) (codes "} break;\n" ++ m) refl refl r.1 in
    (ap roll-Arm (arm_same a b r.0 s.0) ∙ roll-out-Arm t, append_cancel_left (codes "} break;\n") k m s.1)

one : (s : CStmt) → OnlyStmt s
one = ind-CStmt OnlyStmt OnlyArm (λ x y q. subst (λ l. OnlyStmt (roll-CStmt l)) q (stmt_only y)) (λ x y q. subst (λ l. OnlyArm (roll-Arm l)) q (arm_only y))

such : List CStmt → List SuchStmt
such [] = []
such (s ∷ ss) = (s, one s) ∷ such ss

such_is : (ss : List CStmt) → map (λ e. e.0) (such ss) ≡ ss
unfolding such
such_is [] = refl
such_is (s ∷ ss) = ap (λ x. s ∷ x) (such_is ss)

pub block_only : (ss ts : List CStmt) → IsTrue (all_true (map is_plain_stmt ss)) → IsTrue (all_true (map is_plain_stmt ts)) → (k m : List ℕ) → kind_at k ≡ 20 → kind_at m ≡ 20
    → stmts_text ss ++ k ≡ stmts_text ts ++ m → (ss ≡ ts) × (k ≡ m)
block_only ss ts hs ht k m bk bm e =
    let q = such_is ss in
    let r = all_only (such ss) ts (subst (λ x. IsTrue (all_true (map is_plain_stmt x))) (sym q) hs) ht k m bk bm (ap (λ x. stmts_text x ++ k) q ∙ e) in
    (sym q ∙ r.0, r.1)

-- what follows a function's declarations is no declaration
pub block_kind : (ss : List CStmt) → IsTrue (all_true (map is_plain_stmt ss)) → (k : List ℕ) → kind_at k ≡ 20 → kind_at (stmts_text ss ++ k) ≡ 21 → ⊥
block_kind [] h k b e = apart 20 21 refl (sym b ∙ e)
block_kind (s ∷ ss) h k b e =
    let f = both (is_plain_stmt s) (all_true (map is_plain_stmt ss)) h in
    let r = stmt_kind s f.0 (stmts_text ss ++ k) in
    apart r.0 21 r.1.1.1 (sym r.1.0 ∙ ap kind_at (sym (append_assoc (stmt_text s) (stmts_text ss) k)) ∙ e)
