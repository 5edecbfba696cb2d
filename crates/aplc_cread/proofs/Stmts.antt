-- Statements, taken apart and put together.
use Rattle.std.proofs.Common.{◌≡◌, ◌∙◌, ap, ap₂, sym, refl, subst, ℕ, zero, suc, ◌<◌, ◌^◌, List, [], ◌++◌, append_assoc, codes, decimal, pos, negsuc, Option, Some, None, Bool, true, false, ◌&&◌, ◌||◌, IsTrue, nat_lt, arith, get_or, map}
use Rattle.std.proofs.lemmas.Bool.Decides.{nat_tests}
use Rattle.std.proofs.lemmas.List.{append-nil}
use Rattle.std.proofs.lemmas.Fmt.{decimal_digit}
use Rattle.aplc_scalar.specs.declared.kind.FaultKind.{FaultKind}
use Rattle.aplc_scalar.specs.declared.kind.FaultKind.TheVariants as fault
use Rattle.aplc_cprof.specs.declared.syntax.Int.{Int}
use Rattle.aplc_cprof.specs.declared.syntax.Int.TheVariants as int
use Rattle.aplc_cprof.specs.declared.syntax.Buf.{Buf}
use Rattle.aplc_cprof.specs.declared.syntax.Buf.TheVariants as buf
use Rattle.aplc_cprof.specs.declared.syntax.Checked.{Checked}
use Rattle.aplc_cprof.specs.declared.syntax.Checked.TheVariants as checked
use Rattle.aplc_cprof.specs.declared.syntax.CExpr.{CExpr}
use Rattle.aplc_cprof.specs.declared.syntax.Arm.{Arm}
use Rattle.aplc_cprof.specs.declared.syntax.CStmt.{CStmt, out-CStmt, roll-CStmt, roll-out-CStmt}
use Rattle.aplc_cprof.specs.declared.syntax.CStmt.TheVariants as st
use Rattle.aplc_cprof.specs.declared.syntax.CStmt.TheOpen.{CStmt-F}
use Rattle.aplc_cprof.specs.Text.{expr_text, int_name, buf_name, checked_text, fault_number, stmt_text, stmts_text, arms_text}
use Rattle.aplc_cprof.specs.WellFormed.{Scope, is_expr, is_int, is_buf, is_source, is_name, inside, rise, arms_fit, is_stmt, arm_test, are_stmts}
use Rattle.aplc_cprof.proofs.Equations.{text_Set, text_SetCell, text_SetBuf, text_Cells, text_Free, text_Check, text_Width, text_PutNum, text_PutChar, text_ReadText, text_ReadNums, text_ReadCount, text_At, text_Enter, text_Leave, text_Fault, text_Call, text_Return, text_If, text_While, text_Switch}
use Rattle.aplc_cprof.proofs.Forms.{is_Set, is_SetCell, is_SetBuf, is_Cells, is_Free, is_Check, is_Width, is_PutNum, is_PutChar, is_ReadText, is_ReadNums, is_ReadCount, is_At, is_Fault, is_Call, is_If, is_While, is_Switch}
use Rattle.aplc_cread.specs.Reading.{OneOf}
use Rattle.aplc_cread.specs.Exprs.{IsInner}
use Rattle.aplc_cread.specs.Stmts.{call_texts, five, Checks, CallBehind, AssignedBy, Assigned, buf_signs, two, source_texts, source_may, SourceBehind, StoredBehind, fault_texts, fault_at, CalledBy, IfBehind, WhileBehind, SwitchBehind, keywords, has_room, has_rooms, some_of, may, StmtBehind}
use Rattle.aplc_cread.proofs.Rules.{bind_at, map_at}
use Rattle.aplc_cread.proofs.Exprs.{both, and_both, lt_of, of_lt, inner_of, into_inner, name_v, name_g, name_b, name_h}

-- ---- Texts in pieces

pub g4 : (a b c d : List ℕ) → a ++ b ++ c ++ d ≡ a ++ (b ++ (c ++ d))
g4 a b c d = simp append_assoc

pub g5 : (a b c d e : List ℕ) → a ++ b ++ c ++ d ++ e ≡ a ++ (b ++ (c ++ (d ++ e)))
g5 a b c d e = simp append_assoc

pub g6 : (a b c d e f : List ℕ) → a ++ b ++ c ++ d ++ e ++ f ≡ a ++ (b ++ (c ++ (d ++ (e ++ f))))
g6 a b c d e f = simp append_assoc

pub g7 : (a b c d e f g : List ℕ) → a ++ b ++ c ++ d ++ e ++ f ++ g ≡ a ++ (b ++ (c ++ (d ++ (e ++ (f ++ g)))))
g7 a b c d e f g = simp append_assoc

pub if_parts : (i e t a c x : List ℕ) → i ++ ((e ++ t) ++ ((a ++ c) ++ x)) ≡ i ++ (e ++ (t ++ (a ++ (c ++ x))))
if_parts i e t a c x = simp append_assoc

pub else_left : (i e t a u d v : List ℕ) → i ++ e ++ t ++ a ++ (u ++ d) ++ v ≡ i ++ (e ++ (t ++ (a ++ (u ++ (d ++ v)))))
else_left i e t a u d v = simp append_assoc

-- ---- Tests

pub positive_of : (x i : ℕ) → x < i → nat_lt 0 i ≡ true
positive_of x i l = grind (arith, nat_tests)

pub or_left : (a b : Bool) → a ≡ true → (a || b) ≡ true
or_left true b h = refl
or_left false b h = absurd (cc h)

pub or_right : (a b : Bool) → b ≡ true → (a || b) ≡ true
or_right true b h = refl
or_right false b h = h

pub some_int : (sc : Scope) (x : Int) → IsTrue (is_int sc x) → some_of sc.ints sc.global_ints ≡ true
some_int sc (int.Local n) h = or_left _ _ (positive_of n sc.ints (lt_of n sc.ints h))
some_int sc (int.Global n) h = or_right _ _ (positive_of n sc.global_ints (lt_of n sc.global_ints h))

pub some_buf : (sc : Scope) (p : Buf) → IsTrue (is_buf sc p) → some_of sc.bufs sc.global_bufs ≡ true
some_buf sc (buf.Local n) h = or_left _ _ (positive_of n sc.bufs (lt_of n sc.bufs h))
some_buf sc (buf.Global n) h = or_right _ _ (positive_of n sc.global_bufs (lt_of n sc.global_bufs h))

pub room_of : (room r : Option ℕ) → IsInner room (Some r) → has_room room ≡ true
room_of None r e = refl
room_of (Some zero) r e = absurd (cc e)
room_of (Some (suc n)) r e = refl

pub rooms_of : (room r s : Option ℕ) → IsInner room (Some r) → IsInner r (Some s) → has_rooms room ≡ true
rooms_of None r s e f = refl
rooms_of (Some zero) r s e f = absurd (cc e)
rooms_of (Some (suc zero)) r s e f = let q : r ≡ Some 0 = cc in let g : IsInner (Some 0) (Some s) = subst (λ r. IsInner r (Some s)) q f in absurd (cc g)
rooms_of (Some (suc (suc n))) r s e f = of_lt 0 (suc n) (omega arith)

-- ---- Assignments

pub record IsAssigned (sc : Scope) (room : Option ℕ) (x : Int) (s : CStmt) : Type 0 where
  pub tail : List ℕ
  pub of : Assigned sc room x s tail
  pub text : stmt_text s ≡ int_name x ++ (codes " = " ++ tail)

assigned_set : (sc : Scope) (room : Option ℕ) (x : Int) (e : CExpr) → IsTrue (is_expr sc e room) → IsAssigned sc room x (st.Set x e)
assigned_set sc room x e h = record {
  tail = expr_text e ++ codes ";\n";
  of = (false, map_at (λ e. st.Set x e) e (record { fits = h; text = refl }));
  text = text_Set x e ∙ g4 (int_name x) (codes " = ") (expr_text e) (codes ";\n");
}

assigned_width : (sc : Scope) (room : Option ℕ) (x : Int) (e : CExpr) → IsTrue (is_expr sc e room) → IsAssigned sc room x (st.Width x e)
assigned_width sc room x e h = record {
  tail = codes "width(" ++ (expr_text e ++ codes ");\n");
  of = (true, bind_at 3 (codes "width(") _ (record { within = omega arith; text = refl; may = refl }) (map_at (λ e. st.Width x e) e (record { fits = h; text = refl })));
  text = text_Width x e ∙ g4 (int_name x) (codes " = width(") (expr_text e) (codes ");\n");
}

assigned_count : (sc : Scope) (room : Option ℕ) (x : Int) → IsAssigned sc room x (st.ReadCount x)
assigned_count sc room x = record {
  tail = codes "read_n;\n" ++ [];
  of = (true, bind_at 4 (codes "read_n;\n") [] (record { within = omega arith; text = refl; may = refl }) (refl, refl));
  text = text_ReadCount x;
}

assigned_check : (sc : Scope) (room : Option ℕ) (x : Int) (c : Checked) (e f : CExpr) → IsTrue (is_expr sc e room) → IsTrue (is_expr sc f room) → IsAssigned sc room x (st.Check x c e f)
assigned_check sc room x checked.Add e f h g = record {
  tail = codes "add(" ++ (expr_text e ++ (codes ", " ++ (expr_text f ++ codes ");\n")));
  of = (true, bind_at 0 (codes "add(") _ (record { within = omega arith; text = refl; may = refl }) (map_at (λ y. st.Check x checked.Add y.0 y.1) (e, f) (record { left = h; right = g; text = refl })));
  text = text_Check x checked.Add e f ∙ g6 (int_name x) (codes " = add(") (expr_text e) (codes ", ") (expr_text f) (codes ");\n");
}
assigned_check sc room x checked.Sub e f h g = record {
  tail = codes "sub(" ++ (expr_text e ++ (codes ", " ++ (expr_text f ++ codes ");\n")));
  of = (true, bind_at 1 (codes "sub(") _ (record { within = omega arith; text = refl; may = refl }) (map_at (λ y. st.Check x checked.Sub y.0 y.1) (e, f) (record { left = h; right = g; text = refl })));
  text = text_Check x checked.Sub e f ∙ g6 (int_name x) (codes " = sub(") (expr_text e) (codes ", ") (expr_text f) (codes ");\n");
}
assigned_check sc room x checked.Mul e f h g = record {
  tail = codes "mul(" ++ (expr_text e ++ (codes ", " ++ (expr_text f ++ codes ");\n")));
  of = (true, bind_at 2 (codes "mul(") _ (record { within = omega arith; text = refl; may = refl }) (map_at (λ y. st.Check x checked.Mul y.0 y.1) (e, f) (record { left = h; right = g; text = refl })));
  text = text_Check x checked.Mul e f ∙ g6 (int_name x) (codes " = mul(") (expr_text e) (codes ", ") (expr_text f) (codes ");\n");
}

-- what such a text is of a statement
pub record Joined (sc : Scope) (room : Option ℕ) (t : List ℕ) (s : CStmt) (w : List ℕ) : Type 0 where
  pub fits : IsTrue (is_stmt sc s room)
  pub text : stmt_text s ≡ t ++ w

checks_join : (sc : Scope) (room : Option ℕ) (x : Int) (c : Checked) (t : List ℕ) (s : CStmt) (b w : List ℕ) → IsTrue (is_int sc x) → checked_text c ≡ codes " = " ++ t → Checks sc room x c s b → w ≡ t ++ b
    → Joined sc room (int_name x) s (codes " = " ++ w)
checks_join sc room x c t s b w h ct m q =
    let e = m.part.0 in let f = m.part.1 in
    let rest : List ℕ = expr_text e ++ (codes ", " ++ (expr_text f ++ codes ");\n")) in
    record {
      fits = subst IsTrue (sym (ap (λ s. is_stmt sc s room) m.is ∙ is_Check sc x c e f room)) (and_both (is_int sc x && is_expr sc e room) (is_expr sc f room) (and_both (is_int sc x) (is_expr sc e room) h m.of.left) m.of.right);
      text = ap stmt_text m.is ∙ text_Check x c e f ∙ g6 (int_name x) (checked_text c) (expr_text e) (codes ", ") (expr_text f) (codes ");\n")
          ∙ ap (λ y. int_name x ++ (y ++ rest)) ct ∙ ap (λ y. int_name x ++ y) (append_assoc (codes " = ") t rest)
          ∙ ap (λ y. int_name x ++ (codes " = " ++ (t ++ y))) (sym m.of.text) ∙ ap (λ y. int_name x ++ (codes " = " ++ y)) (sym q);
    }

call_join : (sc : Scope) (room : Option ℕ) (x : Int) (i : ℕ) (s : CStmt) (a b w : List ℕ) → IsTrue (is_int sc x) → OneOf call_texts five i a → CallBehind sc room x i s b → w ≡ a ++ b → Joined sc room (int_name x) s (codes " = " ++ w)
call_join sc room x zero s a b w h o m q = checks_join sc room x checked.Add (codes "add(") s b w h refl m (q ∙ ap (λ y. y ++ b) o.text)
call_join sc room x (suc zero) s a b w h o m q = checks_join sc room x checked.Sub (codes "sub(") s b w h refl m (q ∙ ap (λ y. y ++ b) o.text)
call_join sc room x (suc (suc zero)) s a b w h o m q = checks_join sc room x checked.Mul (codes "mul(") s b w h refl m (q ∙ ap (λ y. y ++ b) o.text)
call_join sc room x (suc (suc (suc zero))) s a b w h o m q =
    let e = m.part in record {
      fits = subst IsTrue (sym (ap (λ s. is_stmt sc s room) m.is ∙ is_Width sc x e room)) (and_both (is_int sc x) (is_expr sc e room) h m.of.fits);
      text = ap stmt_text m.is ∙ text_Width x e ∙ g4 (int_name x) (codes " = width(") (expr_text e) (codes ");\n")
          ∙ ap (λ y. int_name x ++ (codes " = " ++ y)) (sym (q ∙ ap₂ (λ y z. y ++ z) o.text m.of.text));
    }
call_join sc room x (suc (suc (suc (suc zero)))) s a b w h o m q = record {
  fits = subst IsTrue (sym (ap (λ s. is_stmt sc s room) m.0 ∙ is_ReadCount sc x room)) h;
  text = ap stmt_text m.0 ∙ text_ReadCount x ∙ ap (λ y. int_name x ++ (codes " = " ++ y)) (sym (q ∙ ap₂ (λ y z. y ++ z) o.text m.1));
}
call_join sc room x (suc (suc (suc (suc (suc n))))) s a b w h o m q = absurd (omega (arith, o.within))

pub assigned_join : (sc : Scope) (room : Option ℕ) (x : Int) (c : Bool) (s : CStmt) (w : List ℕ) → IsTrue (is_int sc x) → AssignedBy sc room x c s w → Joined sc room (int_name x) s (codes " = " ++ w)
assigned_join sc room x true s w h m = call_join sc room x m.part s m.front m.back w h m.begins m.goes_on m.whole
assigned_join sc room x false s w h m =
    let e = m.part in record {
      fits = subst IsTrue (sym (ap (λ s. is_stmt sc s room) m.is ∙ is_Set sc x e room)) (and_both (is_int sc x) (is_expr sc e room) h m.of.fits);
      text = ap stmt_text m.is ∙ text_Set x e ∙ g4 (int_name x) (codes " = ") (expr_text e) (codes ";\n") ∙ ap (λ y. int_name x ++ (codes " = " ++ y)) (sym m.of.text);
    }

-- ---- Statements that begin with a buffer

pub record IsStored (sc : Scope) (room : Option ℕ) (p : Buf) (s : CStmt) : Type 0 where
  pub sign : ℕ
  pub tail : List ℕ
  pub within : sign < 2
  pub may_be : get_or two sign false ≡ true
  pub of : StoredBehind sc room p sign s tail
  pub text : stmt_text s ≡ buf_name p ++ (get_or buf_signs sign [] ++ tail)

stored_cell : (sc : Scope) (room : Option ℕ) (p : Buf) (e f : CExpr) → IsTrue (is_expr sc e room) → IsTrue (is_expr sc f room) → IsStored sc room p (st.SetCell p e f)
stored_cell sc room p e f h g = record {
  sign = 0;
  tail = expr_text e ++ (codes "] = " ++ (expr_text f ++ codes ";\n"));
  within = omega arith;
  may_be = refl;
  of = map_at (λ x. st.SetCell p x.0 x.1) (e, f) (record { left = h; right = g; text = refl });
  text = text_SetCell p e f ∙ g6 (buf_name p) (codes "[") (expr_text e) (codes "] = ") (expr_text f) (codes ";\n");
}

stored_by : (sc : Scope) (room : Option ℕ) (p : Buf) (s : CStmt) (i : ℕ) (b : List ℕ) → i < 6 → get_or (source_may sc) i false ≡ true → SourceBehind sc room p i s b
    → stmt_text s ≡ buf_name p ++ (codes " = " ++ (get_or source_texts i [] ++ b)) → IsStored sc room p s
stored_by sc room p s i b l y m t = record {
  sign = 1;
  tail = get_or source_texts i [] ++ b;
  within = omega arith;
  may_be = refl;
  of = bind_at i (get_or source_texts i []) b (record { within = l; text = refl; may = y }) m;
  text = t;
}

stored_cells : (sc : Scope) (room : Option ℕ) (p : Buf) (e : CExpr) → IsTrue (is_expr sc e room) → IsStored sc room p (st.Cells p e)
stored_cells sc room p e h = stored_by sc room p (st.Cells p e) 1 (expr_text e ++ codes ");\n") (omega arith) refl (map_at (λ e. st.Cells p e) e (record { fits = h; text = refl }))
    (text_Cells p e ∙ g4 (buf_name p) (codes " = cells(") (expr_text e) (codes ");\n"))

stored_text : (sc : Scope) (room : Option ℕ) (p : Buf) → IsStored sc room p (st.ReadText p)
stored_text sc room p = stored_by sc room p (st.ReadText p) 2 [] (omega arith) refl (refl, refl) (text_ReadText p)

stored_nums : (sc : Scope) (room : Option ℕ) (p : Buf) → IsStored sc room p (st.ReadNums p)
stored_nums sc room p = stored_by sc room p (st.ReadNums p) 3 [] (omega arith) refl (refl, refl) (text_ReadNums p)

stored_buf : (sc : Scope) (room : Option ℕ) (p : Buf) (q : Option Buf) → IsTrue (is_source sc q) → IsStored sc room p (st.SetBuf p q)
stored_buf sc room p None h = stored_by sc room p (st.SetBuf p None) 0 [] (omega arith) refl (refl, refl) (text_SetBuf p None)
stored_buf sc room p (Some (buf.Local k)) h =
    let l = lt_of k sc.bufs h in
    stored_by sc room p (st.SetBuf p (Some (buf.Local k))) 4 (decimal k ++ codes ";\n") (omega arith) (positive_of k sc.bufs l) (map_at (λ k. st.SetBuf p (Some (buf.Local k))) k (record { below = l; text = refl }))
    (text_SetBuf p (Some (buf.Local k)) ∙ ap (λ y. buf_name p ++ (codes " = " ++ y ++ codes ";\n")) (name_b k))
stored_buf sc room p (Some (buf.Global k)) h =
    let l = lt_of k sc.global_bufs h in
    stored_by sc room p (st.SetBuf p (Some (buf.Global k))) 5 (decimal k ++ codes ";\n") (omega arith) (positive_of k sc.global_bufs l) (map_at (λ k. st.SetBuf p (Some (buf.Global k))) k (record { below = l; text = refl }))
    (text_SetBuf p (Some (buf.Global k)) ∙ ap (λ y. buf_name p ++ (codes " = " ++ y ++ codes ";\n")) (name_h k))

source_join : (sc : Scope) (room : Option ℕ) (p : Buf) (i : ℕ) (s : CStmt) (a b w : List ℕ) → IsTrue (is_buf sc p) → OneOf source_texts (source_may sc) i a → SourceBehind sc room p i s b → w ≡ a ++ b
    → Joined sc room (buf_name p) s (codes " = " ++ w)
source_join sc room p zero s a b w h o m q = record {
  fits = subst IsTrue (sym (ap (λ s. is_stmt sc s room) m.0 ∙ is_SetBuf sc p None room)) (and_both (is_buf sc p) true h refl);
  text = ap stmt_text m.0 ∙ text_SetBuf p None ∙ ap (λ y. buf_name p ++ (codes " = " ++ y)) (sym (q ∙ ap₂ (λ y z. y ++ z) o.text m.1));
}
source_join sc room p (suc zero) s a b w h o m q =
    let e = m.part in record {
      fits = subst IsTrue (sym (ap (λ s. is_stmt sc s room) m.is ∙ is_Cells sc p e room)) (and_both (is_buf sc p) (is_expr sc e room) h m.of.fits);
      text = ap stmt_text m.is ∙ text_Cells p e ∙ g4 (buf_name p) (codes " = cells(") (expr_text e) (codes ");\n") ∙ ap (λ y. buf_name p ++ (codes " = " ++ y)) (sym (q ∙ ap₂ (λ y z. y ++ z) o.text m.of.text));
    }
source_join sc room p (suc (suc zero)) s a b w h o m q = record {
  fits = subst IsTrue (sym (ap (λ s. is_stmt sc s room) m.0 ∙ is_ReadText sc p room)) h;
  text = ap stmt_text m.0 ∙ text_ReadText p ∙ ap (λ y. buf_name p ++ (codes " = " ++ y)) (sym (q ∙ ap₂ (λ y z. y ++ z) o.text m.1));
}
source_join sc room p (suc (suc (suc zero))) s a b w h o m q = record {
  fits = subst IsTrue (sym (ap (λ s. is_stmt sc s room) m.0 ∙ is_ReadNums sc p room)) h;
  text = ap stmt_text m.0 ∙ text_ReadNums p ∙ ap (λ y. buf_name p ++ (codes " = " ++ y)) (sym (q ∙ ap₂ (λ y z. y ++ z) o.text m.1));
}
source_join sc room p (suc (suc (suc (suc zero)))) s a b w h o m q =
    let k = m.part in record {
      fits = subst IsTrue (sym (ap (λ s. is_stmt sc s room) m.is ∙ is_SetBuf sc p (Some (buf.Local k)) room)) (and_both (is_buf sc p) (nat_lt k sc.bufs) h (of_lt k sc.bufs m.of.below));
      text = ap stmt_text m.is ∙ text_SetBuf p (Some (buf.Local k)) ∙ ap (λ y. buf_name p ++ (codes " = " ++ y ++ codes ";\n")) (name_b k) ∙ ap (λ y. buf_name p ++ (codes " = " ++ y)) (sym (q ∙ ap₂ (λ y z. y ++ z) o.text m.of.text));
    }
source_join sc room p (suc (suc (suc (suc (suc zero))))) s a b w h o m q =
    let k = m.part in record {
      fits = subst IsTrue (sym (ap (λ s. is_stmt sc s room) m.is ∙ is_SetBuf sc p (Some (buf.Global k)) room)) (and_both (is_buf sc p) (nat_lt k sc.global_bufs) h (of_lt k sc.global_bufs m.of.below));
      text = ap stmt_text m.is ∙ text_SetBuf p (Some (buf.Global k)) ∙ ap (λ y. buf_name p ++ (codes " = " ++ y ++ codes ";\n")) (name_h k) ∙ ap (λ y. buf_name p ++ (codes " = " ++ y)) (sym (q ∙ ap₂ (λ y z. y ++ z) o.text m.of.text));
    }
source_join sc room p (suc (suc (suc (suc (suc (suc n)))))) s a b w h o m q = absurd (omega (arith, o.within))

pub stored_join : (sc : Scope) (room : Option ℕ) (p : Buf) (i : ℕ) (s : CStmt) (t w : List ℕ) → IsTrue (is_buf sc p) → OneOf buf_signs two i t → StoredBehind sc room p i s w → Joined sc room (buf_name p) s (t ++ w)
stored_join sc room p zero s t w h o m =
    let e = m.part.0 in let f = m.part.1 in record {
      fits = subst IsTrue (sym (ap (λ s. is_stmt sc s room) m.is ∙ is_SetCell sc p e f room)) (and_both (is_buf sc p && is_expr sc e room) (is_expr sc f room) (and_both (is_buf sc p) (is_expr sc e room) h m.of.left) m.of.right);
      text = ap stmt_text m.is ∙ text_SetCell p e f ∙ g6 (buf_name p) (codes "[") (expr_text e) (codes "] = ") (expr_text f) (codes ";\n") ∙ ap₂ (λ y z. buf_name p ++ (y ++ z)) (sym o.text) (sym m.of.text);
    }
stored_join sc room p (suc zero) s t w h o m =
    let j = source_join sc room p m.part s m.front m.back w h m.begins m.goes_on m.whole in
    record { fits = j.fits; text = j.text ∙ ap (λ y. buf_name p ++ (y ++ w)) (sym o.text) }
stored_join sc room p (suc (suc n)) s t w h o m = absurd (omega (arith, o.within))

-- ---- Faults and calls

fault_of : (k : FaultKind) → ℕ
fault_of = fault_number

pub called_join : (sc : Scope) (room : Option ℕ) (c : Bool) (s : CStmt) (w : List ℕ) → CalledBy sc c s w → Joined sc room (codes "f") s w
called_join sc room true s w m = record {
  fits = subst IsTrue (sym (ap (λ s. is_stmt sc s room) m.is ∙ is_Fault sc (fault_at m.part) room)) refl;
  text = ap stmt_text m.is ∙ text_Fault (fault_at m.part) ∙ each m.part m.of.within ∙ ap (λ y. codes "f" ++ y) (sym m.of.text);
}
  where
    each : (i : ℕ) → i < 7 → codes "fault(" ++ decimal (fault_number (fault_at i)) ++ codes ");\n" ≡ codes "f" ++ get_or fault_texts i []
    each zero l = ap (λ d. codes "fault(" ++ d ++ codes ");\n") (decimal_digit 0 (omega arith))
    each (suc zero) l = ap (λ d. codes "fault(" ++ d ++ codes ");\n") (decimal_digit 1 (omega arith))
    each (suc (suc zero)) l = ap (λ d. codes "fault(" ++ d ++ codes ");\n") (decimal_digit 2 (omega arith))
    each (suc (suc (suc zero))) l = ap (λ d. codes "fault(" ++ d ++ codes ");\n") (decimal_digit 3 (omega arith))
    each (suc (suc (suc (suc zero)))) l = ap (λ d. codes "fault(" ++ d ++ codes ");\n") (decimal_digit 4 (omega arith))
    each (suc (suc (suc (suc (suc zero))))) l = ap (λ d. codes "fault(" ++ d ++ codes ");\n") (decimal_digit 5 (omega arith))
    each (suc (suc (suc (suc (suc (suc zero)))))) l = ap (λ d. codes "fault(" ++ d ++ codes ");\n") (decimal_digit 6 (omega arith))
    each (suc (suc (suc (suc (suc (suc (suc n))))))) l = absurd (omega (arith, l))
called_join sc room false s w m =
    let n = m.part in record {
      fits = subst IsTrue (sym (ap (λ s. is_stmt sc s room) m.is ∙ is_Call sc n room)) (of_lt n sc.functions m.of.below);
      text = ap stmt_text m.is ∙ text_Call n ∙ ap (λ y. codes "f" ++ y) (sym m.of.text);
    }

pub fault_called : (sc : Scope) (k : FaultKind) → (w : List ℕ) × CalledBy sc true (st.Fault k) w × (stmt_text (st.Fault k) ≡ codes "f" ++ w)
fault_called sc fault.Domain = (codes "ault(0);\n", map_at (λ i. st.Fault (fault_at i)) 0 (record { within = omega arith; text = refl; may = refl }), text_Fault fault.Domain ∙ ap (λ d. codes "fault(" ++ d ++ codes ");\n") (decimal_digit 0 (omega arith)))
fault_called sc fault.Index = (codes "ault(1);\n", map_at (λ i. st.Fault (fault_at i)) 1 (record { within = omega arith; text = refl; may = refl }), text_Fault fault.Index ∙ ap (λ d. codes "fault(" ++ d ++ codes ");\n") (decimal_digit 1 (omega arith)))
fault_called sc fault.Length = (codes "ault(2);\n", map_at (λ i. st.Fault (fault_at i)) 2 (record { within = omega arith; text = refl; may = refl }), text_Fault fault.Length ∙ ap (λ d. codes "fault(" ++ d ++ codes ");\n") (decimal_digit 2 (omega arith)))
fault_called sc fault.Limit = (codes "ault(3);\n", map_at (λ i. st.Fault (fault_at i)) 3 (record { within = omega arith; text = refl; may = refl }), text_Fault fault.Limit ∙ ap (λ d. codes "fault(" ++ d ++ codes ");\n") (decimal_digit 3 (omega arith)))
fault_called sc fault.Rank = (codes "ault(4);\n", map_at (λ i. st.Fault (fault_at i)) 4 (record { within = omega arith; text = refl; may = refl }), text_Fault fault.Rank ∙ ap (λ d. codes "fault(" ++ d ++ codes ");\n") (decimal_digit 4 (omega arith)))
fault_called sc fault.Value = (codes "ault(5);\n", map_at (λ i. st.Fault (fault_at i)) 5 (record { within = omega arith; text = refl; may = refl }), text_Fault fault.Value ∙ ap (λ d. codes "fault(" ++ d ++ codes ");\n") (decimal_digit 5 (omega arith)))
fault_called sc fault.Input = (codes "ault(6);\n", map_at (λ i. st.Fault (fault_at i)) 6 (record { within = omega arith; text = refl; may = refl }), text_Fault fault.Input ∙ ap (λ d. codes "fault(" ++ d ++ codes ");\n") (decimal_digit 6 (omega arith)))

-- ---- Each statement: its keyword, and what stands behind it

pub record Split_stmt (sc : Scope) (room : Option ℕ) (s : CStmt) : Type 0 where
  pub keyword : ℕ
  pub back : List ℕ
  pub within : suc keyword < 16
  pub may_be : get_or (may sc room) (suc keyword) false ≡ true
  pub behind : StmtBehind sc room keyword s back
  pub text : stmt_text s ≡ get_or keywords (suc keyword) [] ++ back

split_int : (sc : Scope) (room : Option ℕ) (x : Int) (s : CStmt) → IsTrue (is_int sc x) → IsAssigned sc room x s → Split_stmt sc room s
split_int sc room (int.Local n) s h a =
    let l = lt_of n sc.ints h in record {
      keyword = 3;
      back = (decimal n ++ codes " = ") ++ a.tail;
      within = omega arith;
      may_be = positive_of n sc.ints l;
      behind = bind_at n (decimal n ++ codes " = ") a.tail (record { below = l; text = refl }) a.of;
      text = a.text ∙ ap (λ y. y ++ (codes " = " ++ a.tail)) (name_v n) ∙ ap (λ y. codes "v" ++ y) (sym (append_assoc (decimal n) (codes " = ") a.tail));
    }
split_int sc room (int.Global n) s h a =
    let l = lt_of n sc.global_ints h in record {
      keyword = 4;
      back = (decimal n ++ codes " = ") ++ a.tail;
      within = omega arith;
      may_be = positive_of n sc.global_ints l;
      behind = bind_at n (decimal n ++ codes " = ") a.tail (record { below = l; text = refl }) a.of;
      text = a.text ∙ ap (λ y. y ++ (codes " = " ++ a.tail)) (name_g n) ∙ ap (λ y. codes "g" ++ y) (sym (append_assoc (decimal n) (codes " = ") a.tail));
    }

split_buf : (sc : Scope) (room : Option ℕ) (p : Buf) (s : CStmt) → IsTrue (is_buf sc p) → IsStored sc room p s → Split_stmt sc room s
split_buf sc room (buf.Local n) s h a =
    let l = lt_of n sc.bufs h in let sign : List ℕ = get_or buf_signs a.sign [] in record {
      keyword = 5;
      back = (decimal n ++ sign) ++ a.tail;
      within = omega arith;
      may_be = positive_of n sc.bufs l;
      behind = bind_at (n, a.sign) (decimal n ++ sign) a.tail (record { below = l; back = sign; sign = record { within = a.within; text = refl; may = a.may_be }; text = refl }) a.of;
      text = a.text ∙ ap (λ y. y ++ (sign ++ a.tail)) (name_b n) ∙ ap (λ y. codes "b" ++ y) (sym (append_assoc (decimal n) sign a.tail));
    }
split_buf sc room (buf.Global n) s h a =
    let l = lt_of n sc.global_bufs h in let sign : List ℕ = get_or buf_signs a.sign [] in record {
      keyword = 6;
      back = (decimal n ++ sign) ++ a.tail;
      within = omega arith;
      may_be = positive_of n sc.global_bufs l;
      behind = bind_at (n, a.sign) (decimal n ++ sign) a.tail (record { below = l; back = sign; sign = record { within = a.within; text = refl; may = a.may_be }; text = refl }) a.of;
      text = a.text ∙ ap (λ y. y ++ (sign ++ a.tail)) (name_h n) ∙ ap (λ y. codes "h" ++ y) (sym (append_assoc (decimal n) sign a.tail));
    }

and_true : (a b : Bool) → a ≡ true → b ≡ true → (a && b) ≡ true
and_true true b h k = k
and_true false b h k = absurd (cc h)

abbrev of : CStmt-F CStmt Arm → CStmt
of (CStmt-F.Set x e) = st.Set x e
of (CStmt-F.SetCell p e f) = st.SetCell p e f
of (CStmt-F.SetBuf p q) = st.SetBuf p q
of (CStmt-F.Cells p e) = st.Cells p e
of (CStmt-F.Free p) = st.Free p
of (CStmt-F.Check x c e f) = st.Check x c e f
of (CStmt-F.Width x e) = st.Width x e
of (CStmt-F.PutNum e f) = st.PutNum e f
of (CStmt-F.PutChar e) = st.PutChar e
of (CStmt-F.ReadText p) = st.ReadText p
of (CStmt-F.ReadNums p) = st.ReadNums p
of (CStmt-F.ReadCount x) = st.ReadCount x
of (CStmt-F.At name n) = st.At name n
of CStmt-F.Enter = st.Enter
of CStmt-F.Leave = st.Leave
of (CStmt-F.Fault k) = st.Fault k
of (CStmt-F.Call n) = st.Call n
of CStmt-F.Return = st.Return
of (CStmt-F.If e a o) = st.If e a o
of (CStmt-F.While e a) = st.While e a
of (CStmt-F.Switch x arms d) = st.Switch x arms d

rolls : (l : CStmt-F CStmt Arm) → roll-CStmt l ≡ of l
rolls (CStmt-F.Set x e) = st.rolls-Set x e
rolls (CStmt-F.SetCell p e f) = st.rolls-SetCell p e f
rolls (CStmt-F.SetBuf p None) = st.rolls-SetBuf p None
rolls (CStmt-F.SetBuf p (Some q)) = st.rolls-SetBuf p (Some q)
rolls (CStmt-F.Cells p e) = st.rolls-Cells p e
rolls (CStmt-F.Free p) = st.rolls-Free p
rolls (CStmt-F.Check x c e f) = st.rolls-Check x c e f
rolls (CStmt-F.Width x e) = st.rolls-Width x e
rolls (CStmt-F.PutNum e f) = st.rolls-PutNum e f
rolls (CStmt-F.PutChar e) = st.rolls-PutChar e
rolls (CStmt-F.ReadText p) = st.rolls-ReadText p
rolls (CStmt-F.ReadNums p) = st.rolls-ReadNums p
rolls (CStmt-F.ReadCount x) = st.rolls-ReadCount x
rolls (CStmt-F.At name n) = st.rolls-At name n
rolls CStmt-F.Enter = st.rolls-Enter
rolls CStmt-F.Leave = st.rolls-Leave
rolls (CStmt-F.Fault k) = st.rolls-Fault k
rolls (CStmt-F.Call n) = st.rolls-Call n
rolls CStmt-F.Return = st.rolls-Return
rolls (CStmt-F.If e a None) = st.rolls-If e a None
rolls (CStmt-F.If e a (Some b)) = st.rolls-If e a (Some b)
rolls (CStmt-F.While e a) = st.rolls-While e a
rolls (CStmt-F.Switch x arms d) = st.rolls-Switch x arms d

-- the form of a statement that is well formed
split_form : (sc : Scope) (room : Option ℕ) (l : CStmt-F CStmt Arm) (s : CStmt) → s ≡ of l → IsTrue (is_stmt sc s room) → Split_stmt sc room s
split_form sc room l s q h = subst (λ s. Split_stmt sc room s) (sym q) (go l (subst (λ s. IsTrue (is_stmt sc s room)) q h))
  where
    go : (l : CStmt-F CStmt Arm) → IsTrue (is_stmt sc (of l) room) → Split_stmt sc room (of l)
    go (CStmt-F.Set x e) h =
        let g = both (is_int sc x) (is_expr sc e room) (subst IsTrue (is_Set sc x e room) h) in
        split_int sc room x (st.Set x e) g.0 (assigned_set sc room x e g.1)
    go (CStmt-F.SetCell p e f) h =
        let g = both (is_buf sc p && is_expr sc e room) (is_expr sc f room) (subst IsTrue (is_SetCell sc p e f room) h) in
        let k = both (is_buf sc p) (is_expr sc e room) g.0 in
        split_buf sc room p (st.SetCell p e f) k.0 (stored_cell sc room p e f k.1 g.1)
    go (CStmt-F.SetBuf p None) h =
        let g = both (is_buf sc p) true (subst IsTrue (is_SetBuf sc p None room) h) in
        split_buf sc room p (st.SetBuf p None) g.0 (stored_buf sc room p None refl)
    go (CStmt-F.SetBuf p (Some q)) h =
        let g = both (is_buf sc p) (is_buf sc q) (subst IsTrue (is_SetBuf sc p (Some q) room) h) in
        split_buf sc room p (st.SetBuf p (Some q)) g.0 (stored_buf sc room p (Some q) g.1)
    go (CStmt-F.Cells p e) h =
        let g = both (is_buf sc p) (is_expr sc e room) (subst IsTrue (is_Cells sc p e room) h) in
        split_buf sc room p (st.Cells p e) g.0 (stored_cells sc room p e g.1)
    go (CStmt-F.Free p) h =
        let g : IsTrue (is_buf sc p) = subst IsTrue (is_Free sc p room) h in record {
          keyword = 7;
          back = buf_name p ++ codes ");\n";
          within = omega arith;
          may_be = some_buf sc p g;
          behind = map_at (λ p. st.Free p) p (record { fits = g; text = refl });
          text = text_Free p ∙ append_assoc (codes "drop(") (buf_name p) (codes ");\n");
        }
    go (CStmt-F.Check x c e f) h =
        let g = both (is_int sc x && is_expr sc e room) (is_expr sc f room) (subst IsTrue (is_Check sc x c e f room) h) in
        let k = both (is_int sc x) (is_expr sc e room) g.0 in
        split_int sc room x (st.Check x c e f) k.0 (assigned_check sc room x c e f k.1 g.1)
    go (CStmt-F.Width x e) h =
        let g = both (is_int sc x) (is_expr sc e room) (subst IsTrue (is_Width sc x e room) h) in
        split_int sc room x (st.Width x e) g.0 (assigned_width sc room x e g.1)
    go (CStmt-F.PutNum e f) h =
        let g = both (is_expr sc e room) (is_expr sc f room) (subst IsTrue (is_PutNum sc e f room) h) in record {
          keyword = 8;
          back = expr_text e ++ (codes ", " ++ (expr_text f ++ codes ");\n"));
          within = omega arith;
          may_be = refl;
          behind = map_at (λ x. st.PutNum x.0 x.1) (e, f) (record { left = g.0; right = g.1; text = refl });
          text = text_PutNum e f ∙ g5 (codes "put_num(") (expr_text e) (codes ", ") (expr_text f) (codes ");\n");
        }
    go (CStmt-F.PutChar e) h = record {
      keyword = 9;
      back = expr_text e ++ codes ");\n";
      within = omega arith;
      may_be = refl;
      behind = map_at (λ e. st.PutChar e) e (record { fits = subst IsTrue (is_PutChar sc e room) h; text = refl });
      text = text_PutChar e ∙ append_assoc (codes "put_char(") (expr_text e) (codes ");\n");
    }
    go (CStmt-F.ReadText p) h = split_buf sc room p (st.ReadText p) (subst IsTrue (is_ReadText sc p room) h) (stored_text sc room p)
    go (CStmt-F.ReadNums p) h = split_buf sc room p (st.ReadNums p) (subst IsTrue (is_ReadNums sc p room) h) (stored_nums sc room p)
    go (CStmt-F.ReadCount x) h = split_int sc room x (st.ReadCount x) (subst IsTrue (is_ReadCount sc x room) h) (assigned_count sc room x)
    go (CStmt-F.At name (pos n)) h =
        let g = both (is_name name) (nat_lt n (2 ^ 63)) (subst IsTrue (is_At sc name (pos n) room) h) in record {
          keyword = 10;
          back = (name ++ codes "\", ") ++ (decimal n ++ codes ");\n");
          within = omega arith;
          may_be = refl;
          behind = bind_at name (name ++ codes "\", ") (decimal n ++ codes ");\n") (record { fits = g.0; text = refl }) (map_at (λ n. st.At name (pos n)) n (record { below = lt_of n (2 ^ 63) g.1; text = refl }));
          text = text_At name (pos n) ∙ g5 (codes "at(\"") name (codes "\", ") (decimal n) (codes ");\n") ∙ ap (λ y. codes "at(\"" ++ y) (sym (append_assoc name (codes "\", ") (decimal n ++ codes ");\n")));
        }
    go (CStmt-F.At name (negsuc n)) h = absurd (cc (both (is_name name) false (subst IsTrue (is_At sc name (negsuc n) room) h)).1)
    go CStmt-F.Enter h = record { keyword = 1; back = []; within = omega arith; may_be = refl; behind = (refl, refl); text = text_Enter }
    go CStmt-F.Leave h = record { keyword = 2; back = []; within = omega arith; may_be = refl; behind = (refl, refl); text = text_Leave }
    go (CStmt-F.Fault k) h =
        let z = fault_called sc k in record { keyword = 11; back = z.0; within = omega arith; may_be = refl; behind = (true, z.1); text = z.2 }
    go (CStmt-F.Call n) h = record {
      keyword = 11;
      back = decimal n ++ codes "();\n";
      within = omega arith;
      may_be = refl;
      behind = (false, map_at (λ n. st.Call n) n (record { below = lt_of n sc.functions (subst IsTrue (is_Call sc n room) h); text = refl }));
      text = text_Call n;
    }
    go CStmt-F.Return h = record { keyword = 0; back = []; within = omega arith; may_be = refl; behind = (refl, refl); text = text_Return }
    go (CStmt-F.If e a None) h =
        let g = both (is_expr sc e room) (inside room (λ r. are_stmts sc a r && true)) (subst IsTrue (is_If sc e a None room) h) in
        let r = inner_of room (λ r. are_stmts sc a r && true) g.1 in
        let b = both (are_stmts sc a r.0) true r.2 in
        let back : List ℕ = (expr_text e ++ codes ") {\n") ++ ((stmts_text a ++ codes "}") ++ (codes "\n" ++ [])) in record {
          keyword = 12;
          back = back;
          within = omega arith;
          may_be = room_of room r.0 r.1;
          behind = into_inner (IfBehind sc room) room r.0 (st.If e a None) back r.1
              (bind_at e (expr_text e ++ codes ") {\n") _ (record { fits = g.0; text = refl }) (bind_at a (stmts_text a ++ codes "}") _ (record { fits = b.0; text = refl })
              (bind_at 0 (codes "\n") [] (record { within = omega arith; text = refl; may = refl }) (refl, refl))));
          text = text_If e a None ∙ if_text (expr_text e) (stmts_text a);
        }
      where
        if_text : (e a : List ℕ) → codes "if (" ++ e ++ codes ") {\n" ++ a ++ [] ++ codes "}\n" ≡ codes "if (" ++ ((e ++ codes ") {\n") ++ ((a ++ codes "}") ++ (codes "\n" ++ [])))
        if_text e a = simp (append_assoc, append-nil)
    go (CStmt-F.If e a (Some d)) h =
        let g = both (is_expr sc e room) (inside room (λ r. are_stmts sc a r && are_stmts sc d r)) (subst IsTrue (is_If sc e a (Some d) room) h) in
        let r = inner_of room (λ r. are_stmts sc a r && are_stmts sc d r) g.1 in
        let b = both (are_stmts sc a r.0) (are_stmts sc d r.0) r.2 in
        let back : List ℕ = (expr_text e ++ codes ") {\n") ++ ((stmts_text a ++ codes "}") ++ (codes " else {\n" ++ (stmts_text d ++ (codes "}" ++ codes "\n")))) in record {
          keyword = 12;
          back = back;
          within = omega arith;
          may_be = room_of room r.0 r.1;
          behind = into_inner (IfBehind sc room) room r.0 (st.If e a (Some d)) back r.1
              (bind_at e (expr_text e ++ codes ") {\n") _ (record { fits = g.0; text = refl }) (bind_at a (stmts_text a ++ codes "}") _ (record { fits = b.0; text = refl })
              (bind_at 1 (codes " else {\n") _ (record { within = omega arith; text = refl; may = refl }) (map_at (λ b. st.If e a (Some b)) d (record { fits = b.1; text = refl })))));
          text = text_If e a (Some d) ∙ else_text (expr_text e) (stmts_text a) (stmts_text d);
        }
      where
        else_text : (e a d : List ℕ) → codes "if (" ++ e ++ codes ") {\n" ++ a ++ (codes "} else {\n" ++ d) ++ codes "}\n" ≡ codes "if (" ++ ((e ++ codes ") {\n") ++ ((a ++ codes "}") ++ (codes " else {\n" ++ (d ++ (codes "}" ++ codes "\n")))))
        else_text e a d = else_left (codes "if (") e (codes ") {\n") a (codes "} else {\n") d (codes "}\n") ∙ sym (if_parts (codes "if (") e (codes ") {\n") a (codes "}") (codes " else {\n" ++ (d ++ (codes "}" ++ codes "\n"))))
    go (CStmt-F.While e a) h =
        let g = both (is_expr sc e room) (inside room (are_stmts sc a)) (subst IsTrue (is_While sc e a room) h) in
        let r = inner_of room (are_stmts sc a) g.1 in
        let back : List ℕ = (expr_text e ++ codes ") {\n") ++ (stmts_text a ++ (codes "}" ++ codes "\n")) in record {
          keyword = 13;
          back = back;
          within = omega arith;
          may_be = room_of room r.0 r.1;
          behind = into_inner (WhileBehind sc room) room r.0 (st.While e a) back r.1
              (bind_at e (expr_text e ++ codes ") {\n") _ (record { fits = g.0; text = refl }) (map_at (λ a. st.While e a) a (record { fits = r.2; text = refl })));
          text = text_While e a ∙ while_text (expr_text e) (stmts_text a);
        }
      where
        while_text : (e a : List ℕ) → codes "while (" ++ e ++ codes ") {\n" ++ a ++ codes "}\n" ≡ codes "while (" ++ ((e ++ codes ") {\n") ++ (a ++ (codes "}" ++ codes "\n")))
        while_text e a = simp append_assoc
    go (CStmt-F.Switch x arms d) h =
        let tests = map (arm_test sc) arms in
        let g = both (is_int sc x && rise tests) (inside room (λ r. arms_fit tests r && inside r (are_stmts sc d))) (subst IsTrue (is_Switch sc x arms d room) h) in
        let k = both (is_int sc x) (rise tests) g.0 in
        let r = inner_of room (λ r. arms_fit tests r && inside r (are_stmts sc d)) g.1 in
        let b = both (arms_fit tests r.0) (inside r.0 (are_stmts sc d)) r.2 in
        let r2 = inner_of r.0 (are_stmts sc d) b.1 in
        let back : List ℕ = (int_name x ++ codes ") {\n") ++ (arms_text arms ++ (codes "default: {\n" ++ (stmts_text d ++ codes "} break;\n}\n"))) in record {
          keyword = 14;
          back = back;
          within = omega arith;
          may_be = and_true (has_rooms room) (some_of sc.ints sc.global_ints) (rooms_of room r.0 r2.0 r.1 r2.1) (some_int sc x k.0);
          behind = into_inner (SwitchBehind sc) room r.0 (st.Switch x arms d) back r.1
              (bind_at x (int_name x ++ codes ") {\n") _ (record { fits = k.0; text = refl }) (map_at (λ y. st.Switch x y.0 y.1) (arms, d) (record { rise = k.1; arms = b.0; default = b.1; text = refl })));
          text = text_Switch x arms d ∙ switch_text (int_name x) (arms_text arms) (stmts_text d);
        }
      where
        switch_text : (x a d : List ℕ) → codes "switch (" ++ x ++ codes ") {\n" ++ a ++ codes "default: {\n" ++ d ++ codes "} break;\n}\n" ≡ codes "switch (" ++ ((x ++ codes ") {\n") ++ (a ++ (codes "default: {\n" ++ (d ++ codes "} break;\n}\n"))))
        switch_text x a d = simp append_assoc

pub split_stmt : (sc : Scope) (room : Option ℕ) (s : CStmt) → IsTrue (is_stmt sc s room) → Split_stmt sc room s
split_stmt sc room s h = split_form sc room (out-CStmt s) s (sym (roll-out-CStmt s) ∙ rolls (out-CStmt s)) h
