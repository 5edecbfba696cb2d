-- Blocks: their statements, by keyword.
use Rattle.std.proofs.Common.{◌≡◌, ◌∙◌, ap, ap₂, sym, refl, subst, ℕ, zero, suc, ◌+◌, ◌-◌, ◌<◌, ◌≤◌, ◌^◌, List, [], ◌∷◌, ◌++◌, append_assoc, codes, decimal, pos, Option, Some, None, Bool, true, false, ◌&&◌, IsTrue, nat_lt, arith, length, get_or, map, ◌⊎◌, inl, inr}
use Rattle.std.proofs.lemmas.List.{append-nil, length-append, get_or_append_left}
use Rattle.std.specs.Borrow.{Bor}
use Rattle.std.specs.Prelude.{Result}
use Rattle.aplc_cprof.specs.declared.syntax.Int.TheVariants as int
use Rattle.aplc_cprof.specs.declared.syntax.Buf.TheVariants as buf
use Rattle.aplc_cprof.specs.declared.syntax.CExpr.{CExpr}
use Rattle.aplc_cprof.specs.declared.syntax.CStmt.{CStmt}
use Rattle.aplc_cprof.specs.declared.syntax.CStmt.TheVariants as st
use Rattle.aplc_cprof.specs.Text.{expr_text, int_name, buf_name, stmt_text, stmts_text, arms_text}
use Rattle.aplc_cprof.specs.WellFormed.{Scope, is_expr, is_int, is_name, inside, rise, arms_fit, is_stmt, arm_test, are_stmts}
use Rattle.aplc_cprof.proofs.Equations.{text_Free, text_PutNum, text_PutChar, text_At, text_Enter, text_Leave, text_Return, text_If, text_While, text_Switch}
use Rattle.aplc_cprof.proofs.Forms.{is_Free, is_PutNum, is_PutChar, is_At, is_Enter, is_Leave, is_Return, is_If, is_While, is_Switch}
use Rattle.aplc_cread.specs.Reading.{Found, Any, Lit, Bind, OneOf, Halts, Reads, Map}
use Rattle.aplc_cread.specs.Exprs.{ExprThen, Inner, IsInner}
use Rattle.aplc_cread.specs.Stmts.{Block, BlockThen, IntThen, two, else_texts, ElseBehind, IfBehind, WhileBehind, Arms, SwitchBehind, keywords, has_room, has_rooms, some_of, may, StmtBehind, BlockBehind, openings, opening_may}
use Rattle.aplc_cread.specs.declared.lexical.Halt.{Halt}
use Rattle.aplc_cread.specs.Reading.{Pure}
use Rattle.aplc_cread.specs.Leading.{Leads}
use Rattle.aplc_cread.proofs.Leads.{leads_start, leads_bind, leads_map, leads_as, leads_within, leads_first, leads_pure}
use Rattle.aplc_cread.proofs.Rules.{halts_first, reads_later, pure_found, reads_within, Within, Some_of, same, Joint, joint_any, some_pure, some_bind, some_map, bind_at, map_at}
use Rattle.aplc_cread.proofs.Stmts.{g5, if_parts, else_left, Joined, assigned_join, stored_join, called_join, split_stmt}
use Rattle.aplc_cread.proofs.Leaves.{some_assigned, some_stored, some_called, some_buf_then, some_int_then, some_name_then}
use Rattle.aplc_cread.proofs.Exprs.{within_inner, both, and_both, lt_of, of_lt, of_inner, from_inner, some_expr_then, some_two_exprs, some_number_then, name_v, name_g, name_b, name_h}

-- ---- Each form behind its keyword is a statement

if_join : (sc : Scope) (room r : Option ℕ) (e : CExpr) (a : List CStmt) (i : ℕ) (s : CStmt) (t b w : List ℕ) → IsInner room (Some r) → IsTrue (is_expr sc e room) → IsTrue (are_stmts sc a r)
    → OneOf else_texts two i t → ElseBehind sc r e a i s b → w ≡ (expr_text e ++ codes ") {\n") ++ ((stmts_text a ++ codes "}") ++ (t ++ b)) → Joined sc room (codes "if (") s w
if_join sc room r e a zero s t b w n h g o m q = record {
  fits = subst IsTrue (sym (ap (λ s. is_stmt sc s room) m.0 ∙ is_If sc e a None room)) (and_both (is_expr sc e room) (inside room (λ r. are_stmts sc a r && true)) h (of_inner room r (λ r. are_stmts sc a r && true) n (and_both (are_stmts sc a r) true g refl)));
  text = ap stmt_text m.0 ∙ text_If e a None ∙ if_text (expr_text e) (stmts_text a) ∙ ap (λ y. codes "if (" ++ y) (sym (q ∙ ap₂ (λ y z. (expr_text e ++ codes ") {\n") ++ ((stmts_text a ++ codes "}") ++ (y ++ z))) o.text m.1));
}
  where
    if_text : (e a : List ℕ) → codes "if (" ++ e ++ codes ") {\n" ++ a ++ [] ++ codes "}\n" ≡ codes "if (" ++ ((e ++ codes ") {\n") ++ ((a ++ codes "}") ++ (codes "\n" ++ [])))
    if_text e a = simp (append_assoc, append-nil)
if_join sc room r e a (suc zero) s t b w n h g o m q =
    let d = m.part in record {
      fits = subst IsTrue (sym (ap (λ s. is_stmt sc s room) m.is ∙ is_If sc e a (Some d) room)) (and_both (is_expr sc e room) (inside room (λ r. are_stmts sc a r && are_stmts sc d r)) h (of_inner room r (λ r. are_stmts sc a r && are_stmts sc d r) n (and_both (are_stmts sc a r) (are_stmts sc d r) g m.of.fits)));
      text = ap stmt_text m.is ∙ text_If e a (Some d) ∙ else_text (expr_text e) (stmts_text a) (stmts_text d) ∙ ap (λ y. codes "if (" ++ y) (sym (q ∙ ap₂ (λ y z. (expr_text e ++ codes ") {\n") ++ ((stmts_text a ++ codes "}") ++ (y ++ z))) o.text m.of.text));
    }
  where
    else_text : (e a d : List ℕ) → codes "if (" ++ e ++ codes ") {\n" ++ a ++ (codes "} else {\n" ++ d) ++ codes "}\n" ≡ codes "if (" ++ ((e ++ codes ") {\n") ++ ((a ++ codes "}") ++ (codes " else {\n" ++ (d ++ (codes "}" ++ codes "\n")))))
    else_text e a d = else_left (codes "if (") e (codes ") {\n") a (codes "} else {\n") d (codes "}\n") ∙ sym (if_parts (codes "if (") e (codes ") {\n") a (codes "}") (codes " else {\n" ++ (d ++ (codes "}" ++ codes "\n"))))
if_join sc room r e a (suc (suc i)) s t b w n h g o m q = absurd (omega (arith, o.within))

pub join_stmt : (sc : Scope) (room : Option ℕ) (k : ℕ) (s : CStmt) (w : List ℕ) → suc k < 16 → StmtBehind sc room k s w → Joined sc room (get_or keywords (suc k) []) s w
join_stmt sc room zero s w l m = record {
  fits = subst IsTrue (sym (ap (λ s. is_stmt sc s room) m.0 ∙ is_Return sc room)) refl;
  text = ap stmt_text m.0 ∙ text_Return ∙ ap (λ x. codes "return;\n" ++ x) (sym m.1);
}
join_stmt sc room (suc zero) s w l m = record {
  fits = subst IsTrue (sym (ap (λ s. is_stmt sc s room) m.0 ∙ is_Enter sc room)) refl;
  text = ap stmt_text m.0 ∙ text_Enter ∙ ap (λ x. codes "enter();\n" ++ x) (sym m.1);
}
join_stmt sc room (suc (suc zero)) s w l m = record {
  fits = subst IsTrue (sym (ap (λ s. is_stmt sc s room) m.0 ∙ is_Leave sc room)) refl;
  text = ap stmt_text m.0 ∙ text_Leave ∙ ap (λ x. codes "leave();\n" ++ x) (sym m.1);
}
join_stmt sc room (suc (suc (suc zero))) s w l m =
    let n = m.part in
    let j = assigned_join sc room (int.Local n) m.goes_on.0 s m.back (of_lt n sc.ints m.begins.below) m.goes_on.1 in record {
      fits = j.fits;
      text = j.text ∙ ap (λ y. y ++ (codes " = " ++ m.back)) (name_v n) ∙ ap (λ y. codes "v" ++ y) (sym (m.whole ∙ ap (λ y. y ++ m.back) m.begins.text ∙ append_assoc (decimal n) (codes " = ") m.back));
    }
join_stmt sc room (suc (suc (suc (suc zero)))) s w l m =
    let n = m.part in
    let j = assigned_join sc room (int.Global n) m.goes_on.0 s m.back (of_lt n sc.global_ints m.begins.below) m.goes_on.1 in record {
      fits = j.fits;
      text = j.text ∙ ap (λ y. y ++ (codes " = " ++ m.back)) (name_g n) ∙ ap (λ y. codes "g" ++ y) (sym (m.whole ∙ ap (λ y. y ++ m.back) m.begins.text ∙ append_assoc (decimal n) (codes " = ") m.back));
    }
join_stmt sc room (suc (suc (suc (suc (suc zero))))) s w l m =
    let n = m.part.0 in
    let j = stored_join sc room (buf.Local n) m.part.1 s m.begins.back m.back (of_lt n sc.bufs m.begins.below) m.begins.sign m.goes_on in record {
      fits = j.fits;
      text = j.text ∙ ap (λ y. y ++ (m.begins.back ++ m.back)) (name_b n) ∙ ap (λ y. codes "b" ++ y) (sym (m.whole ∙ ap (λ y. y ++ m.back) m.begins.text ∙ append_assoc (decimal n) m.begins.back m.back));
    }
join_stmt sc room (suc (suc (suc (suc (suc (suc zero)))))) s w l m =
    let n = m.part.0 in
    let j = stored_join sc room (buf.Global n) m.part.1 s m.begins.back m.back (of_lt n sc.global_bufs m.begins.below) m.begins.sign m.goes_on in record {
      fits = j.fits;
      text = j.text ∙ ap (λ y. y ++ (m.begins.back ++ m.back)) (name_h n) ∙ ap (λ y. codes "h" ++ y) (sym (m.whole ∙ ap (λ y. y ++ m.back) m.begins.text ∙ append_assoc (decimal n) m.begins.back m.back));
    }
join_stmt sc room (suc (suc (suc (suc (suc (suc (suc zero))))))) s w l m =
    let p = m.part in record {
      fits = subst IsTrue (sym (ap (λ s. is_stmt sc s room) m.is ∙ is_Free sc p room)) m.of.fits;
      text = ap stmt_text m.is ∙ text_Free p ∙ append_assoc (codes "drop(") (buf_name p) (codes ");\n") ∙ ap (λ y. codes "drop(" ++ y) (sym m.of.text);
    }
join_stmt sc room (suc (suc (suc (suc (suc (suc (suc (suc zero)))))))) s w l m =
    let e = m.part.0 in let f = m.part.1 in record {
      fits = subst IsTrue (sym (ap (λ s. is_stmt sc s room) m.is ∙ is_PutNum sc e f room)) (and_both (is_expr sc e room) (is_expr sc f room) m.of.left m.of.right);
      text = ap stmt_text m.is ∙ text_PutNum e f ∙ g5 (codes "put_num(") (expr_text e) (codes ", ") (expr_text f) (codes ");\n") ∙ ap (λ y. codes "put_num(" ++ y) (sym m.of.text);
    }
join_stmt sc room (suc (suc (suc (suc (suc (suc (suc (suc (suc zero))))))))) s w l m =
    let e = m.part in record {
      fits = subst IsTrue (sym (ap (λ s. is_stmt sc s room) m.is ∙ is_PutChar sc e room)) m.of.fits;
      text = ap stmt_text m.is ∙ text_PutChar e ∙ append_assoc (codes "put_char(") (expr_text e) (codes ");\n") ∙ ap (λ y. codes "put_char(" ++ y) (sym m.of.text);
    }
join_stmt sc room (suc (suc (suc (suc (suc (suc (suc (suc (suc (suc zero)))))))))) s w l m =
    let name = m.part in let r = m.goes_on in let n = r.part in record {
      fits = subst IsTrue (sym (ap (λ s. is_stmt sc s room) r.is ∙ is_At sc name (pos n) room)) (and_both (is_name name) (nat_lt n (2 ^ 63)) m.begins.fits (of_lt n (2 ^ 63) r.of.below));
      text = ap stmt_text r.is ∙ text_At name (pos n) ∙ g5 (codes "at(\"") name (codes "\", ") (decimal n) (codes ");\n")
          ∙ ap (λ y. codes "at(\"" ++ y) (sym (m.whole ∙ ap₂ (λ y z. y ++ z) m.begins.text r.of.text ∙ append_assoc name (codes "\", ") (decimal n ++ codes ");\n")));
    }
join_stmt sc room (suc (suc (suc (suc (suc (suc (suc (suc (suc (suc (suc zero))))))))))) s w l m = called_join sc room m.0 s w m.1
join_stmt sc room (suc (suc (suc (suc (suc (suc (suc (suc (suc (suc (suc (suc zero)))))))))))) s w l i =
    let z = from_inner (IfBehind sc room) room s w i in
    let m = z.2 in let m2 = m.goes_on in let m3 = m2.goes_on in
    if_join sc room z.0 m.part m2.part m3.part s m3.front m3.back w z.1 m.begins.fits m2.begins.fits m3.begins m3.goes_on (cc (m.whole, m.begins.text, m2.whole, m2.begins.text, m3.whole))
join_stmt sc room (suc (suc (suc (suc (suc (suc (suc (suc (suc (suc (suc (suc (suc zero))))))))))))) s w l i =
    let z = from_inner (WhileBehind sc room) room s w i in
    let m = z.2 in let e = m.part in let m2 = m.goes_on in let a = m2.part in record {
      fits = subst IsTrue (sym (ap (λ s. is_stmt sc s room) m2.is ∙ is_While sc e a room)) (and_both (is_expr sc e room) (inside room (are_stmts sc a)) m.begins.fits (of_inner room z.0 (are_stmts sc a) z.1 m2.of.fits));
      text = ap stmt_text m2.is ∙ text_While e a ∙ while_text (expr_text e) (stmts_text a) ∙ ap (λ y. codes "while (" ++ y) (sym (cc (m.whole, m.begins.text, m2.of.text)));
    }
  where
    while_text : (e a : List ℕ) → codes "while (" ++ e ++ codes ") {\n" ++ a ++ codes "}\n" ≡ codes "while (" ++ ((e ++ codes ") {\n") ++ (a ++ (codes "}" ++ codes "\n")))
    while_text e a = simp append_assoc
join_stmt sc room (suc (suc (suc (suc (suc (suc (suc (suc (suc (suc (suc (suc (suc (suc zero)))))))))))))) s w l i =
    let z = from_inner (SwitchBehind sc) room s w i in
    let m = z.2 in let x = m.part in let m2 = m.goes_on in let arms = m2.part.0 in let d = m2.part.1 in
    let tests = map (arm_test sc) arms in record {
      fits = subst IsTrue (sym (ap (λ s. is_stmt sc s room) m2.is ∙ is_Switch sc x arms d room)) (and_both (is_int sc x && rise tests) (inside room (λ r. arms_fit tests r && inside r (are_stmts sc d)))
          (and_both (is_int sc x) (rise tests) m.begins.fits m2.of.rise) (of_inner room z.0 (λ r. arms_fit tests r && inside r (are_stmts sc d)) z.1 (and_both (arms_fit tests z.0) (inside z.0 (are_stmts sc d)) m2.of.arms m2.of.default)));
      text = ap stmt_text m2.is ∙ text_Switch x arms d ∙ switch_text (int_name x) (arms_text arms) (stmts_text d) ∙ ap (λ y. codes "switch (" ++ y) (sym (cc (m.whole, m.begins.text, m2.of.text)));
    }
  where
    switch_text : (x a d : List ℕ) → codes "switch (" ++ x ++ codes ") {\n" ++ a ++ codes "default: {\n" ++ d ++ codes "} break;\n}\n" ≡ codes "switch (" ++ ((x ++ codes ") {\n") ++ (a ++ (codes "default: {\n" ++ (d ++ codes "} break;\n}\n"))))
    switch_text x a d = simp append_assoc
join_stmt sc room (suc (suc (suc (suc (suc (suc (suc (suc (suc (suc (suc (suc (suc (suc (suc k))))))))))))))) s w l m = absurd (omega (arith, l))

abbrev pub Keyed : Scope → Option ℕ → List CStmt → List ℕ → Type 0
Keyed sc room = Bind (OneOf keywords (may sc room)) (BlockBehind sc room)

pub within_block : (sc : Scope) (room : Option ℕ) (s : List ℕ) → Within s (Keyed sc room) (Block sc room)
within_block sc room s = same (λ ss w m. into ss w m.part m.front m.back m.begins m.goes_on m.whole) (λ ss w x. from ss w x)
  where
    into : (ss : List CStmt) (w : List ℕ) (k : ℕ) (x y : List ℕ) → OneOf keywords (may sc room) k x → BlockBehind sc room k ss y → w ≡ x ++ y → Block sc room ss w
    into ss w zero x y o m e = record {
      fits = subst (λ q. IsTrue (are_stmts sc q room)) (sym m.0) refl;
      text = e ∙ ap (λ z. x ++ z) m.1 ∙ append-nil x ∙ o.text ∙ ap (λ q. stmts_text q ++ codes "}") (sym m.0);
    }
    into ss w (suc k) x y o m e =
        let j = join_stmt sc room k m.part m.front o.within m.begins in
        let n = m.goes_on in let t = n.part in
        record {
          fits = subst (λ q. IsTrue (are_stmts sc q room)) (sym n.is) (and_both (is_stmt sc m.part room) (are_stmts sc t room) j.fits n.of.fits);
          text = e ∙ cc (o.text, m.whole)
              ∙ sym (append_assoc (get_or keywords (suc k) []) m.front m.back)
              ∙ ap₂ (λ p q. p ++ q) (sym j.text) n.of.text
              ∙ sym (append_assoc (stmt_text m.part) (stmts_text t) (codes "}"))
              ∙ ap (λ q. stmts_text q ++ codes "}") (sym n.is);
        }

    from : (ss : List CStmt) (w : List ℕ) → Block sc room ss w → Keyed sc room ss w
    from [] w m = record { part = 0; front = codes "}"; back = []; begins = record { within = omega arith; text = refl; may = refl }; goes_on = (refl, refl); whole = m.text }
    from (t ∷ ss) w m =
        let f = both (is_stmt sc t room) (are_stmts sc ss room) m.fits in
        let p = split_stmt sc room t f.0 in
        let rest : List ℕ = stmts_text ss ++ codes "}" in
        record {
          part = suc p.keyword;
          front = get_or keywords (suc p.keyword) [];
          back = p.back ++ rest;
          begins = record { within = p.within; text = refl; may = p.may_be };
          goes_on = bind_at t p.back rest p.behind (map_at (λ ss. t ∷ ss) ss (record { fits = f.1; text = refl }));
          whole = m.text ∙ append_assoc (stmt_text t) (stmts_text ss) (codes "}") ∙ ap (λ x. x ++ rest) p.text ∙ append_assoc (get_or keywords (suc p.keyword) []) p.back rest;
        }

-- ---- There is always an end

pub some_block : (sc : Scope) (room : Option ℕ) → Some_of (Block sc room)
some_block sc room = ([], (codes "}", record { fits = refl; text = refl }))

pub some_block_then : (sc : Scope) (room : Option ℕ) (t : List ℕ) → Some_of (BlockThen sc room t)
some_block_then sc room t = ([], (codes "}" ++ t, record { fits = refl; text = refl }))

some_inner : {A : Type 0} (L : Option ℕ → A → List ℕ → Type 0) (room : Option ℕ) → has_room room ≡ true → ((r : Option ℕ) → Some_of (L r)) → Some_of (Inner room L)
some_inner L None h f = f None
some_inner L (Some zero) h f = absurd (cc h)
some_inner L (Some (suc n)) h f = f (Some n)

pub some_else : (sc : Scope) (r : Option ℕ) (e : CExpr) (a : List CStmt) (i : ℕ) → Some_of (ElseBehind sc r e a i)
some_else sc r e a zero = some_pure (st.If e a None)
some_else sc r e a (suc i) = some_map (λ b. st.If e a (Some b)) (some_block_then sc r (codes "\n"))

pub some_chosen : (sc : Scope) (r : Option ℕ) (e : CExpr) (a : List CStmt) → Some_of (Bind (OneOf else_texts two) (ElseBehind sc r e a))
some_chosen sc r e a = some_bind (0, (codes "\n", record { within = omega arith; text = refl; may = refl })) (some_else sc r e a)

pub some_if : (sc : Scope) (room r : Option ℕ) → Some_of (IfBehind sc room r)
some_if sc room r = some_bind (some_expr_then sc room (codes ") {\n")) (λ e. some_bind (some_block sc r) (λ a. some_chosen sc r e a))

pub some_while : (sc : Scope) (room r : Option ℕ) → Some_of (WhileBehind sc room r)
some_while sc room r = some_bind (some_expr_then sc room (codes ") {\n")) (λ e. some_map (λ a. st.While e a) (some_block_then sc r (codes "\n")))

pub some_arms : (sc : Scope) (r : Option ℕ) (low : ℕ) → has_room r ≡ true → Some_of (Arms sc r low)
some_arms sc r low h = (([], []), (codes "default: {\n" ++ codes "} break;\n}\n", record { rise = refl; arms = refl; default = default r h; text = refl }))
  where
    default : (r : Option ℕ) → has_room r ≡ true → IsTrue (inside r (are_stmts sc []))
    default None h = refl
    default (Some zero) h = absurd (cc h)
    default (Some (suc n)) h = refl

pub some_switch : (sc : Scope) (r : Option ℕ) → has_room r ≡ true → some_of sc.ints sc.global_ints ≡ true → Some_of (SwitchBehind sc r)
some_switch sc r h g = some_bind (some_int_then sc (codes ") {\n") g) (λ x. some_map (λ y. st.Switch x y.0 y.1) (some_arms sc r 0 h))

both_true : (a b : Bool) → (a && b) ≡ true → (a ≡ true) × (b ≡ true)
both_true true b h = (refl, h)
both_true false b h = absurd (cc h)

some_switches : (sc : Scope) (room : Option ℕ) → (has_rooms room && some_of sc.ints sc.global_ints) ≡ true → Some_of (Inner room (SwitchBehind sc))
some_switches sc None h = some_switch sc None refl h
some_switches sc (Some zero) h = absurd (cc h)
some_switches sc (Some (suc n)) h = let z = both_true (nat_lt 0 n) (some_of sc.ints sc.global_ints) h in some_switch sc (Some n) (has n z.0) z.1
  where
    has : (n : ℕ) → nat_lt 0 n ≡ true → has_room (Some n) ≡ true
    has zero h = absurd (cc h)
    has (suc n) h = refl

pub some_behind : (sc : Scope) (room : Option ℕ) (k : ℕ) → 0 < sc.functions → suc k < 16 → get_or (may sc room) (suc k) false ≡ true → Some_of (StmtBehind sc room k)
some_behind sc room zero f l h = some_pure st.Return
some_behind sc room (suc zero) f l h = some_pure st.Enter
some_behind sc room (suc (suc zero)) f l h = some_pure st.Leave
some_behind sc room (suc (suc (suc zero))) f l h = some_bind (some_number_then sc.ints (codes " = ") (lt_of 0 sc.ints h)) (λ n. some_assigned sc room (int.Local n))
some_behind sc room (suc (suc (suc (suc zero)))) f l h = some_bind (some_number_then sc.global_ints (codes " = ") (lt_of 0 sc.global_ints h)) (λ n. some_assigned sc room (int.Global n))
some_behind sc room (suc (suc (suc (suc (suc zero))))) f l h = some_bind ((0, 0), (decimal 0 ++ codes "[", record { below = lt_of 0 sc.bufs h; back = codes "["; sign = record { within = omega arith; text = refl; may = refl }; text = refl })) (λ x. some_stored sc room (buf.Local x.0) x.1)
some_behind sc room (suc (suc (suc (suc (suc (suc zero)))))) f l h = some_bind ((0, 0), (decimal 0 ++ codes "[", record { below = lt_of 0 sc.global_bufs h; back = codes "["; sign = record { within = omega arith; text = refl; may = refl }; text = refl })) (λ x. some_stored sc room (buf.Global x.0) x.1)
some_behind sc room (suc (suc (suc (suc (suc (suc (suc zero))))))) f l h = some_map (λ p. st.Free p) (some_buf_then sc (codes ");\n") h)
some_behind sc room (suc (suc (suc (suc (suc (suc (suc (suc zero)))))))) f l h = some_map (λ x. st.PutNum x.0 x.1) (some_two_exprs sc room (codes ", ") (codes ");\n"))
some_behind sc room (suc (suc (suc (suc (suc (suc (suc (suc (suc zero))))))))) f l h = some_map (λ e. st.PutChar e) (some_expr_then sc room (codes ");\n"))
some_behind sc room (suc (suc (suc (suc (suc (suc (suc (suc (suc (suc zero)))))))))) f l h = some_bind (some_name_then (codes "\", ")) (λ name. some_map (λ n. st.At name (pos n)) (some_number_then (2 ^ 63) (codes ");\n") (omega arith)))
some_behind sc room (suc (suc (suc (suc (suc (suc (suc (suc (suc (suc (suc zero))))))))))) f l h = some_called sc f
some_behind sc room (suc (suc (suc (suc (suc (suc (suc (suc (suc (suc (suc (suc zero)))))))))))) f l h = some_inner (IfBehind sc room) room h (some_if sc room)
some_behind sc room (suc (suc (suc (suc (suc (suc (suc (suc (suc (suc (suc (suc (suc zero))))))))))))) f l h = some_inner (WhileBehind sc room) room h (some_while sc room)
some_behind sc room (suc (suc (suc (suc (suc (suc (suc (suc (suc (suc (suc (suc (suc (suc zero)))))))))))))) f l h = some_switches sc room h
some_behind sc room (suc (suc (suc (suc (suc (suc (suc (suc (suc (suc (suc (suc (suc (suc (suc k))))))))))))))) f l h = absurd (omega (arith, l))

pub joint_keyword : (sc : Scope) (room : Option ℕ) → 0 < sc.functions → Joint Any (OneOf keywords (may sc room)) Any (BlockBehind sc room)
joint_keyword sc room f = joint_any (λ k w o. some k o.within o.may)
  where
    some : (k : ℕ) → k < 16 → get_or (may sc room) k false ≡ true → Some_of (BlockBehind sc room k)
    some zero l h = some_pure []
    some (suc k) l h = some_bind (some_behind sc room k f l h) (λ s. some_map (λ ss. s ∷ ss) (some_block sc room))

pub joint_stmt : (sc : Scope) (room : Option ℕ) (k : ℕ) → Joint Any (StmtBehind sc room k) Any (λ s. Map (λ ss. s ∷ ss) (Block sc room))
joint_stmt sc room k = joint_any (λ s w o. some_map (λ ss. s ∷ ss) (some_block sc room))

-- ---- How the loop goes

pub keyword_shorter : (sc : Scope) (room : Option ℕ) {s rest : List ℕ} {k : ℕ} → Found Any (OneOf keywords (may sc room)) s k rest → length rest < length s
keyword_shorter sc room {s} {rest} {k} f =
    let l = length_of k f.is.within in
    let e : length s ≡ length (get_or keywords k []) + length rest = ap length f.here ∙ length-append f.text rest ∙ ap (λ x. length x + length rest) f.is.text in
    omega (arith, l, e)
  where
    length_of : (k : ℕ) → k < 16 → 0 < length (get_or keywords k [])
    length_of zero l = omega arith
    length_of (suc zero) l = omega arith
    length_of (suc (suc zero)) l = omega arith
    length_of (suc (suc (suc zero))) l = omega arith
    length_of (suc (suc (suc (suc zero)))) l = omega arith
    length_of (suc (suc (suc (suc (suc zero))))) l = omega arith
    length_of (suc (suc (suc (suc (suc (suc zero)))))) l = omega arith
    length_of (suc (suc (suc (suc (suc (suc (suc zero))))))) l = omega arith
    length_of (suc (suc (suc (suc (suc (suc (suc (suc zero)))))))) l = omega arith
    length_of (suc (suc (suc (suc (suc (suc (suc (suc (suc zero))))))))) l = omega arith
    length_of (suc (suc (suc (suc (suc (suc (suc (suc (suc (suc zero)))))))))) l = omega arith
    length_of (suc (suc (suc (suc (suc (suc (suc (suc (suc (suc (suc zero))))))))))) l = omega arith
    length_of (suc (suc (suc (suc (suc (suc (suc (suc (suc (suc (suc (suc zero)))))))))))) l = omega arith
    length_of (suc (suc (suc (suc (suc (suc (suc (suc (suc (suc (suc (suc (suc zero))))))))))))) l = omega arith
    length_of (suc (suc (suc (suc (suc (suc (suc (suc (suc (suc (suc (suc (suc (suc zero)))))))))))))) l = omega arith
    length_of (suc (suc (suc (suc (suc (suc (suc (suc (suc (suc (suc (suc (suc (suc (suc zero))))))))))))))) l = omega arith
    length_of (suc (suc (suc (suc (suc (suc (suc (suc (suc (suc (suc (suc (suc (suc (suc (suc k)))))))))))))))) l = absurd (omega (arith, l))

abbrev pub Before : Scope → Option ℕ → List CStmt → List CStmt → List ℕ → Type 0
Before sc room before = Map (λ ss. before ++ ss) (Block sc room)

abbrev pub Lines : Scope → Option ℕ → List CStmt → List ℕ → List CStmt → List ℕ → Type 0
Lines sc room before s done rest = Leads (Before sc room before) s (λ ss. done ++ ss) (Block sc room) rest

pub lines_start : (sc : Scope) (room : Option ℕ) (before : List CStmt) (s : List ℕ) → Lines sc room before s before s
lines_start sc room before s = leads_map (λ ss. before ++ ss) (leads_start (Before sc room before) s)

lines_keyed : {sc : Scope} {room : Option ℕ} (before done : List CStmt) {s rest : List ℕ} → Lines sc room before s done rest → Leads (Before sc room before) s (λ ss. done ++ ss) (Keyed sc room) rest
lines_keyed {sc} {room} before done {s} {rest} g = leads_within (within_block sc room rest) g

pub lines_next : {sc : Scope} {room : Option ℕ} (before done : List CStmt) {s rest behind next : List ℕ} {t : CStmt} (k : ℕ) → 0 < k → 0 < sc.functions → Lines sc room before s done rest
    → Found Any (OneOf keywords (may sc room)) rest k behind → Found Any (StmtBehind sc room (k - 1)) behind t next → Lines sc room before s (done ++ t ∷ []) next
lines_next before done zero l q g f h = absurd (omega (arith, l))
lines_next {sc} {room} before done {s} {rest} {behind} {next} {t} (suc k) l q g f h =
    let h1 : Found Any (StmtBehind sc room k) behind t next = subst (λ n. Found Any (StmtBehind sc room n) behind t next) (omega arith) h in
    leads_as (λ ss. (done ++ t ∷ []) ++ ss) (λ ss. sym (append_assoc done (t ∷ []) ss))
    (leads_map (λ ss. t ∷ ss) (leads_bind (joint_stmt sc room k) (leads_bind (joint_keyword sc room q) (lines_keyed before done g) f) h1))

pub lines_end : {sc : Scope} {room : Option ℕ} (before done : List CStmt) {s rest behind : List ℕ} (k : ℕ) → k ≡ 0 → 0 < sc.functions → Lines sc room before s done rest
    → Found Any (OneOf keywords (may sc room)) rest k behind → Found Any (Before sc room before) s done behind
lines_end {sc} {room} before done {s} {rest} {behind} k e q g f =
    let f1 : Found Any (OneOf keywords (may sc room)) rest 0 behind = subst (λ n. Found Any (OneOf keywords (may sc room)) rest n behind) e f in
    subst (λ q. Found Any (Before sc room before) s q behind) (append-nil done) (leads_pure [] (leads_bind (joint_keyword sc room q) (lines_keyed before done g) f1))

pub lines_keyword : {sc : Scope} {room : Option ℕ} (before done : List CStmt) {s rest : List ℕ} {h : Halt} → 0 < sc.functions → Lines sc room before s done rest
    → Halts Any (OneOf keywords (may sc room)) rest h → Halts Any (Before sc room before) s h
lines_keyword {sc} {room} before done q g f = leads_first (joint_keyword sc room q) (lines_keyed before done g) f

pub lines_stmt : {sc : Scope} {room : Option ℕ} (before done : List CStmt) {s rest behind : List ℕ} {h : Halt} (k : ℕ) → 0 < k → 0 < sc.functions → Lines sc room before s done rest
    → Found Any (OneOf keywords (may sc room)) rest k behind → Halts Any (StmtBehind sc room (k - 1)) behind h → Halts Any (Before sc room before) s h
lines_stmt before done zero l q g f x = absurd (omega (arith, l))
lines_stmt {sc} {room} before done {s} {rest} {behind} {h} (suc k) l q g f x =
    let x1 : Halts Any (StmtBehind sc room k) behind h = subst (λ n. Halts Any (StmtBehind sc room n) behind h) (omega arith) x in
    leads_first (joint_stmt sc room k) (leads_bind (joint_keyword sc room q) (lines_keyed before done g) f) x1

-- nothing before a block
pub within_before : (sc : Scope) (room : Option ℕ) (none : List CStmt) (s : List ℕ) → none ≡ [] → Within s (Before sc room none) (Block sc room)
within_before sc room none s e = same
    (λ ss w m. subst (λ x. Block sc room x w) (sym (m.is ∙ ap (λ x. x ++ m.part) e)) m.of)
    (λ ss w m. record { part = ss; is = ap (λ x. x ++ ss) (sym e); of = m })

-- ---- A block behind its first keyword

pub behind_none : (sc : Scope) (room : Option ℕ) (k : ℕ) (s : List ℕ) (none : List CStmt) → k ≡ 0 → none ≡ [] → Found Any (BlockBehind sc room k) s none s
behind_none sc room k s none e q = subst (λ k. Found Any (BlockBehind sc room k) s none s) (sym e) (subst (λ x. Found Any (Pure {A = List CStmt} []) s x s) (sym q) (pure_found [] s))

pub behind_halts : (sc : Scope) (room : Option ℕ) (k : ℕ) {s : List ℕ} {h : Halt} → (k ≡ 0 → ⊥) → Halts Any (StmtBehind sc room (k - 1)) s h → Halts Any (BlockBehind sc room k) s h
behind_halts sc room zero n f = absurd (n refl)
behind_halts sc room (suc k) {s} {h} n f =
    let f1 : Halts Any (StmtBehind sc room k) s h = subst (λ n. Halts Any (StmtBehind sc room n) s h) (omega arith) f in
    halts_first (joint_stmt sc room k) f1

pub behind_reads : (sc : Scope) (room : Option ℕ) (k : ℕ) {s next : List ℕ} {t : CStmt} (before : List CStmt) (x : Result (List CStmt × Bor (List ℕ)) Halt) → (k ≡ 0 → ⊥) → before ≡ t ∷ []
    → Found Any (StmtBehind sc room (k - 1)) s t next → Reads Any (Before sc room before) next x → Reads Any (BlockBehind sc room k) s x
behind_reads sc room zero before x n e f g = absurd (n refl)
behind_reads sc room (suc k) {s} {next} {t} before x n e f g =
    let f1 : Found Any (StmtBehind sc room k) s t next = subst (λ n. Found Any (StmtBehind sc room n) s t next) (omega arith) f in
    reads_later x (joint_stmt sc room k) f1 (subst (λ b. Reads Any (Before sc room b) next x) e g)

-- ---- Keywords among the openings

-- a choice that is not among the last of a list
pub mask_short : (l : List Bool) (i : ℕ) → get_or (l ++ (false ∷ [])) i false ≡ true → i < length l
mask_short [] zero h = absurd (cc h)
mask_short [] (suc i) h = absurd (cc h)
mask_short (b ∷ l) zero h = omega arith
mask_short (b ∷ l) (suc i) h = let r = mask_short l i h in omega (arith, r)

-- an opening that is a keyword
pub keyword_of : (sc : Scope) (room : Option ℕ) (b x : Bool) (i : ℕ) (w : List ℕ) → i < 16 → OneOf openings (opening_may sc room b x) i w → OneOf keywords (may sc room) i w
keyword_of sc room b x i w l o = record {
  within = l;
  text = o.text ∙ get_or_append_left keywords (codes "int64_t *b0 = 0" ∷ codes "int64_t v0" ∷ []) [] i l;
  may = sym (get_or_append_left (may sc room) (b ∷ x ∷ []) false i l) ∙ o.may;
}

pub of_keyword : (sc : Scope) (room : Option ℕ) (b x : Bool) (i : ℕ) (w : List ℕ) → OneOf keywords (may sc room) i w → OneOf openings (opening_may sc room b x) i w
of_keyword sc room b x i w o = record {
  within = let l = o.within in omega (arith, l);
  text = o.text ∙ sym (get_or_append_left keywords (codes "int64_t *b0 = 0" ∷ codes "int64_t v0" ∷ []) [] i o.within);
  may = get_or_append_left (may sc room) (b ∷ x ∷ []) false i o.within ∙ o.may;
}

pub within_keyword : (sc : Scope) (room : Option ℕ) (s : List ℕ) → Within s (OneOf openings (opening_may sc room false false)) (OneOf keywords (may sc room))
within_keyword sc room s = same
    (λ i w o. let a = mask_short (may sc room ++ (false ∷ [])) i o.may in short i w o a)
    (λ i w o. of_keyword sc room false false i w o)
  where
    short : (i : ℕ) (w : List ℕ) → OneOf openings (opening_may sc room false false) i w → i < 17 → OneOf keywords (may sc room) i w
    short i w o l =
        let p = get_or_append_left (may sc room ++ (false ∷ [])) (false ∷ []) false i l in
        let k = mask_short (may sc room) i (sym p ∙ o.may) in
        keyword_of sc room false false i w k o

-- ---- Pieces

pub within_block_then : {s : List ℕ} (sc : Scope) (room : Option ℕ) (t : List ℕ) → Within s (Bind (Block sc room) (λ ss. Map (λ u. ss) (Lit t))) (BlockThen sc room t)
within_block_then sc room t = same
    (λ ss w m. let r = m.goes_on in record {
      fits = subst (λ x. IsTrue (are_stmts sc x room)) (sym r.is) m.begins.fits;
      text = cc (m.whole, m.begins.text, r.of) ∙ append_assoc (stmts_text m.part) (codes "}") t ∙ ap (λ x. stmts_text x ++ (codes "}" ++ t)) (sym r.is);
    })
    (λ ss w m. let P : List ℕ → Type 0 = λ w. Bind (Block sc room) (λ ss. Map (λ u. ss) (Lit t)) ss w in subst P (append_assoc (stmts_text ss) (codes "}") t ∙ sym m.text)
    (bind_at ss (stmts_text ss ++ codes "}") t (record { fits = m.fits; text = refl }) (map_at (λ u. ss) tt refl)))

pub joint_block_then : (sc : Scope) (room : Option ℕ) (t : List ℕ) → Joint Any (Block sc room) Any (λ ss. Map (λ u. ss) (Lit t))
joint_block_then sc room t = joint_any (λ ss w o. some_map (λ u. ss) (tt, (t, refl)))

pub joint_if : (sc : Scope) (room r : Option ℕ) → Joint Any (ExprThen sc room (codes ") {\n")) Any (λ e. Bind (Block sc r) (λ a. Bind (OneOf else_texts two) (ElseBehind sc r e a)))
joint_if sc room r = joint_any (λ e w o. some_bind (some_block sc r) (λ a. some_chosen sc r e a))

pub joint_first : (sc : Scope) (r : Option ℕ) (e : CExpr) → Joint Any (Block sc r) Any (λ a. Bind (OneOf else_texts two) (ElseBehind sc r e a))
joint_first sc r e = joint_any (λ a w o. some_chosen sc r e a)

pub joint_else : (sc : Scope) (r : Option ℕ) (e : CExpr) (a : List CStmt) → Joint Any (OneOf else_texts two) Any (ElseBehind sc r e a)
joint_else sc r e a = joint_any (λ i w o. some_else sc r e a i)

pub joint_while : (sc : Scope) (room r : Option ℕ) → Joint Any (ExprThen sc room (codes ") {\n")) Any (λ e. Map (λ a. st.While e a) (BlockThen sc r (codes "\n")))
joint_while sc room r = joint_any (λ e w o. some_map (λ a. st.While e a) (some_block_then sc r (codes "\n")))

pub joint_switch : (sc : Scope) (r : Option ℕ) → has_room r ≡ true → Joint Any (IntThen sc (codes ") {\n")) Any (λ x. Map (λ y. st.Switch x y.0 y.1) (Arms sc r 0))
joint_switch sc r h = joint_any (λ x w o. some_map (λ y. st.Switch x y.0 y.1) (some_arms sc r 0 h))

pub first_else : {s rest : List ℕ} (i : ℕ) → i ≡ 0 → Found Any (OneOf else_texts two) s i rest → Found Any (OneOf else_texts two) s 0 rest
first_else {s} {rest} i e f = subst (λ i. Found Any (OneOf else_texts two) s i rest) e f

pub second_else : {s rest : List ℕ} (i : ℕ) → (i ≡ 0 → ⊥) → Found Any (OneOf else_texts two) s i rest → Found Any (OneOf else_texts two) s 1 rest
second_else zero n f = absurd (n refl)
second_else (suc zero) n f = f
second_else (suc (suc i)) n f = absurd (omega (arith, f.is.within))

pub inner_reads : (L : Option ℕ → CStmt → List ℕ → Type 0) (room r : Option ℕ) (s : List ℕ) (x : Result (CStmt × Bor (List ℕ)) Halt) → IsInner room (Some r) → Reads Any (L r) s x → Reads Any (Inner room L) s x
inner_reads L room r s x n f = reads_within Any x (within_inner L room r n) f

pub no_room : (sc : Scope) (room : Option ℕ) (k : ℕ) → 12 ≤ k → k < 15 → get_or (may sc room) (k + 1) false ≡ true → IsInner room None → ⊥
no_room sc None k l m h n = cc n
no_room sc (Some (suc r)) k l m h n = cc n
no_room sc (Some zero) k l m h n = elim (three k l m) [
  | inl e ↦ absurd (cc (subst (λ k. get_or (may sc (Some 0)) (k + 1) false ≡ true) e h))
  | inr p ↦ elim p [ inl e ↦ absurd (cc (subst (λ k. get_or (may sc (Some 0)) (k + 1) false ≡ true) e h)) | inr e ↦ absurd (cc (subst (λ k. get_or (may sc (Some 0)) (k + 1) false ≡ true) e h)) ]
]
  where
    three : (k : ℕ) → 12 ≤ k → k < 15 → (k ≡ 12) ⊎ ((k ≡ 13) ⊎ (k ≡ 14))
    three k l m = grind arith

pub switch_room : (sc : Scope) (room r : Option ℕ) (k : ℕ) → k ≡ 14 → get_or (may sc room) (k + 1) false ≡ true → IsInner room (Some r) → (has_room r ≡ true) × (some_of sc.ints sc.global_ints ≡ true)
switch_room sc room r k e h n = go room (both_true (has_rooms room) (some_of sc.ints sc.global_ints) (subst (λ k. get_or (may sc room) (k + 1) false ≡ true) e h)) n
  where
    room_one : (n : ℕ) → nat_lt 0 n ≡ true → has_room (Some n) ≡ true
    room_one zero h = absurd (cc h)
    room_one (suc n) h = refl

    go : (room : Option ℕ) → (has_rooms room ≡ true) × (some_of sc.ints sc.global_ints ≡ true) → IsInner room (Some r) → (has_room r ≡ true) × (some_of sc.ints sc.global_ints ≡ true)
    go None h n = let q : r ≡ None = cc in (subst (λ r. has_room r ≡ true) (sym q) refl, h.1)
    go (Some zero) h n = absurd (cc h.0)
    go (Some (suc m)) h n = let q : r ≡ Some m = cc in (subst (λ r. has_room r ≡ true) (sym q) (room_one m h.0), h.1)

pub step_back : (k : ℕ) → (k ≡ 0 → ⊥) → k - 1 + 1 ≡ k
step_back k n = omega (arith, n)
