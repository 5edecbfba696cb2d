-- Statements without blocks: how their pieces go together.
use Rattle.std.proofs.Common.{◌≡◌, ◌∙◌, ap, ap₂, sym, refl, subst, ℕ, zero, suc, ◌<◌, ◌≤◌, ◌^◌, List, [], ◌∷◌, ◌++◌, append_assoc, codes, decimal, pos, Option, Some, None, Bool, true, false, ◌&&◌, ◌||◌, IsTrue, nat_lt, nat_eq, arith, get_or}
use Rattle.aplc_cprof.specs.declared.syntax.Int.{Int}
use Rattle.aplc_cprof.specs.declared.syntax.Int.TheVariants as int
use Rattle.aplc_cprof.specs.declared.syntax.Buf.{Buf}
use Rattle.aplc_cprof.specs.declared.syntax.Buf.TheVariants as buf
use Rattle.aplc_cprof.specs.declared.syntax.Checked.TheVariants as checked
use Rattle.aplc_cprof.specs.declared.syntax.CExpr.{CExpr}
use Rattle.aplc_cprof.specs.declared.syntax.CExpr.TheVariants as ex
use Rattle.aplc_cprof.specs.declared.syntax.CStmt.{CStmt}
use Rattle.aplc_cprof.specs.declared.syntax.CStmt.TheVariants as st
use Rattle.aplc_cprof.specs.Text.{expr_text, int_name, buf_name}
use Rattle.aplc_cprof.specs.WellFormed.{Scope, is_int, is_buf}
use Rattle.aplc_cread.specs.Reading.{first, Found, Any, Bind, OneOf, Number, NumberThen, NoDigit, Map, After}
use Rattle.aplc_cread.specs.Exprs.{Expr, ExprThen, TwoExprs, Inner, IsInner}
use Rattle.aplc_cread.specs.Stmts.{IntThen, BufThen, NameThen, call_texts, five, CallBehind, AssignedBy, Assigned, is_call, buf_signs, two, Signed, source_texts, source_may, SourceBehind, StoredBehind, fault_texts, CalledBy, Called, is_fault, some_of}
use Rattle.aplc_cread.proofs.Rules.{Within, Some_of, same, Joint, joint_any, some_pure, some_map, bind_at, map_at, pair}
use Rattle.aplc_cread.proofs.Stmts.{or_left, positive_of}
use Rattle.aplc_cread.specs.Exprs as kind
use Rattle.aplc_cread.specs.Exprs.{Letter, Form, Indexed, Operation}
use Rattle.aplc_cread.proofs.Numbers.{decimal_first, digit_range}
use Rattle.aplc_cread.proofs.Exprs.{form_of, first_after, differs, lt_of, of_lt, from_inner, some_expr_then, some_two_exprs, some_number_then, name_v, name_g, name_b, name_h}

-- ---- What an expression begins with

abbrev pub plain_start : ℕ → Bool
plain_start c = (nat_lt c 97 || (nat_lt 97 c && nat_lt c 109)) || (nat_lt 115 c && nat_lt c 119)

form_start : (sc : Scope) (room : Option ℕ) (l : Letter) (e : CExpr) (w k : List ℕ) → Form sc room l e w → (c : ℕ) × (first (w ++ k) ≡ Some c) × (plain_start c ≡ true)
form_start sc room kind.LocalInt e w k m = (118, first_after k m, refl)
form_start sc room kind.GlobalInt e w k m = (103, first_after k m, refl)
form_start sc room kind.LocalBuf e w k m = let z = from_inner (λ r. After (codes "b") (Map (λ x. ex.Cell (buf.Local x.0) x.1) (Indexed sc.bufs sc r))) room e w m in (98, first_after k z.2, refl)
form_start sc room kind.GlobalBuf e w k m = let z = from_inner (λ r. After (codes "h") (Map (λ x. ex.Cell (buf.Global x.0) x.1) (Indexed sc.global_bufs sc r))) room e w m in (104, first_after k z.2, refl)
form_start sc room kind.InTable e w k m = let z = from_inner (λ r. After (codes "k") (Map (λ x. ex.Table x.0 x.1) (Indexed sc.tables sc r))) room e w m in (107, first_after k z.2, refl)
form_start sc room kind.Opened e w k m = let z = from_inner (λ r. After (codes "(") (Operation sc r)) room e w m in (40, first_after k z.2, refl)
form_start sc room kind.Digit e w k m =
    let d = decimal_first m.part (m.back ++ k) (omega (arith, m.begins.below)) in
    let r = digit_range d.0 d.2 in (
      d.0,
      ap first (ap (λ x. x ++ k) (m.whole ∙ ap (λ x. x ++ m.back) m.begins.text) ∙ append_assoc (decimal m.part) m.back k) ∙ d.1,
      or_left _ _ (or_left _ _ (of_lt d.0 97 (omega (arith, r)))),
    )

pub expr_start : (sc : Scope) (room : Option ℕ) (e : CExpr) (w k : List ℕ) → Expr sc room e w → (c : ℕ) × (first (w ++ k) ≡ Some c) × (plain_start c ≡ true)
expr_start sc room e w k x = let p = form_of sc room e w x in form_start sc room p.0 e w k p.1

not_there : (a b : Bool) → a ≡ false → b ≡ false → (a || b) ≡ false
not_there true b h k = absurd (cc h)
not_there false b h k = k

start_no_call : (c : ℕ) → plain_start c ≡ true → is_call (Some c) ≡ false
start_no_call c h =
    let d : (n : ℕ) → plain_start n ≡ false → nat_eq c n ≡ false = λ n f. differs c n (λ e. let z : plain_start n ≡ true = subst (λ x. plain_start x ≡ true) e h in absurd (clash f z)) in
    not_there _ _ (not_there _ _ (not_there _ _ (not_there _ _ (d 97 refl) (d 115 refl)) (d 109 refl)) (d 119 refl)) (d 114 refl)
  where
    clash : {b : Bool} → b ≡ false → b ≡ true → ⊥
    clash f z = cc (f, z)

-- ---- Assignments

call_first : (i : ℕ) (x : List ℕ) → i < 5 → is_call (first (get_or call_texts i [] ++ x)) ≡ true
call_first zero x l = refl
call_first (suc zero) x l = refl
call_first (suc (suc zero)) x l = refl
call_first (suc (suc (suc zero))) x l = refl
call_first (suc (suc (suc (suc zero)))) x l = refl
call_first (suc (suc (suc (suc (suc n))))) x l = absurd (omega (arith, l))

assigned_first : (sc : Scope) (room : Option ℕ) (x : Int) (c : Bool) (s : CStmt) (w k : List ℕ) → AssignedBy sc room x c s w → is_call (first (w ++ k)) ≡ c
assigned_first sc room x true s w k m =
    ap (λ y. is_call (first y)) (ap (λ y. y ++ k) (m.whole ∙ ap (λ y. y ++ m.back) m.begins.text) ∙ append_assoc (get_or call_texts m.part []) m.back k) ∙ call_first m.part (m.back ++ k) m.begins.within
assigned_first sc room x false s w k m =
    let z = expr_start sc room m.part (expr_text m.part) (codes ";\n" ++ k) (record { fits = m.of.fits; text = refl }) in
    ap (λ y. is_call (first y)) (ap (λ y. y ++ k) m.of.text ∙ append_assoc (expr_text m.part) (codes ";\n") k) ∙ ap is_call z.1 ∙ start_no_call z.0 z.2

pub within_assigned : (sc : Scope) (room : Option ℕ) (x : Int) (c : Bool) (s : List ℕ) → is_call (first s) ≡ c → Within s (AssignedBy sc room x c) (Assigned sc room x)
within_assigned sc room x c s f = record {
  into = λ a w m. (c, m);
  from = λ a w k m h. subst (λ b. AssignedBy sc room x b a w) (sym (assigned_first sc room x m.0 a w k m.1) ∙ ap is_call h ∙ f) m.1;
}

some_call : (sc : Scope) (room : Option ℕ) (x : Int) (i : ℕ) → i < 5 → Some_of (CallBehind sc room x i)
some_call sc room x zero l = some_map (λ y. st.Check x checked.Add y.0 y.1) (some_two_exprs sc room (codes ", ") (codes ");\n"))
some_call sc room x (suc zero) l = some_map (λ y. st.Check x checked.Sub y.0 y.1) (some_two_exprs sc room (codes ", ") (codes ");\n"))
some_call sc room x (suc (suc zero)) l = some_map (λ y. st.Check x checked.Mul y.0 y.1) (some_two_exprs sc room (codes ", ") (codes ");\n"))
some_call sc room x (suc (suc (suc zero))) l = some_map (λ e. st.Width x e) (some_expr_then sc room (codes ");\n"))
some_call sc room x (suc (suc (suc (suc n)))) l = some_pure (st.ReadCount x)

pub joint_call : (sc : Scope) (room : Option ℕ) (x : Int) → Joint Any (OneOf call_texts five) Any (CallBehind sc room x)
joint_call sc room x = joint_any (λ i w o. some_call sc room x i o.within)

pub some_assigned : (sc : Scope) (room : Option ℕ) (x : Int) → Some_of (Assigned sc room x)
some_assigned sc room x = let z = some_map (λ e. st.Set x e) (some_expr_then sc room (codes ";\n")) in (z.0, (z.1.0, (false, z.1.1)))

pub joint_local : (sc : Scope) (room : Option ℕ) → Joint Any (NumberThen sc.ints (codes " = ")) Any (λ n. Assigned sc room (int.Local n))
joint_local sc room = joint_any (λ n w o. some_assigned sc room (int.Local n))

pub joint_global : (sc : Scope) (room : Option ℕ) → Joint Any (NumberThen sc.global_ints (codes " = ")) Any (λ n. Assigned sc room (int.Global n))
joint_global sc room = joint_any (λ n w o. some_assigned sc room (int.Global n))

-- ---- Names and a fixed text behind them

abbrev pub int_letters : List (List ℕ)
int_letters = codes "v" ∷ codes "g" ∷ []

abbrev pub buf_letters : List (List ℕ)
buf_letters = codes "b" ∷ codes "h" ∷ []

abbrev pub either : ℕ → ℕ → List Bool
either a b = nat_lt 0 a ∷ nat_lt 0 b ∷ []

pub some_either : (a b : ℕ) → some_of a b ≡ true → (i : ℕ) × (i < 2) × (get_or (either a b) i false ≡ true)
some_either zero zero h = absurd (cc h)
some_either zero (suc b) h = (1, omega arith, of_lt 0 (suc b) (omega arith))
some_either (suc a) b h = (0, omega arith, of_lt 0 (suc a) (omega arith))

abbrev pub IntBehind : Scope → List ℕ → ℕ → Int → List ℕ → Type 0
IntBehind sc t zero = Map (λ n. int.Local n) (NumberThen sc.ints t)
IntBehind sc t (suc i) = Map (λ n. int.Global n) (NumberThen sc.global_ints t)

abbrev pub BufBehind : Scope → List ℕ → ℕ → Buf → List ℕ → Type 0
BufBehind sc t zero = Map (λ n. buf.Local n) (NumberThen sc.bufs t)
BufBehind sc t (suc i) = Map (λ n. buf.Global n) (NumberThen sc.global_bufs t)

pub within_int_then : {s : List ℕ} (sc : Scope) (t : List ℕ) → Within s (Bind (OneOf int_letters (either sc.ints sc.global_ints)) (IntBehind sc t)) (IntThen sc t)
within_int_then sc t = same (λ x w m. into x w m.part m.front m.back m.begins m.goes_on m.whole) (λ x w m. from x w m)
  where
    into : (x : Int) (w : List ℕ) (i : ℕ) (a b : List ℕ) → OneOf int_letters (either sc.ints sc.global_ints) i a → IntBehind sc t i x b → w ≡ a ++ b → IntThen sc t x w
    into x w zero a b o m q = record {
      fits = subst (λ x. IsTrue (is_int sc x)) (sym m.is) (of_lt m.part sc.ints m.of.below);
      text = q ∙ ap₂ (λ y z. y ++ z) o.text m.of.text ∙ ap (λ y. y ++ t) (sym (name_v m.part)) ∙ ap (λ x. int_name x ++ t) (sym m.is);
    }
    into x w (suc zero) a b o m q = record {
      fits = subst (λ x. IsTrue (is_int sc x)) (sym m.is) (of_lt m.part sc.global_ints m.of.below);
      text = q ∙ ap₂ (λ y z. y ++ z) o.text m.of.text ∙ ap (λ y. y ++ t) (sym (name_g m.part)) ∙ ap (λ x. int_name x ++ t) (sym m.is);
    }
    into x w (suc (suc i)) a b o m q = absurd (omega (arith, o.within))

    from : (x : Int) (w : List ℕ) → IntThen sc t x w → Bind (OneOf int_letters (either sc.ints sc.global_ints)) (IntBehind sc t) x w
    from (int.Local n) w m =
        let l = lt_of n sc.ints m.fits in
        let P : List ℕ → Type 0 = λ w. Bind (OneOf int_letters (either sc.ints sc.global_ints)) (IntBehind sc t) (int.Local n) w in
        subst P (sym (m.text ∙ ap (λ y. y ++ t) (name_v n))) (bind_at 0 (codes "v") (decimal n ++ t) (record { within = omega arith; text = refl; may = positive_of n sc.ints l }) (map_at (λ n. int.Local n) n (record { below = l; text = refl })))
    from (int.Global n) w m =
        let l = lt_of n sc.global_ints m.fits in
        let P : List ℕ → Type 0 = λ w. Bind (OneOf int_letters (either sc.ints sc.global_ints)) (IntBehind sc t) (int.Global n) w in
        subst P (sym (m.text ∙ ap (λ y. y ++ t) (name_g n))) (bind_at 1 (codes "g") (decimal n ++ t) (record { within = omega arith; text = refl; may = positive_of n sc.global_ints l }) (map_at (λ n. int.Global n) n (record { below = l; text = refl })))

some_int_behind : (sc : Scope) (t : List ℕ) (i : ℕ) → i < 2 → get_or (either sc.ints sc.global_ints) i false ≡ true → Some_of (IntBehind sc t i)
some_int_behind sc t zero l h = some_map (λ n. int.Local n) (some_number_then sc.ints t (lt_of 0 sc.ints h))
some_int_behind sc t (suc zero) l h = some_map (λ n. int.Global n) (some_number_then sc.global_ints t (lt_of 0 sc.global_ints h))
some_int_behind sc t (suc (suc i)) l h = absurd (omega (arith, l))

pub joint_int : (sc : Scope) (t : List ℕ) → Joint Any (OneOf int_letters (either sc.ints sc.global_ints)) Any (IntBehind sc t)
joint_int sc t = joint_any (λ i w o. some_int_behind sc t i o.within o.may)

pub some_int_then : (sc : Scope) (t : List ℕ) → some_of sc.ints sc.global_ints ≡ true → Some_of (IntThen sc t)
some_int_then sc t h =
    let e = some_either sc.ints sc.global_ints h in
    let z = some_int_behind sc t e.0 e.1 e.2 in
    let i = within_int_then {s = []} sc t in
    (z.0, (get_or int_letters e.0 [] ++ z.1.0, i.into z.0 _ (bind_at e.0 (get_or int_letters e.0 []) z.1.0 (record { within = e.1; text = refl; may = e.2 }) z.1.1)))

-- the letter's number decides
pub int_first : (sc : Scope) {s rest : List ℕ} (i : ℕ) → i ≡ 0 → Found Any (OneOf int_letters (either sc.ints sc.global_ints)) s i rest → Found Any (OneOf int_letters (either sc.ints sc.global_ints)) s 0 rest
int_first sc {s} {rest} i e f = subst (λ i. Found Any (OneOf int_letters (either sc.ints sc.global_ints)) s i rest) e f

pub int_second : (sc : Scope) {s rest : List ℕ} (i : ℕ) → (i ≡ 0 → ⊥) → Found Any (OneOf int_letters (either sc.ints sc.global_ints)) s i rest → Found Any (OneOf int_letters (either sc.ints sc.global_ints)) s 1 rest
int_second sc zero n f = absurd (n refl)
int_second sc (suc zero) n f = f
int_second sc (suc (suc i)) n f = absurd (omega (arith, f.is.within))

pub within_buf_then : {s : List ℕ} (sc : Scope) (t : List ℕ) → Within s (Bind (OneOf buf_letters (either sc.bufs sc.global_bufs)) (BufBehind sc t)) (BufThen sc t)
within_buf_then sc t = same (λ x w m. into x w m.part m.front m.back m.begins m.goes_on m.whole) (λ x w m. from x w m)
  where
    into : (x : Buf) (w : List ℕ) (i : ℕ) (a b : List ℕ) → OneOf buf_letters (either sc.bufs sc.global_bufs) i a → BufBehind sc t i x b → w ≡ a ++ b → BufThen sc t x w
    into x w zero a b o m q = record {
      fits = subst (λ x. IsTrue (is_buf sc x)) (sym m.is) (of_lt m.part sc.bufs m.of.below);
      text = q ∙ ap₂ (λ y z. y ++ z) o.text m.of.text ∙ ap (λ y. y ++ t) (sym (name_b m.part)) ∙ ap (λ x. buf_name x ++ t) (sym m.is);
    }
    into x w (suc zero) a b o m q = record {
      fits = subst (λ x. IsTrue (is_buf sc x)) (sym m.is) (of_lt m.part sc.global_bufs m.of.below);
      text = q ∙ ap₂ (λ y z. y ++ z) o.text m.of.text ∙ ap (λ y. y ++ t) (sym (name_h m.part)) ∙ ap (λ x. buf_name x ++ t) (sym m.is);
    }
    into x w (suc (suc i)) a b o m q = absurd (omega (arith, o.within))

    from : (x : Buf) (w : List ℕ) → BufThen sc t x w → Bind (OneOf buf_letters (either sc.bufs sc.global_bufs)) (BufBehind sc t) x w
    from (buf.Local n) w m =
        let l = lt_of n sc.bufs m.fits in
        let P : List ℕ → Type 0 = λ w. Bind (OneOf buf_letters (either sc.bufs sc.global_bufs)) (BufBehind sc t) (buf.Local n) w in
        subst P (sym (m.text ∙ ap (λ y. y ++ t) (name_b n))) (bind_at 0 (codes "b") (decimal n ++ t) (record { within = omega arith; text = refl; may = positive_of n sc.bufs l }) (map_at (λ n. buf.Local n) n (record { below = l; text = refl })))
    from (buf.Global n) w m =
        let l = lt_of n sc.global_bufs m.fits in
        let P : List ℕ → Type 0 = λ w. Bind (OneOf buf_letters (either sc.bufs sc.global_bufs)) (BufBehind sc t) (buf.Global n) w in
        subst P (sym (m.text ∙ ap (λ y. y ++ t) (name_h n))) (bind_at 1 (codes "h") (decimal n ++ t) (record { within = omega arith; text = refl; may = positive_of n sc.global_bufs l }) (map_at (λ n. buf.Global n) n (record { below = l; text = refl })))

some_buf_behind : (sc : Scope) (t : List ℕ) (i : ℕ) → i < 2 → get_or (either sc.bufs sc.global_bufs) i false ≡ true → Some_of (BufBehind sc t i)
some_buf_behind sc t zero l h = some_map (λ n. buf.Local n) (some_number_then sc.bufs t (lt_of 0 sc.bufs h))
some_buf_behind sc t (suc zero) l h = some_map (λ n. buf.Global n) (some_number_then sc.global_bufs t (lt_of 0 sc.global_bufs h))
some_buf_behind sc t (suc (suc i)) l h = absurd (omega (arith, l))

pub joint_buf : (sc : Scope) (t : List ℕ) → Joint Any (OneOf buf_letters (either sc.bufs sc.global_bufs)) Any (BufBehind sc t)
joint_buf sc t = joint_any (λ i w o. some_buf_behind sc t i o.within o.may)

pub some_buf_then : (sc : Scope) (t : List ℕ) → some_of sc.bufs sc.global_bufs ≡ true → Some_of (BufThen sc t)
some_buf_then sc t h =
    let e = some_either sc.bufs sc.global_bufs h in
    let z = some_buf_behind sc t e.0 e.1 e.2 in
    let i = within_buf_then {s = []} sc t in
    (z.0, (get_or buf_letters e.0 [] ++ z.1.0, i.into z.0 _ (bind_at e.0 (get_or buf_letters e.0 []) z.1.0 (record { within = e.1; text = refl; may = e.2 }) z.1.1)))

-- the letter's number decides
pub buf_first : (sc : Scope) {s rest : List ℕ} (i : ℕ) → i ≡ 0 → Found Any (OneOf buf_letters (either sc.bufs sc.global_bufs)) s i rest → Found Any (OneOf buf_letters (either sc.bufs sc.global_bufs)) s 0 rest
buf_first sc {s} {rest} i e f = subst (λ i. Found Any (OneOf buf_letters (either sc.bufs sc.global_bufs)) s i rest) e f

pub buf_second : (sc : Scope) {s rest : List ℕ} (i : ℕ) → (i ≡ 0 → ⊥) → Found Any (OneOf buf_letters (either sc.bufs sc.global_bufs)) s i rest → Found Any (OneOf buf_letters (either sc.bufs sc.global_bufs)) s 1 rest
buf_second sc zero n f = absurd (n refl)
buf_second sc (suc zero) n f = f
buf_second sc (suc (suc i)) n f = absurd (omega (arith, f.is.within))

pub some_name_then : (t : List ℕ) → Some_of (NameThen t)
some_name_then t = (codes "A", (codes "A" ++ t, record { fits = refl; text = refl }))

-- ---- Statements that begin with a buffer

some_source : (sc : Scope) (room : Option ℕ) (p : Buf) (i : ℕ) → i < 6 → get_or (source_may sc) i false ≡ true → Some_of (SourceBehind sc room p i)
some_source sc room p zero l h = some_pure (st.SetBuf p None)
some_source sc room p (suc zero) l h = some_map (λ e. st.Cells p e) (some_expr_then sc room (codes ");\n"))
some_source sc room p (suc (suc zero)) l h = some_pure (st.ReadText p)
some_source sc room p (suc (suc (suc zero))) l h = some_pure (st.ReadNums p)
some_source sc room p (suc (suc (suc (suc zero)))) l h = some_map (λ k. st.SetBuf p (Some (buf.Local k))) (some_number_then sc.bufs (codes ";\n") (lt_of 0 sc.bufs h))
some_source sc room p (suc (suc (suc (suc (suc zero))))) l h = some_map (λ k. st.SetBuf p (Some (buf.Global k))) (some_number_then sc.global_bufs (codes ";\n") (lt_of 0 sc.global_bufs h))
some_source sc room p (suc (suc (suc (suc (suc (suc i)))))) l h = absurd (omega (arith, l))

pub joint_source : (sc : Scope) (room : Option ℕ) (p : Buf) → Joint Any (OneOf source_texts (source_may sc)) Any (SourceBehind sc room p)
joint_source sc room p = joint_any (λ i w o. some_source sc room p i o.within o.may)

pub some_stored : (sc : Scope) (room : Option ℕ) (p : Buf) (i : ℕ) → Some_of (StoredBehind sc room p i)
some_stored sc room p zero = some_map (λ x. st.SetCell p x.0 x.1) (some_two_exprs sc room (codes "] = ") (codes ";\n"))
some_stored sc room p (suc i) = (st.SetBuf p None, (codes "0;\n" ++ [], bind_at 0 (codes "0;\n") [] (record { within = omega arith; text = refl; may = refl }) (refl, refl)))

pub joint_store_local : (sc : Scope) (room : Option ℕ) → Joint Any (Signed sc.bufs) Any (λ x. StoredBehind sc room (buf.Local x.0) x.1)
joint_store_local sc room = joint_any (λ x w o. some_stored sc room (buf.Local x.0) x.1)

pub joint_store_global : (sc : Scope) (room : Option ℕ) → Joint Any (Signed sc.global_bufs) Any (λ x. StoredBehind sc room (buf.Global x.0) x.1)
joint_store_global sc room = joint_any (λ x w o. some_stored sc room (buf.Global x.0) x.1)

pub within_signed : {s : List ℕ} (n : ℕ) → Within s (Bind (Number n) (λ k. Map (pair k) (OneOf buf_signs two))) (Signed n)
within_signed n = same
    (λ x w m. let r = m.goes_on in record { below = subst (λ y. y.0 < n) (sym r.is) m.begins.below; back = m.back; sign = subst (λ y. OneOf buf_signs two y.1 m.back) (sym r.is) r.of; text = m.whole ∙ ap (λ y. y ++ m.back) (m.begins.text ∙ ap (λ y. decimal y.0) (sym r.is)) })
    (λ x w m. let P : List ℕ → Type 0 = λ w. Bind (Number n) (λ k. Map (pair k) (OneOf buf_signs two)) x w in subst P (sym m.text) (bind_at x.0 (decimal x.0) m.back (record { below = m.below; text = refl }) (map_at (pair x.0) x.1 m.sign)))

pub joint_signed : (n : ℕ) → Joint NoDigit (Number n) Any (λ (k : ℕ). Map (pair k) (OneOf buf_signs two))
joint_signed n = record {
  follow = λ a x w k m g. subst NoDigit (sym (ap (λ y. y ++ k) m.of.text)) (open_sign m.part k m.of.within);
  some = λ k w l. some_map (pair k) (0, (codes "[", record { within = omega arith; text = refl; may = refl }));
}
  where
    open_sign : (i : ℕ) (k : List ℕ) → i < 2 → NoDigit (get_or buf_signs i [] ++ k)
    open_sign zero k l = refl
    open_sign (suc zero) k l = refl
    open_sign (suc (suc i)) k l = absurd (omega (arith, l))

-- ---- Faults and calls

fault_first : (i : ℕ) (x : List ℕ) → i < 7 → is_fault (first (get_or fault_texts i [] ++ x)) ≡ true
fault_first zero x l = refl
fault_first (suc zero) x l = refl
fault_first (suc (suc zero)) x l = refl
fault_first (suc (suc (suc zero))) x l = refl
fault_first (suc (suc (suc (suc zero)))) x l = refl
fault_first (suc (suc (suc (suc (suc zero))))) x l = refl
fault_first (suc (suc (suc (suc (suc (suc zero)))))) x l = refl
fault_first (suc (suc (suc (suc (suc (suc (suc n))))))) x l = absurd (omega (arith, l))

called_first : (sc : Scope) (c : Bool) (s : CStmt) (w k : List ℕ) → sc.functions ≤ 2 ^ 32 → CalledBy sc c s w → is_fault (first (w ++ k)) ≡ c
called_first sc true s w k small m = ap (λ y. is_fault (first (y ++ k))) m.of.text ∙ fault_first m.part k m.of.within
called_first sc false s w k small m =
    let d = decimal_first m.part (codes "();\n" ++ k) (omega (arith, m.of.below, small)) in
    let r = digit_range d.0 d.2 in
    ap (λ y. is_fault (first y)) (ap (λ y. y ++ k) m.of.text ∙ append_assoc (decimal m.part) (codes "();\n") k) ∙ ap is_fault d.1 ∙ differs d.0 97 (λ e. omega (arith, r, e))

pub within_called : (sc : Scope) (c : Bool) (s : List ℕ) → sc.functions ≤ 2 ^ 32 → is_fault (first s) ≡ c → Within s (CalledBy sc c) (Called sc)
within_called sc c s small f = record {
  into = λ a w m. (c, m);
  from = λ a w k m h. subst (λ b. CalledBy sc b a w) (sym (called_first sc m.0 a w k small m.1) ∙ ap is_fault h ∙ f) m.1;
}

pub some_called : (sc : Scope) → 0 < sc.functions → Some_of (Called sc)
some_called sc f = let z = some_map (λ n. st.Call n) (some_number_then sc.functions (codes "();\n") f) in (z.0, (z.1.0, (false, z.1.1)))

pub joint_at : Joint Any (NameThen (codes "\", ")) Any (λ name. Map (λ n. st.At name (pos n)) (NumberThen (2 ^ 63) (codes ");\n")))
joint_at = joint_any (λ name w o. some_map (λ n. st.At name (pos n)) (some_number_then (2 ^ 63) (codes ");\n") (omega arith)))
