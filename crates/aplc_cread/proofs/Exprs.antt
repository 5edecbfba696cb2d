-- Expressions, taken apart and put together.
use Rattle.std.proofs.Common.{◌≡◌, ◌∙◌, ap, sym, refl, subst, subst₂, ℕ, zero, suc, ◌<◌, ◌^◌, List, [], ◌∷◌, ◌++◌, append_assoc, codes, decimal, pos, negsuc, Option, Some, None, Bool, true, false, ◌&&◌, IsTrue, nat_lt, nat_eq, cond, arith, get_or}
use Rattle.std.proofs.Common.{w64, to_z}
use Rattle.std.proofs.lemmas.Int.{to_z_pos}
use Rattle.std.proofs.lemmas.Bool.Decides.{nat_tests}
use Rattle.std.proofs.lemmas.List.{append-nil}
use Rattle.aplc_cprof.specs.declared.syntax.Op.{Op}
use Rattle.aplc_cprof.specs.declared.syntax.Op.TheVariants as op
use Rattle.aplc_cprof.specs.declared.syntax.Int.TheVariants as int
use Rattle.aplc_cprof.specs.declared.syntax.Buf.TheVariants as buf
use Rattle.aplc_cprof.specs.declared.syntax.CExpr.{CExpr, out-CExpr, roll-CExpr, roll-out-CExpr}
use Rattle.aplc_cprof.specs.declared.syntax.CExpr.TheVariants as ex
use Rattle.aplc_cprof.specs.declared.syntax.CExpr.TheOpen.{CExpr-F}
use Rattle.aplc_cprof.specs.Text.{expr_text, op_text, int_name, buf_name}
use Rattle.aplc_cprof.specs.WellFormed.{Scope, is_expr, inside}
use Rattle.aplc_cprof.proofs.Equations.{expr_text_Lit, expr_text_Var, expr_text_Cell, expr_text_Table, expr_text_Bin}
use Rattle.aplc_cprof.proofs.Forms.{is_Lit, is_Var, is_Cell, is_Table, is_Bin}
use Rattle.aplc_cread.specs.Reading.{first, Stops, Any, Lit, Bind, OneOf, Number, NumberThen, NoDigit, is_digit, Map, After}
use Rattle.aplc_cread.specs.Exprs.{Expr, ExprThen, TwoExprs, Indexed, Operator, Operation, Constant, Letter, letter, Form, IsInner, IsAllowed, Inner}
use Rattle.aplc_cread.specs.Exprs as kind
use Rattle.aplc_cread.proofs.Rules.{Within, Some_of, same, stops_here, Joint, joint_any, some_bind, some_map, bind_at, lit_at, map_at, pair, Followed, Two}
use Rattle.aplc_cread.proofs.Numbers.{decimal_first, digit_range}

-- ---- Tests

pub both : (a b : Bool) → IsTrue (a && b) → IsTrue a × IsTrue b
both true b h = (refl, h)
both false b h = absurd (cc h)

pub and_both : (a b : Bool) → IsTrue a → IsTrue b → IsTrue (a && b)
and_both true b h k = k
and_both false b h k = absurd (cc h)

pub lt_of : (a b : ℕ) → IsTrue (nat_lt a b) → a < b
lt_of a b h = grind (arith, nat_tests)

pub of_lt : (a b : ℕ) → a < b → IsTrue (nat_lt a b)
of_lt a b h = grind (arith, nat_tests)

pub differs : (a b : ℕ) → (a ≡ b → ⊥) → nat_eq a b ≡ false
differs a b h = grind (arith, nat_tests)

pub pos_of : (n : ℕ) → n < 2 ^ 63 → to_z w64 n ≡ pos n
pos_of n h = to_z_pos w64 n h

-- ---- Room

pub inner_of : (room : Option ℕ) (f : Option ℕ → Bool) → IsTrue (inside room f) → (r : Option ℕ) × IsInner room (Some r) × IsTrue (f r)
inner_of None f h = (None, refl, h)
inner_of (Some zero) f h = absurd (cc h)
inner_of (Some (suc n)) f h = (Some n, refl, h)

pub of_inner : (room r : Option ℕ) (f : Option ℕ → Bool) → IsInner room (Some r) → IsTrue (f r) → IsTrue (inside room f)
of_inner None r f e h = let q : r ≡ None = cc in subst (λ x. IsTrue (f x)) q h
of_inner (Some zero) r f e h = absurd (cc e)
of_inner (Some (suc n)) r f e h = let q : r ≡ Some n = cc in subst (λ x. IsTrue (f x)) q h

pub into_inner : {A : Type 0} (L : Option ℕ → A → List ℕ → Type 0) (room r : Option ℕ) (a : A) (w : List ℕ) → IsInner room (Some r) → L r a w → Inner room L a w
into_inner L None r a w e h = let q : r ≡ None = cc in subst (λ x. L x a w) q h
into_inner L (Some zero) r a w e h = absurd (cc e)
into_inner L (Some (suc n)) r a w e h = let q : r ≡ Some n = cc in subst (λ x. L x a w) q h

pub from_inner : {A : Type 0} (L : Option ℕ → A → List ℕ → Type 0) (room : Option ℕ) (a : A) (w : List ℕ) → Inner room L a w → (r : Option ℕ) × IsInner room (Some r) × L r a w
from_inner L None a w m = (None, refl, m)
from_inner L (Some zero) a w m = absurd m
from_inner L (Some (suc n)) a w m = (Some n, refl, m)

pub inner_one : (room r s : Option ℕ) → IsInner room (Some r) → IsInner room (Some s) → r ≡ s
inner_one None r s e f = cc
inner_one (Some zero) r s e f = cc
inner_one (Some (suc n)) r s e f = cc

pub no_inner : {A : Type 0} (L : Option ℕ → A → List ℕ → Type 0) (room : Option ℕ) (a : A) (w : List ℕ) → IsInner room None → Inner room L a w → ⊥
no_inner L None a w e m = cc
no_inner L (Some zero) a w e m = m
no_inner L (Some (suc n)) a w e m = cc

pub within_inner : {A : Type 0} {s : List ℕ} (L : Option ℕ → A → List ℕ → Type 0) (room r : Option ℕ) → IsInner room (Some r) → Within s (L r) (Inner room L)
within_inner L room r e = same (λ a w m. into_inner L room r a w e m) (λ a w m. let z = from_inner L room a w m in subst (λ x. L x a w) (inner_one room z.0 r z.1 e) z.2)

pub allowed_inner : (n : ℕ) (room r : Option ℕ) → IsAllowed n room (Some r) → IsInner room (Some r) × (0 < n)
allowed_inner zero room r e = absurd (cc e)
allowed_inner (suc n) room r e = (e, omega arith)

pub no_indexed : (f : ℕ × CExpr → CExpr) (t : List ℕ) (sc : Scope) (n : ℕ) (room : Option ℕ) (e : CExpr) (w : List ℕ) → IsAllowed n room None
    → Inner room (λ r. After t (Map f (Indexed n sc r))) e w → ⊥
no_indexed f t sc zero room e w a m = let z = from_inner (λ r. After t (Map f (Indexed zero sc r))) room e w m in omega (arith, z.2.goes_on.of.below)
no_indexed f t sc (suc n) room e w a m = no_inner (λ r. After t (Map f (Indexed (suc n) sc r))) room e w a m

pub no_name : {f : ℕ → CExpr} {t : List ℕ} (n : ℕ) (e : CExpr) (w : List ℕ) → n ≡ 0 → After t (Map f (Number n)) e w → ⊥
no_name n e w z m = omega (arith, z, m.goes_on.of.below)

-- ---- Pieces

pub within_number_then : {s : List ℕ} (n : ℕ) (t : List ℕ) → Within s (Followed (Number n) t) (NumberThen n t)
within_number_then n t = same
    (λ k w m. let r = m.goes_on in let z = r.goes_on in record {
      below = subst (λ x. x < n) (sym z.0) m.begins.below;
      text = cc (m.whole, m.begins.text, r.whole, r.begins, z.1, append-nil t) ∙ ap (λ x. decimal x ++ t) (sym z.0);
    })
    (λ k w m. let P : List ℕ → Type 0 = λ w. Followed (Number n) t k w in subst P (ap (λ x. decimal k ++ x) (append-nil t) ∙ sym m.text)
    (bind_at k (decimal k) (t ++ []) (record { below = m.below; text = refl }) (lit_at [] (refl, refl))))

pub within_expr_then : {s : List ℕ} (sc : Scope) (room : Option ℕ) (t : List ℕ) → Within s (Followed (Expr sc room) t) (ExprThen sc room t)
within_expr_then sc room t = same
    (λ e w m. let r = m.goes_on in let z = r.goes_on in record {
      fits = subst (λ x. IsTrue (is_expr sc x room)) (sym z.0) m.begins.fits;
      text = cc (m.whole, m.begins.text, r.whole, r.begins, z.1, append-nil t) ∙ ap (λ x. expr_text x ++ t) (sym z.0);
    })
    (λ e w m. let P : List ℕ → Type 0 = λ w. Followed (Expr sc room) t e w in subst P (ap (λ x. expr_text e ++ x) (append-nil t) ∙ sym m.text)
    (bind_at e (expr_text e) (t ++ []) (record { fits = m.fits; text = refl }) (lit_at [] (refl, refl))))

pub within_two_exprs : {s : List ℕ} (sc : Scope) (room : Option ℕ) (t u : List ℕ) → Within s (Two (ExprThen sc room t) (ExprThen sc room u)) (TwoExprs sc room t u)
within_two_exprs sc room t u = same
    (λ x w m. let r = m.goes_on in record {
      left = subst (λ y. IsTrue (is_expr sc y.0 room)) (sym r.is) m.begins.fits;
      right = subst (λ y. IsTrue (is_expr sc y.1 room)) (sym r.is) r.of.fits;
      text = cc (m.whole, m.begins.text, r.of.text) ∙ append_assoc (expr_text m.part) t (expr_text r.part ++ u) ∙ ap (λ y. expr_text y.0 ++ (t ++ (expr_text y.1 ++ u))) (sym r.is);
    })
    (λ x w m. let P : List ℕ → Type 0 = λ w. Two (ExprThen sc room t) (ExprThen sc room u) x w in subst P (append_assoc (expr_text x.0) t (expr_text x.1 ++ u) ∙ sym m.text)
    (bind_at x.0 (expr_text x.0 ++ t) (expr_text x.1 ++ u) (record { fits = m.left; text = refl }) (map_at (pair x.0) x.1 (record { fits = m.right; text = refl }))))

pub within_indexed : {s : List ℕ} (n : ℕ) (sc : Scope) (room : Option ℕ) → Within s (Two (NumberThen n (codes "[")) (ExprThen sc room (codes "]"))) (Indexed n sc room)
within_indexed n sc room = same
    (λ x w m. let r = m.goes_on in record {
      below = subst (λ y. y.0 < n) (sym r.is) m.begins.below;
      fits = subst (λ y. IsTrue (is_expr sc y.1 room)) (sym r.is) r.of.fits;
      text = cc (m.whole, m.begins.text, r.of.text) ∙ append_assoc (decimal m.part) (codes "[") (expr_text r.part ++ codes "]") ∙ ap (λ y. decimal y.0 ++ (codes "[" ++ (expr_text y.1 ++ codes "]"))) (sym r.is);
    })
    (λ x w m. let P : List ℕ → Type 0 = λ w. Two (NumberThen n (codes "[")) (ExprThen sc room (codes "]")) x w in subst P (append_assoc (decimal x.0) (codes "[") (expr_text x.1 ++ codes "]") ∙ sym m.text)
    (bind_at x.0 (decimal x.0 ++ codes "[") (expr_text x.1 ++ codes "]") (record { below = m.below; text = refl }) (map_at (pair x.0) x.1 (record { fits = m.fits; text = refl }))))

-- ---- Each form

pub name_v : (n : ℕ) → int_name (int.Local n) ≡ codes "v" ++ decimal n
unfolding int_name
name_v n = refl

pub name_g : (n : ℕ) → int_name (int.Global n) ≡ codes "g" ++ decimal n
unfolding int_name
name_g n = refl

pub name_b : (n : ℕ) → buf_name (buf.Local n) ≡ codes "b" ++ decimal n
unfolding buf_name
name_b n = refl

pub name_h : (n : ℕ) → buf_name (buf.Global n) ≡ codes "h" ++ decimal n
unfolding buf_name
name_h n = refl

cell_text : (c p a : List ℕ) → c ++ p ++ codes "[" ++ a ++ codes "]" ≡ c ++ (p ++ (codes "[" ++ (a ++ codes "]")))
cell_text c p a = simp append_assoc

operation_text : (x o y : List ℕ) → codes "(" ++ x ++ o ++ y ++ codes ")" ≡ codes "(" ++ (x ++ (o ++ (y ++ codes ")")))
operation_text x o y = simp append_assoc

text_v : (n : ℕ) → expr_text (ex.Var (int.Local n)) ≡ codes "v" ++ decimal n
text_v n = expr_text_Var (int.Local n) ∙ name_v n

text_g : (n : ℕ) → expr_text (ex.Var (int.Global n)) ≡ codes "g" ++ decimal n
text_g n = expr_text_Var (int.Global n) ∙ name_g n

text_b : (n : ℕ) (e : CExpr) → expr_text (ex.Cell (buf.Local n) e) ≡ codes "b" ++ (decimal n ++ (codes "[" ++ (expr_text e ++ codes "]")))
text_b n e = expr_text_Cell (buf.Local n) e ∙ ap (λ x. x ++ codes "[" ++ expr_text e ++ codes "]") (name_b n) ∙ cell_text (codes "b") (decimal n) (expr_text e)

text_h : (n : ℕ) (e : CExpr) → expr_text (ex.Cell (buf.Global n) e) ≡ codes "h" ++ (decimal n ++ (codes "[" ++ (expr_text e ++ codes "]")))
text_h n e = expr_text_Cell (buf.Global n) e ∙ ap (λ x. x ++ codes "[" ++ expr_text e ++ codes "]") (name_h n) ∙ cell_text (codes "h") (decimal n) (expr_text e)

text_k : (n : ℕ) (e : CExpr) → expr_text (ex.Table n e) ≡ codes "k" ++ (decimal n ++ (codes "[" ++ (expr_text e ++ codes "]")))
text_k n e = expr_text_Table n e ∙ cell_text (codes "k") (decimal n) (expr_text e)

text_open : (o : Op) (x y : CExpr) → expr_text (ex.Bin o x y) ≡ codes "(" ++ (expr_text x ++ (op_text o ++ (expr_text y ++ codes ")")))
text_open o x y = expr_text_Bin o x y ∙ operation_text (expr_text x) (op_text o) (expr_text y)

text_digit : (n : ℕ) → expr_text (ex.Lit (pos n)) ≡ decimal n ++ codes "LL"
text_digit n = expr_text_Lit (pos n)

-- each form is an expression
pub from_form : (sc : Scope) (room : Option ℕ) (l : Letter) (e : CExpr) (w : List ℕ) → Form sc room l e w → Expr sc room e w
from_form sc room kind.LocalInt e w m =
    let r = m.goes_on in let n = r.part in record {
      fits = subst IsTrue (sym (ap (λ e. is_expr sc e room) r.is ∙ is_Var sc (int.Local n) room)) (of_lt n sc.ints r.of.below);
      text = cc (m.whole, m.begins, r.of.text) ∙ sym (ap expr_text r.is ∙ text_v n);
    }
from_form sc room kind.GlobalInt e w m =
    let r = m.goes_on in let n = r.part in record {
      fits = subst IsTrue (sym (ap (λ e. is_expr sc e room) r.is ∙ is_Var sc (int.Global n) room)) (of_lt n sc.global_ints r.of.below);
      text = cc (m.whole, m.begins, r.of.text) ∙ sym (ap expr_text r.is ∙ text_g n);
    }
from_form sc room kind.LocalBuf e w i =
    let z = from_inner (λ r. After (codes "b") (Map (λ x. ex.Cell (buf.Local x.0) x.1) (Indexed sc.bufs sc r))) room e w i in
    let m = z.2 in let r = m.goes_on in let n = r.part.0 in let a = r.part.1 in record {
      fits = subst IsTrue (sym (ap (λ e. is_expr sc e room) r.is ∙ is_Cell sc (buf.Local n) a room)) (and_both (nat_lt n sc.bufs) (inside room (is_expr sc a)) (of_lt n sc.bufs r.of.below) (of_inner room z.0 (is_expr sc a) z.1 r.of.fits));
      text = cc (m.whole, m.begins, r.of.text) ∙ sym (ap expr_text r.is ∙ text_b n a);
    }
from_form sc room kind.GlobalBuf e w i =
    let z = from_inner (λ r. After (codes "h") (Map (λ x. ex.Cell (buf.Global x.0) x.1) (Indexed sc.global_bufs sc r))) room e w i in
    let m = z.2 in let r = m.goes_on in let n = r.part.0 in let a = r.part.1 in record {
      fits = subst IsTrue (sym (ap (λ e. is_expr sc e room) r.is ∙ is_Cell sc (buf.Global n) a room)) (and_both (nat_lt n sc.global_bufs) (inside room (is_expr sc a)) (of_lt n sc.global_bufs r.of.below) (of_inner room z.0 (is_expr sc a) z.1 r.of.fits));
      text = cc (m.whole, m.begins, r.of.text) ∙ sym (ap expr_text r.is ∙ text_h n a);
    }
from_form sc room kind.InTable e w i =
    let z = from_inner (λ r. After (codes "k") (Map (λ x. ex.Table x.0 x.1) (Indexed sc.tables sc r))) room e w i in
    let m = z.2 in let r = m.goes_on in let n = r.part.0 in let a = r.part.1 in record {
      fits = subst IsTrue (sym (ap (λ e. is_expr sc e room) r.is ∙ is_Table sc n a room)) (and_both (nat_lt n sc.tables) (inside room (is_expr sc a)) (of_lt n sc.tables r.of.below) (of_inner room z.0 (is_expr sc a) z.1 r.of.fits));
      text = cc (m.whole, m.begins, r.of.text) ∙ sym (ap expr_text r.is ∙ text_k n a);
    }
from_form sc room kind.Opened e w i =
    let z = from_inner (λ r. After (codes "(") (Operation sc r)) room e w i in
    let m = z.2 in let m1 = m.goes_on in let x = m1.part in let m2 = m1.goes_on in let o = m2.part in let m3 = m2.goes_on in let y = m3.part in record {
      fits = subst IsTrue (sym (ap (λ e. is_expr sc e room) m3.is ∙ is_Bin sc o x y room)) (of_inner room z.0 (λ r. is_expr sc x r && is_expr sc y r) z.1 (and_both (is_expr sc x z.0) (is_expr sc y z.0) m1.begins.fits m3.of.fits));
      text = cc (m.whole, m.begins, m1.whole, m1.begins.text, m2.whole, m2.begins, m3.of.text) ∙ sym (ap expr_text m3.is ∙ text_open o x y);
    }
from_form sc room kind.Digit e w m =
    let n = m.part in let r = m.goes_on in record {
      fits = subst IsTrue (sym (ap (λ e. is_expr sc e room) r.is ∙ is_Lit sc (pos n) room)) (of_lt n (2 ^ 63) m.begins.below);
      text = cc (m.whole, m.begins.text, r.of) ∙ sym (ap expr_text r.is ∙ text_digit n);
    }

abbrev of : CExpr-F CExpr → CExpr
of (CExpr-F.Lit n) = ex.Lit n
of (CExpr-F.Var x) = ex.Var x
of (CExpr-F.Cell p e) = ex.Cell p e
of (CExpr-F.Table k e) = ex.Table k e
of (CExpr-F.Bin o x y) = ex.Bin o x y

rolls : (l : CExpr-F CExpr) → roll-CExpr l ≡ of l
rolls (CExpr-F.Lit n) = ex.rolls-Lit n
rolls (CExpr-F.Var x) = ex.rolls-Var x
rolls (CExpr-F.Cell p e) = ex.rolls-Cell p e
rolls (CExpr-F.Table k e) = ex.rolls-Table k e
rolls (CExpr-F.Bin o x y) = ex.rolls-Bin o x y

-- and each expression is of one of them
pub form_of : (sc : Scope) (room : Option ℕ) (e : CExpr) (w : List ℕ) → Expr sc room e w → (l : Letter) × Form sc room l e w
form_of sc room e w x = go (out-CExpr e) (sym (roll-out-CExpr e) ∙ rolls (out-CExpr e))
  where
    go : (l : CExpr-F CExpr) → e ≡ of l → (l : Letter) × Form sc room l e w
    go (CExpr-F.Lit (pos n)) q =
        let f : IsTrue (nat_lt n (2 ^ 63)) = subst IsTrue (ap (λ e. is_expr sc e room) q ∙ is_Lit sc (pos n) room) x.fits in
        let P : CExpr → List ℕ → Type 0 = λ e w. Form sc room kind.Digit e w in
        (kind.Digit, subst₂ P (sym q) (sym (x.text ∙ ap expr_text q ∙ text_digit n)) (bind_at n (decimal n) (codes "LL") (record { below = lt_of n (2 ^ 63) f; text = refl }) (map_at (λ u. ex.Lit (pos n)) tt refl)))
    go (CExpr-F.Lit (negsuc n)) q = absurd (cc (subst IsTrue (ap (λ e. is_expr sc e room) q ∙ is_Lit sc (negsuc n) room) x.fits))
    go (CExpr-F.Var (int.Local n)) q =
        let f : IsTrue (nat_lt n sc.ints) = subst IsTrue (ap (λ e. is_expr sc e room) q ∙ is_Var sc (int.Local n) room) x.fits in
        let P : CExpr → List ℕ → Type 0 = λ e w. Form sc room kind.LocalInt e w in
        (kind.LocalInt, subst₂ P (sym q) (sym (x.text ∙ ap expr_text q ∙ text_v n)) (lit_at (decimal n) (map_at (λ n. ex.Var (int.Local n)) n (record { below = lt_of n sc.ints f; text = refl }))))
    go (CExpr-F.Var (int.Global n)) q =
        let f : IsTrue (nat_lt n sc.global_ints) = subst IsTrue (ap (λ e. is_expr sc e room) q ∙ is_Var sc (int.Global n) room) x.fits in
        let P : CExpr → List ℕ → Type 0 = λ e w. Form sc room kind.GlobalInt e w in
        (kind.GlobalInt, subst₂ P (sym q) (sym (x.text ∙ ap expr_text q ∙ text_g n)) (lit_at (decimal n) (map_at (λ n. ex.Var (int.Global n)) n (record { below = lt_of n sc.global_ints f; text = refl }))))
    go (CExpr-F.Cell (buf.Local n) a) q =
        let f : IsTrue (nat_lt n sc.bufs && inside room (is_expr sc a)) = subst IsTrue (ap (λ e. is_expr sc e room) q ∙ is_Cell sc (buf.Local n) a room) x.fits in
        let g = both (nat_lt n sc.bufs) (inside room (is_expr sc a)) f in
        let r = inner_of room (is_expr sc a) g.1 in
        let P : CExpr → List ℕ → Type 0 = λ e w. Form sc room kind.LocalBuf e w in (
          kind.LocalBuf,
          subst₂ P (sym q) (sym (x.text ∙ ap expr_text q ∙ text_b n a))
              (into_inner (λ r. After (codes "b") (Map (λ x. ex.Cell (buf.Local x.0) x.1) (Indexed sc.bufs sc r))) room r.0 (ex.Cell (buf.Local n) a) _ r.1
              (lit_at _ (map_at (λ x. ex.Cell (buf.Local x.0) x.1) (n, a) (record { below = lt_of n sc.bufs g.0; fits = r.2; text = refl })))),
        )
    go (CExpr-F.Cell (buf.Global n) a) q =
        let f : IsTrue (nat_lt n sc.global_bufs && inside room (is_expr sc a)) = subst IsTrue (ap (λ e. is_expr sc e room) q ∙ is_Cell sc (buf.Global n) a room) x.fits in
        let g = both (nat_lt n sc.global_bufs) (inside room (is_expr sc a)) f in
        let r = inner_of room (is_expr sc a) g.1 in
        let P : CExpr → List ℕ → Type 0 = λ e w. Form sc room kind.GlobalBuf e w in (
          kind.GlobalBuf,
          subst₂ P (sym q) (sym (x.text ∙ ap expr_text q ∙ text_h n a))
              (into_inner (λ r. After (codes "h") (Map (λ x. ex.Cell (buf.Global x.0) x.1) (Indexed sc.global_bufs sc r))) room r.0 (ex.Cell (buf.Global n) a) _ r.1
              (lit_at _ (map_at (λ x. ex.Cell (buf.Global x.0) x.1) (n, a) (record { below = lt_of n sc.global_bufs g.0; fits = r.2; text = refl })))),
        )
    go (CExpr-F.Table n a) q =
        let f : IsTrue (nat_lt n sc.tables && inside room (is_expr sc a)) = subst IsTrue (ap (λ e. is_expr sc e room) q ∙ is_Table sc n a room) x.fits in
        let g = both (nat_lt n sc.tables) (inside room (is_expr sc a)) f in
        let r = inner_of room (is_expr sc a) g.1 in
        let P : CExpr → List ℕ → Type 0 = λ e w. Form sc room kind.InTable e w in (
          kind.InTable,
          subst₂ P (sym q) (sym (x.text ∙ ap expr_text q ∙ text_k n a))
              (into_inner (λ r. After (codes "k") (Map (λ x. ex.Table x.0 x.1) (Indexed sc.tables sc r))) room r.0 (ex.Table n a) _ r.1
              (lit_at _ (map_at (λ x. ex.Table x.0 x.1) (n, a) (record { below = lt_of n sc.tables g.0; fits = r.2; text = refl })))),
        )
    go (CExpr-F.Bin o a c) q =
        let f : IsTrue (inside room (λ r. is_expr sc a r && is_expr sc c r)) = subst IsTrue (ap (λ e. is_expr sc e room) q ∙ is_Bin sc o a c room) x.fits in
        let r = inner_of room (λ r. is_expr sc a r && is_expr sc c r) f in
        let g = both (is_expr sc a r.0) (is_expr sc c r.0) r.2 in
        let P : CExpr → List ℕ → Type 0 = λ e w. Form sc room kind.Opened e w in (
          kind.Opened,
          subst₂ P (sym q) (sym (x.text ∙ ap expr_text q ∙ text_open o a c))
              (into_inner (λ r. After (codes "(") (Operation sc r)) room r.0 (ex.Bin o a c) _ r.1
              (lit_at _ (bind_at a (expr_text a) _ (record { fits = g.0; text = refl }) (bind_at o (op_text o) _ refl (map_at (λ y. ex.Bin o a y) c (record { fits = g.1; text = refl })))))),
        )

-- ---- The first byte

skip : (t : Bool) (x y z : Letter) → t ≡ false → y ≡ z → cond t x y ≡ z
skip true x y z e f = absurd (cc e)
skip false x y z e f = f

pub letter_other : (c : ℕ) → (c ≡ 118 → ⊥) → (c ≡ 103 → ⊥) → (c ≡ 98 → ⊥) → (c ≡ 104 → ⊥) → (c ≡ 107 → ⊥) → (c ≡ 40 → ⊥) → letter c ≡ kind.Digit
letter_other c n1 n2 n3 n4 n5 n6 =
    skip _ _ _ _ (differs c 118 n1) (skip _ _ _ _ (differs c 103 n2) (skip _ _ _ _ (differs c 98 n3) (skip _ _ _ _ (differs c 104 n4) (skip _ _ _ _ (differs c 107 n5) (skip _ _ _ _ (differs c 40 n6) refl)))))

letter_digit : (c : ℕ) → is_digit c ≡ true → letter c ≡ kind.Digit
letter_digit c d =
    let r = digit_range c d in
    letter_other c (λ e. omega (arith, r, e)) (λ e. omega (arith, r, e)) (λ e. omega (arith, r, e)) (λ e. omega (arith, r, e)) (λ e. omega (arith, r, e)) (λ e. omega (arith, r, e))

pub first_after : {A : Type 0} {c : ℕ} {t : List ℕ} {L : A → List ℕ → Type 0} {e : A} {w : List ℕ} (k : List ℕ) → After (c ∷ t) L e w → first (w ++ k) ≡ Some c
first_after k m = ap (λ x. first (x ++ k)) (m.whole ∙ ap (λ x. x ++ m.back) m.begins)

pub form_begins : (sc : Scope) (room : Option ℕ) (l : Letter) (e : CExpr) (w k : List ℕ) → Form sc room l e w → (c : ℕ) × (first (w ++ k) ≡ Some c) × (letter c ≡ l)
form_begins sc room kind.LocalInt e w k m = (118, first_after k m, refl)
form_begins sc room kind.GlobalInt e w k m = (103, first_after k m, refl)
form_begins sc room kind.LocalBuf e w k m = let z = from_inner (λ r. After (codes "b") (Map (λ x. ex.Cell (buf.Local x.0) x.1) (Indexed sc.bufs sc r))) room e w m in (98, first_after k z.2, refl)
form_begins sc room kind.GlobalBuf e w k m = let z = from_inner (λ r. After (codes "h") (Map (λ x. ex.Cell (buf.Global x.0) x.1) (Indexed sc.global_bufs sc r))) room e w m in (104, first_after k z.2, refl)
form_begins sc room kind.InTable e w k m = let z = from_inner (λ r. After (codes "k") (Map (λ x. ex.Table x.0 x.1) (Indexed sc.tables sc r))) room e w m in (107, first_after k z.2, refl)
form_begins sc room kind.Opened e w k m = let z = from_inner (λ r. After (codes "(") (Operation sc r)) room e w m in (40, first_after k z.2, refl)
form_begins sc room kind.Digit e w k m =
    let d = decimal_first m.part (m.back ++ k) (omega (arith, m.begins.below)) in
    (d.0, ap first (ap (λ x. x ++ k) (m.whole ∙ ap (λ x. x ++ m.back) m.begins.text) ∙ append_assoc (decimal m.part) m.back k) ∙ d.1, letter_digit d.0 d.2)

-- the expressions that begin as the input does
pub within_form : (sc : Scope) (room : Option ℕ) (s : List ℕ) (c : ℕ) → first s ≡ Some c → Within s (Form sc room (letter c)) (Expr sc room)
within_form sc room s c f = record {
  into = λ e w m. from_form sc room (letter c) e w m;
  from = λ e w k x h.
      let p = form_of sc room e w x in
      let b = form_begins sc room p.0 e w k p.1 in
      let q : b.0 ≡ c = some_is b.0 c (sym b.1 ∙ h ∙ f) in
      subst (λ l. Form sc room l e w) (sym b.2 ∙ ap letter q) p.1;
}
  where
    some_is : (a b : ℕ) → Some a ≡ Some b → a ≡ b
    some_is a b e = cc e

-- nothing is left of an expression at the end of the input
pub within_end : (sc : Scope) (room : Option ℕ) (s : List ℕ) → first s ≡ None → Within s Constant (Expr sc room)
within_end sc room s f = record {
  into = λ e w m. from_form sc room kind.Digit e w m;
  from = λ e w k x h.
      let p = form_of sc room e w x in
      let b = form_begins sc room p.0 e w k p.1 in
      let q : Some b.0 ≡ None = sym b.1 ∙ h ∙ f in absurd (cc q);
}

pub within_digit : (sc : Scope) (room : Option ℕ) (s rest : List ℕ) (c : ℕ) → s ≡ c ∷ rest → (c ≡ 118 → ⊥) → (c ≡ 103 → ⊥) → (c ≡ 98 → ⊥) → (c ≡ 104 → ⊥) → (c ≡ 107 → ⊥) → (c ≡ 40 → ⊥) → Within s Constant (Expr sc room)
within_digit sc room s rest c q n1 n2 n3 n4 n5 n6 =
    subst (λ l. Within s (Form sc room l) (Expr sc room)) (letter_other c n1 n2 n3 n4 n5 n6) (within_form sc room s c (ap first q))

pub some_expr : (sc : Scope) (room : Option ℕ) → Some_of (Expr sc room)
some_expr sc room = (ex.Lit (pos 0), (expr_text (ex.Lit (pos 0)), record { fits = is_Lit sc (pos 0) room; text = refl }))

pub some_expr_then : (sc : Scope) (room : Option ℕ) (t : List ℕ) → Some_of (ExprThen sc room t)
some_expr_then sc room t = (ex.Lit (pos 0), (expr_text (ex.Lit (pos 0)) ++ t, record { fits = is_Lit sc (pos 0) room; text = refl }))

pub some_two_exprs : (sc : Scope) (room : Option ℕ) (t u : List ℕ) → Some_of (TwoExprs sc room t u)
some_two_exprs sc room t u = let z = ex.Lit (pos 0) in ((z, z), (expr_text z ++ (t ++ (expr_text z ++ u)), record { left = is_Lit sc (pos 0) room; right = is_Lit sc (pos 0) room; text = refl }))

pub some_number : (n : ℕ) → 0 < n → Some_of (Number n)
some_number n l = (0, (decimal 0, record { below = l; text = refl }))

pub some_number_then : (n : ℕ) (t : List ℕ) → 0 < n → Some_of (NumberThen n t)
some_number_then n t l = (0, (decimal 0 ++ t, record { below = l; text = refl }))

pub some_indexed : (n : ℕ) (sc : Scope) (room : Option ℕ) → 0 < n → Some_of (Indexed n sc room)
some_indexed n sc room l = let z = ex.Lit (pos 0) in ((0, z), (decimal 0 ++ (codes "[" ++ (expr_text z ++ codes "]")), record { below = l; fits = is_Lit sc (pos 0) room; text = refl }))

pub some_operator : Some_of Operator
some_operator = (op.Add, (codes " + ", refl))

pub some_operation : (sc : Scope) (room : Option ℕ) → Some_of (Operation sc room)
some_operation sc room = some_bind (some_expr sc room) (λ x. some_bind some_operator (λ o. some_map (λ y. ex.Bin o x y) (some_expr_then sc room (codes ")"))))

-- the form isn't allowed
pub stops_form : (sc : Scope) (room : Option ℕ) (s rest : List ℕ) (c : ℕ) → s ≡ c ∷ rest → ((e : CExpr) (w : List ℕ) → Form sc room (letter c) e w → ⊥) → Stops NoDigit (Expr sc room) s s
stops_form sc room s rest c q none =
    let z = some_expr sc room in
    let i = within_form sc room s c (ap first q) in
    stops_here s z.0 z.1.0 z.1.1 (λ e w k x nk h. none e w (i.from e w k x h))

-- ---- How the pieces go together

pub joint_constant : Joint NoDigit (Number (2 ^ 63)) NoDigit (λ n. Map (λ u. ex.Lit (pos n)) (Lit (codes "LL")))
joint_constant = record {
  follow = λ a x w k m g. subst NoDigit (sym (ap (λ y. y ++ k) m.of)) refl;
  some = λ n w l. some_map (λ u. ex.Lit (pos n)) (tt, (codes "LL", refl));
}

abbrev pub op_texts : List (List ℕ)
op_texts = codes " + " ∷ codes " - " ∷ codes " * " ∷ codes " / " ∷ codes " % " ∷ codes " < " ∷ codes " <= " ∷ codes " == " ∷ codes " != " ∷ codes " >= " ∷ codes " > " ∷ codes " && " ∷ codes " || " ∷ []

abbrev pub op_may : List Bool
op_may = true ∷ true ∷ true ∷ true ∷ true ∷ true ∷ true ∷ true ∷ true ∷ true ∷ true ∷ true ∷ true ∷ []

abbrev pub op_at : ℕ → Op
op_at zero = op.Add
op_at (suc zero) = op.Sub
op_at (suc (suc zero)) = op.Mul
op_at (suc (suc (suc zero))) = op.Div
op_at (suc (suc (suc (suc zero)))) = op.Rem
op_at (suc (suc (suc (suc (suc zero))))) = op.Less
op_at (suc (suc (suc (suc (suc (suc zero)))))) = op.LessEq
op_at (suc (suc (suc (suc (suc (suc (suc zero))))))) = op.Equal
op_at (suc (suc (suc (suc (suc (suc (suc (suc zero)))))))) = op.NotEqual
op_at (suc (suc (suc (suc (suc (suc (suc (suc (suc zero))))))))) = op.GreaterEq
op_at (suc (suc (suc (suc (suc (suc (suc (suc (suc (suc zero)))))))))) = op.Greater
op_at (suc (suc (suc (suc (suc (suc (suc (suc (suc (suc (suc zero))))))))))) = op.And
op_at (suc (suc (suc (suc (suc (suc (suc (suc (suc (suc (suc (suc n)))))))))))) = op.Or

abbrev op_number : Op → ℕ
op_number op.Add = 0
op_number op.Sub = 1
op_number op.Mul = 2
op_number op.Div = 3
op_number op.Rem = 4
op_number op.Less = 5
op_number op.LessEq = 6
op_number op.Equal = 7
op_number op.NotEqual = 8
op_number op.GreaterEq = 9
op_number op.Greater = 10
op_number op.And = 11
op_number op.Or = 12

op_opens : (o : Op) (x k : List ℕ) → NoDigit ((op_text o ++ x) ++ k)
op_opens op.Add x k = refl
op_opens op.Sub x k = refl
op_opens op.Mul x k = refl
op_opens op.Div x k = refl
op_opens op.Rem x k = refl
op_opens op.Less x k = refl
op_opens op.LessEq x k = refl
op_opens op.Equal x k = refl
op_opens op.NotEqual x k = refl
op_opens op.GreaterEq x k = refl
op_opens op.Greater x k = refl
op_opens op.And x k = refl
op_opens op.Or x k = refl

pub joint_left : (sc : Scope) (r : Option ℕ) → Joint NoDigit (Expr sc r) Any (λ x. Bind Operator (λ o. Map (λ y. ex.Bin o x y) (ExprThen sc r (codes ")"))))
joint_left sc r = record {
  follow = λ a c w k m g. subst NoDigit (sym (ap (λ y. y ++ k) (m.whole ∙ ap (λ y. y ++ m.back) m.begins))) (op_opens m.part m.back k);
  some = λ x w l. some_bind some_operator (λ o. some_map (λ y. ex.Bin o x y) (some_expr_then sc r (codes ")")));
}

pub joint_op : (sc : Scope) (r : Option ℕ) (x : CExpr) → Joint Any Operator Any (λ o. Map (λ y. ex.Bin o x y) (ExprThen sc r (codes ")")))
joint_op sc r x = joint_any (λ o w l. some_map (λ y. ex.Bin o x y) (some_expr_then sc r (codes ")")))

-- operators by their numbers
text_at : (i : ℕ) → i < 13 → get_or op_texts i [] ≡ op_text (op_at i)
text_at zero l = refl
text_at (suc zero) l = refl
text_at (suc (suc zero)) l = refl
text_at (suc (suc (suc zero))) l = refl
text_at (suc (suc (suc (suc zero)))) l = refl
text_at (suc (suc (suc (suc (suc zero))))) l = refl
text_at (suc (suc (suc (suc (suc (suc zero)))))) l = refl
text_at (suc (suc (suc (suc (suc (suc (suc zero))))))) l = refl
text_at (suc (suc (suc (suc (suc (suc (suc (suc zero)))))))) l = refl
text_at (suc (suc (suc (suc (suc (suc (suc (suc (suc zero))))))))) l = refl
text_at (suc (suc (suc (suc (suc (suc (suc (suc (suc (suc zero)))))))))) l = refl
text_at (suc (suc (suc (suc (suc (suc (suc (suc (suc (suc (suc zero))))))))))) l = refl
text_at (suc (suc (suc (suc (suc (suc (suc (suc (suc (suc (suc (suc zero)))))))))))) l = refl
text_at (suc (suc (suc (suc (suc (suc (suc (suc (suc (suc (suc (suc (suc n))))))))))))) l = absurd (omega (arith, l))

one_of_ops : (o : Op) → OneOf op_texts op_may (op_number o) (op_text o)
one_of_ops op.Add = record { within = omega arith; text = refl; may = refl }
one_of_ops op.Sub = record { within = omega arith; text = refl; may = refl }
one_of_ops op.Mul = record { within = omega arith; text = refl; may = refl }
one_of_ops op.Div = record { within = omega arith; text = refl; may = refl }
one_of_ops op.Rem = record { within = omega arith; text = refl; may = refl }
one_of_ops op.Less = record { within = omega arith; text = refl; may = refl }
one_of_ops op.LessEq = record { within = omega arith; text = refl; may = refl }
one_of_ops op.Equal = record { within = omega arith; text = refl; may = refl }
one_of_ops op.NotEqual = record { within = omega arith; text = refl; may = refl }
one_of_ops op.GreaterEq = record { within = omega arith; text = refl; may = refl }
one_of_ops op.Greater = record { within = omega arith; text = refl; may = refl }
one_of_ops op.And = record { within = omega arith; text = refl; may = refl }
one_of_ops op.Or = record { within = omega arith; text = refl; may = refl }

of_number : (o : Op) → o ≡ op_at (op_number o)
of_number op.Add = refl
of_number op.Sub = refl
of_number op.Mul = refl
of_number op.Div = refl
of_number op.Rem = refl
of_number op.Less = refl
of_number op.LessEq = refl
of_number op.Equal = refl
of_number op.NotEqual = refl
of_number op.GreaterEq = refl
of_number op.Greater = refl
of_number op.And = refl
of_number op.Or = refl

pub within_operator : (s : List ℕ) → Within s (Map op_at (OneOf op_texts op_may)) Operator
within_operator s = same
    (λ o w m. m.of.text ∙ text_at m.part m.of.within ∙ ap op_text (sym m.is))
    (λ o w x. let P : List ℕ → Type 0 = λ w. Map op_at (OneOf op_texts op_may) o w in subst P (sym x) (record { part = op_number o; is = of_number o; of = one_of_ops o }))

pub at_byte : {s rest : List ℕ} {c : ℕ} (d : ℕ) → s ≡ c ∷ rest → c ≡ d → s ≡ d ∷ rest
at_byte {s} {rest} {c} d e f = e ∙ ap (λ x. x ∷ rest) f
