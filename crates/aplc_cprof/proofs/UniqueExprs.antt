-- A text is that of one expression at most.
use Rattle.std.proofs.Common.{◌≡◌, ◌∙◌, ap, ap₂, sym, refl, subst, ℕ, ◌^◌, List, [], ◌∷◌, ◌++◌, append_assoc, codes, decimal, ℤ, pos, negsuc, Bool, false, IsTrue, cond, nat_eq, arith}
use Rattle.std.proofs.lemmas.Bool.Decides.{nat_tests}
use Rattle.std.proofs.lemmas.List.{append_cancel_left}
use Rattle.std.specs.Fmt.{signed_decimal}
use Rattle.aplc_cprof.specs.declared.syntax.Int.{Int}
use Rattle.aplc_cprof.specs.declared.syntax.Int.TheVariants as int
use Rattle.aplc_cprof.specs.declared.syntax.Buf.{Buf}
use Rattle.aplc_cprof.specs.declared.syntax.Buf.TheVariants as buf
use Rattle.aplc_cprof.specs.declared.syntax.Op.{Op}
use Rattle.aplc_cprof.specs.declared.syntax.Op.TheVariants as op
use Rattle.aplc_cprof.specs.declared.syntax.CExpr.{CExpr, roll-CExpr, fold-roll-CExpr, map-CExpr, ind-CExpr}
use Rattle.aplc_cprof.specs.declared.syntax.CExpr.TheVariants as ex
use Rattle.aplc_cprof.specs.declared.syntax.CExpr.TheOpen.{CExpr-F}
use Rattle.aplc_cprof.specs.Text.{expr_text, expr_step, int_name, buf_name, op_text}
use Rattle.aplc_cprof.proofs.Plain.{is_word, is_index, is_plain_int, is_plain_buf, is_plain_expr, plain_expr_step}
use Rattle.aplc_cprof.proofs.UniqueNumbers.{is_digit, NoDigit, Splits, then_fixed, indexes, words, both, lt_of, clash, decimal_first}

-- two values are not the same, nor two numbers
pub apart : (i j : ℕ) → nat_eq i j ≡ false → i ≡ j → ⊥
apart i j n e = grind (arith, nat_tests)

-- ---- Variables and operators

int_only : (x y : Int) → IsTrue (is_plain_int x) → IsTrue (is_plain_int y) → (k m : List ℕ) → NoDigit k → NoDigit m → int_name x ++ k ≡ int_name y ++ m → (x ≡ y) × (k ≡ m)
unfolding int_name
int_only (int.Local a) (int.Local b) ha hb k m nk nm e =
    let r = indexes.only a b ha hb k m nk nm (append_cancel_left (118 ∷ []) (decimal a ++ k) (decimal b ++ m) e) in (ap int.Local r.0, r.1)
int_only (int.Local a) (int.Global b) ha hb k m nk nm e = absurd (clash 118 103 (decimal a ++ k) (decimal b ++ m) refl e)
int_only (int.Global a) (int.Local b) ha hb k m nk nm e = absurd (clash 103 118 (decimal a ++ k) (decimal b ++ m) refl e)
int_only (int.Global a) (int.Global b) ha hb k m nk nm e =
    let r = indexes.only a b ha hb k m nk nm (append_cancel_left (103 ∷ []) (decimal a ++ k) (decimal b ++ m) e) in (ap int.Global r.0, r.1)

pub ints : Splits int_name is_plain_int
ints = record { only = int_only }

buf_only : (x y : Buf) → IsTrue (is_plain_buf x) → IsTrue (is_plain_buf y) → (k m : List ℕ) → NoDigit k → NoDigit m → buf_name x ++ k ≡ buf_name y ++ m → (x ≡ y) × (k ≡ m)
unfolding buf_name
buf_only (buf.Local a) (buf.Local b) ha hb k m nk nm e =
    let r = indexes.only a b ha hb k m nk nm (append_cancel_left (98 ∷ []) (decimal a ++ k) (decimal b ++ m) e) in (ap buf.Local r.0, r.1)
buf_only (buf.Local a) (buf.Global b) ha hb k m nk nm e = absurd (clash 98 104 (decimal a ++ k) (decimal b ++ m) refl e)
buf_only (buf.Global a) (buf.Local b) ha hb k m nk nm e = absurd (clash 104 98 (decimal a ++ k) (decimal b ++ m) refl e)
buf_only (buf.Global a) (buf.Global b) ha hb k m nk nm e =
    let r = indexes.only a b ha hb k m nk nm (append_cancel_left (104 ∷ []) (decimal a ++ k) (decimal b ++ m) e) in (ap buf.Global r.0, r.1)

pub bufs : Splits buf_name is_plain_buf
bufs = record { only = buf_only }

-- the operator that a text begins with, by its second and third byte
abbrev op_by : ℕ → ℕ → Op
op_by b c =
    cond (nat_eq b 43) op.Add (cond (nat_eq b 45) op.Sub (cond (nat_eq b 42) op.Mul (cond (nat_eq b 47) op.Div (cond (nat_eq b 37) op.Rem
    (cond (nat_eq b 60) (cond (nat_eq c 61) op.LessEq op.Less) (cond (nat_eq b 62) (cond (nat_eq c 61) op.GreaterEq op.Greater)
    (cond (nat_eq b 61) op.Equal (cond (nat_eq b 33) op.NotEqual (cond (nat_eq b 38) op.And op.Or)))))))))

abbrev op_at : List ℕ → Op
op_at (a ∷ b ∷ c ∷ s) = op_by b c
op_at s = op.Or

op_at_text : (o : Op) (k : List ℕ) → op_at (op_text o ++ k) ≡ o
op_at_text op.Add k = refl
op_at_text op.Sub k = refl
op_at_text op.Mul k = refl
op_at_text op.Div k = refl
op_at_text op.Rem k = refl
op_at_text op.Less k = refl
op_at_text op.LessEq k = refl
op_at_text op.Equal k = refl
op_at_text op.NotEqual k = refl
op_at_text op.GreaterEq k = refl
op_at_text op.Greater k = refl
op_at_text op.And k = refl
op_at_text op.Or k = refl

pub op_only : (o p : Op) (k m : List ℕ) → op_text o ++ k ≡ op_text p ++ m → (o ≡ p) × (k ≡ m)
op_only o p k m e =
    let same : o ≡ p = sym (op_at_text o k) ∙ ap op_at e ∙ op_at_text p m in
    (same, append_cancel_left (op_text p) k m (ap (λ x. op_text x ++ k) (sym same) ∙ e))

op_no_digit : (o : Op) (k : List ℕ) → NoDigit (op_text o ++ k)
op_no_digit op.Add k = refl
op_no_digit op.Sub k = refl
op_no_digit op.Mul k = refl
op_no_digit op.Div k = refl
op_no_digit op.Rem k = refl
op_no_digit op.Less k = refl
op_no_digit op.LessEq k = refl
op_no_digit op.Equal k = refl
op_no_digit op.NotEqual k = refl
op_no_digit op.GreaterEq k = refl
op_no_digit op.Greater k = refl
op_no_digit op.And k = refl
op_no_digit op.Or k = refl

-- ---- Expressions

-- an expression whose numbers fit
pub data Expr : Type 0 where
  lit : (n : ℤ) → IsTrue (is_word n) → Expr
  var : (x : Int) → IsTrue (is_plain_int x) → Expr
  cell : (p : Buf) → IsTrue (is_plain_buf p) → Expr → Expr
  table : (k : ℕ) → IsTrue (is_index k) → Expr → Expr
  bin : Op → Expr → Expr → Expr

abbrev pub expr_of : Expr → CExpr
expr_of (lit n h) = ex.Lit n
expr_of (var x h) = ex.Var x
expr_of (cell p h e) = ex.Cell p (expr_of e)
expr_of (table i h e) = ex.Table i (expr_of e)
expr_of (bin o x y) = ex.Bin o (expr_of x) (expr_of y)

-- the text, and what follows it
abbrev pub written : Expr → List ℕ → List ℕ
written (lit n h) k = signed_decimal n ++ (codes "LL" ++ k)
written (var x h) k = int_name x ++ k
written (cell p h e) k = buf_name p ++ (codes "[" ++ written e (codes "]" ++ k))
written (table i h e) k = codes "k" ++ (decimal i ++ (codes "[" ++ written e (codes "]" ++ k)))
written (bin o x y) k = codes "(" ++ written x (op_text o ++ written y (codes ")" ++ k))

four : (a b c d k : List ℕ) → (a ++ b ++ c ++ d) ++ k ≡ a ++ (b ++ (c ++ (d ++ k)))
four a b c d k = simp append_assoc

five : (a b c d e k : List ℕ) → (a ++ b ++ c ++ d ++ e) ++ k ≡ a ++ (b ++ (c ++ (d ++ (e ++ k))))
five a b c d e k = simp append_assoc

written_is : (e : Expr) (k : List ℕ) → expr_text (expr_of e) ++ k ≡ written e k
written_is (lit n h) k =
    ap (λ t. t ++ k) (ap expr_text (sym (ex.rolls-Lit n)) ∙ fold-roll-CExpr (List ℕ) expr_step (CExpr-F.Lit n)) ∙ append_assoc (signed_decimal n) (codes "LL") k
written_is (var x h) k = ap (λ t. t ++ k) (ap expr_text (sym (ex.rolls-Var x)) ∙ fold-roll-CExpr (List ℕ) expr_step (CExpr-F.Var x))
written_is (cell p h e) k =
    ap (λ t. t ++ k) (ap expr_text (sym (ex.rolls-Cell p (expr_of e))) ∙ fold-roll-CExpr (List ℕ) expr_step (CExpr-F.Cell p (expr_of e)))
    ∙ four (buf_name p) (codes "[") (expr_text (expr_of e)) (codes "]") k
    ∙ ap (λ t. buf_name p ++ (codes "[" ++ t)) (written_is e (codes "]" ++ k))
written_is (table i h e) k =
    ap (λ t. t ++ k) (ap expr_text (sym (ex.rolls-Table i (expr_of e))) ∙ fold-roll-CExpr (List ℕ) expr_step (CExpr-F.Table i (expr_of e)))
    ∙ five (codes "k") (decimal i) (codes "[") (expr_text (expr_of e)) (codes "]") k
    ∙ ap (λ t. codes "k" ++ (decimal i ++ (codes "[" ++ t))) (written_is e (codes "]" ++ k))
written_is (bin o x y) k =
    ap (λ t. t ++ k) (ap expr_text (sym (ex.rolls-Bin o (expr_of x) (expr_of y))) ∙ fold-roll-CExpr (List ℕ) expr_step (CExpr-F.Bin o (expr_of x) (expr_of y)))
    ∙ five (codes "(") (expr_text (expr_of x)) (op_text o) (expr_text (expr_of y)) (codes ")") k
    ∙ ap (λ t. codes "(" ++ t) (ap (λ t. expr_text (expr_of x) ++ (op_text o ++ t)) (written_is y (codes ")" ++ k)) ∙ written_is x (op_text o ++ written y (codes ")" ++ k)))

-- what an expression begins with: a number, a parenthesis, or the letter of a variable, a buffer or a table
abbrev letter : ℕ → ℕ
letter c =
    cond (nat_eq c 45) 1 (cond (nat_eq c 40) 2 (cond (nat_eq c 118) 3 (cond (nat_eq c 103) 3 (cond (nat_eq c 98) 4 (cond (nat_eq c 104) 4 (cond (nat_eq c 107) 5 0))))))

abbrev pub begins : List ℕ → ℕ
begins [] = 0
begins (c ∷ cs) = cond (is_digit c) 1 (letter c)

abbrev form : Expr → ℕ
form (lit n h) = 1
form (bin o x y) = 2
form (var x h) = 3
form (cell p h e) = 4
form (table i h e) = 5

int_begins : (x : Int) (k : List ℕ) → begins (int_name x ++ k) ≡ 3
unfolding int_name
int_begins (int.Local n) k = refl
int_begins (int.Global n) k = refl

pub buf_begins : (p : Buf) (k : List ℕ) → begins (buf_name p ++ k) ≡ 4
unfolding buf_name
buf_begins (buf.Local n) k = refl
buf_begins (buf.Global n) k = refl

word_begins : (n : ℤ) (k : List ℕ) → IsTrue (is_word n) → begins (signed_decimal n ++ k) ≡ 1
word_begins (pos n) k h =
    let l = lt_of n (2 ^ 63) h in
    let d = decimal_first n k (omega (arith, l)) in
    ap begins d.1.1.0 ∙ ap (λ b. cond b 1 (letter d.0)) d.1.1.1
word_begins (negsuc n) k h = refl

written_begins : (e : Expr) (k : List ℕ) → begins (written e k) ≡ form e
written_begins (lit n h) k = word_begins n (codes "LL" ++ k) h
written_begins (var x h) k = int_begins x k
written_begins (cell p h e) k = buf_begins p _
written_begins (table i h e) k = refl
written_begins (bin o x y) k = refl

same_form : (a b : Expr) (k m : List ℕ) → written a k ≡ written b m → form a ≡ form b
same_form a b k m e = sym (written_begins a k) ∙ ap begins e ∙ written_begins b m

expr_only : (a b : Expr) (k m : List ℕ) → NoDigit k → NoDigit m → written a k ≡ written b m → (expr_of a ≡ expr_of b) × (k ≡ m)
expr_only (lit a ha) (lit b hb) k m nk nm e = let r = then_fixed words (codes "LL") (λ k. refl) a b ha hb k m e in (ap ex.Lit r.0, r.1)
expr_only (var x hx) (var y hy) k m nk nm e = let r = ints.only x y hx hy k m nk nm e in (ap ex.Var r.0, r.1)
expr_only (cell p hp a) (cell q hq b) k m nk nm e =
    let r = then_fixed bufs (codes "[") (λ k. refl) p q hp hq (written a (codes "]" ++ k)) (written b (codes "]" ++ m)) e in
    let s = expr_only a b (codes "]" ++ k) (codes "]" ++ m) refl refl r.1 in
    (ap₂ ex.Cell r.0 s.0, append_cancel_left (codes "]") k m s.1)
expr_only (table i hi a) (table j hj b) k m nk nm e =
    let r = then_fixed indexes (codes "[") (λ k. refl) i j hi hj (written a (codes "]" ++ k)) (written b (codes "]" ++ m)) (append_cancel_left (codes "k") _ _ e) in
    let s = expr_only a b (codes "]" ++ k) (codes "]" ++ m) refl refl r.1 in
    (ap₂ ex.Table r.0 s.0, append_cancel_left (codes "]") k m s.1)
expr_only (bin o x y) (bin p z w) k m nk nm e =
    let r = expr_only x z (op_text o ++ written y (codes ")" ++ k)) (op_text p ++ written w (codes ")" ++ m)) (op_no_digit o _) (op_no_digit p _) (append_cancel_left (codes "(") _ _ e) in
    let s = op_only o p (written y (codes ")" ++ k)) (written w (codes ")" ++ m)) r.1 in
    let t = expr_only y w (codes ")" ++ k) (codes ")" ++ m) refl refl s.1 in
    (ap₂ (λ q u. ex.Bin q u (expr_of y)) s.0 r.0 ∙ ap (λ u. ex.Bin p (expr_of z) u) t.0, append_cancel_left (codes ")") k m t.1)
expr_only a b k m nk nm e = absurd (apart (form a) (form b) refl (same_form a b k m e))

-- each plain expression is one of these
abbrev IsOne : CExpr → Type 0
IsOne e = IsTrue (is_plain_expr e) → (p : Expr) × (e ≡ expr_of p)

one_level : (y : CExpr-F ((e : CExpr) × IsOne e)) → IsOne (roll-CExpr (map-CExpr ((e : CExpr) × IsOne e) CExpr (λ e. e.0) y))
one_level (CExpr-F.Lit n) h = (lit n (subst IsTrue (fold-roll-CExpr Bool plain_expr_step (CExpr-F.Lit n)) h), ex.rolls-Lit n)
one_level (CExpr-F.Var x) h = (var x (subst IsTrue (fold-roll-CExpr Bool plain_expr_step (CExpr-F.Var x)) h), ex.rolls-Var x)
one_level (CExpr-F.Cell p e) h =
    let f = both (is_plain_buf p) (is_plain_expr e.0) (subst IsTrue (fold-roll-CExpr Bool plain_expr_step (CExpr-F.Cell p e.0)) h) in
    let a = e.1 f.1 in
    (cell p f.0 a.0, ex.rolls-Cell p e.0 ∙ ap (ex.Cell p) a.1)
one_level (CExpr-F.Table i e) h =
    let f = both (is_index i) (is_plain_expr e.0) (subst IsTrue (fold-roll-CExpr Bool plain_expr_step (CExpr-F.Table i e.0)) h) in
    let a = e.1 f.1 in
    (table i f.0 a.0, ex.rolls-Table i e.0 ∙ ap (ex.Table i) a.1)
one_level (CExpr-F.Bin o x y) h =
    let f = both (is_plain_expr x.0) (is_plain_expr y.0) (subst IsTrue (fold-roll-CExpr Bool plain_expr_step (CExpr-F.Bin o x.0 y.0)) h) in
    let a = x.1 f.0 in let b = y.1 f.1 in
    (bin o a.0 b.0, ex.rolls-Bin o x.0 y.0 ∙ ap₂ (ex.Bin o) a.1 b.1)

one : (e : CExpr) → IsOne e
one = ind-CExpr IsOne (λ x y q. subst (λ l. IsOne (roll-CExpr l)) q (one_level y))

pub exprs : Splits expr_text is_plain_expr
exprs = record {
  only = λ a b ha hb k m nk nm e.
      let p = one a ha in let q = one b hb in
      let r = expr_only p.0 q.0 k m nk nm (sym (ap (λ x. expr_text x ++ k) p.1 ∙ written_is p.0 k) ∙ e ∙ ap (λ x. expr_text x ++ m) q.1 ∙ written_is q.0 m) in
      (p.1 ∙ r.0 ∙ sym q.1, r.1);
}

-- every expression begins with one of these bytes
some_form : (e : Expr) → nat_eq (form e) 0 ≡ false
some_form (lit n h) = refl
some_form (var x h) = refl
some_form (cell p h e) = refl
some_form (table i h e) = refl
some_form (bin o x y) = refl

pub expr_begins : (e : CExpr) → IsTrue (is_plain_expr e) → (k : List ℕ) → nat_eq (begins (expr_text e ++ k)) 0 ≡ false
expr_begins e h k =
    let p = one e h in
    ap (λ n. nat_eq n 0) (ap begins (ap (λ x. expr_text x ++ k) p.1 ∙ written_is p.0 k) ∙ written_begins p.0 k) ∙ some_form p.0
