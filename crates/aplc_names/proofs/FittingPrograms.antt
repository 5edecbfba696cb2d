-- Each statement of a program that the grammar gives fits the functions of the program.
use Rattle.std.proofs.Common.{◌≡◌, ◌∙◌, ap, sym, refl, subst, ℕ, List, [], ◌∷◌, ◌++◌, map, drop, zero, suc, All, is_some, Option, Some, None, Bool, true, false, ◌&&◌, nat_eq, if◌then◌else◌, inl, inr}
use Rattle.std.proofs.Math.Path.{fun_ext}
use Rattle.std.specs.Prelude.{filter_map, ◌+◌, ◌-◌}
use Rattle.std.specs.Str.{all_scalars, chars}
use lib.Utf8.{scalar}
use Rattle.std.proofs.lemmas.Str.{scalars-chars}
use Rattle.aplc_scalar.specs.Scalar.{in_range}
use Rattle.aplc_lex.specs.Tokens.{AreTokens}
use Rattle.aplc_syntax.proofs.Placed.{laid_words}
use Rattle.aplc_names.proofs.Ranges.{IsRanged, IsRangedToken, ranged_tokens}
use Rattle.std.specs.List.{AllZip, AllByRecursion, cons_option}
use Rattle.std.proofs.lemmas.List.Elements.{All-cons, All-nil, All-head, All-tail}
use Rattle.aplc_lex.specs.declared.token.Token.{Token}
use Rattle.aplc_lex.specs.declared.token.TokenKind.{TokenKind}
use Rattle.aplc_lex.specs.declared.token.TokenKind.TheVariants as k
use Rattle.aplc_syntax.specs.declared.tree.Line.{Line}
use Rattle.aplc_syntax.specs.declared.tree.Function.{Function}
use Rattle.aplc_syntax.specs.declared.tree.Program.{Program}
use Rattle.aplc_syntax.specs.declared.tree.Statement.{Statement}
use Rattle.aplc_syntax.specs.declared.word.Role.{Role}
use Rattle.aplc_syntax.specs.declared.word.Role.TheVariants as role
use Rattle.aplc_syntax.specs.declared.word.Word.{Word}
use Rattle.aplc_syntax.specs.declared.word.WordKind.{WordKind}
use Rattle.aplc_syntax.specs.declared.word.WordKind.TheVariants as w
use Rattle.aplc_syntax.specs.Words.{signs, sign_in, sign, kind_of, word_of, words, names_in, slice, undoubled, text_between, IsQuoted, Laid}
use Rattle.aplc_syntax.specs.Layout.{Row, Rows, before_rows, cut, lines, begins_with_del, Block, part, parts, blocks, parts_of, Header, header_of, headers, known, arity_of, role_of, kind_in, word_in, label_of, sentence}
use Rattle.aplc_syntax.specs.Programs.{IsStatement, IsLine, IsFunction, IsProgramOf}
use Rattle.aplc_names.specs.Fits.{is_arith, is_dyadic, axis_fits, takes_one, takes_two, statement_fits, role_of_function, roles, HasFittingStatements}
use Rattle.aplc_names.proofs.Fitting.{Sane, AllSane, statement_is_fit}

-- ---- Texts

first_of : (a b : Bool) → (a && b) ≡ true → a ≡ true
first_of true b e = refl
first_of false b e = cc

second_of : (a b : Bool) → (a && b) ≡ true → b ≡ true
second_of true b e = e
second_of false b e = cc

both_of : (a b : Bool) → a ≡ true → b ≡ true → (a && b) ≡ true
both_of true true e h = refl
both_of true false e h = cc
both_of false b e h = cc

undoubled_scalars : (cs : List ℕ) → all_scalars cs ≡ true → all_scalars (undoubled cs) ≡ true
undoubled_scalars [] e = refl
undoubled_scalars (c ∷ []) e = e
undoubled_scalars (c ∷ d ∷ cs) e = pick (nat_eq c 39 && nat_eq d 39) (both_of (scalar c) (all_scalars (undoubled cs)) (first_of (scalar c) (all_scalars (d ∷ cs)) e) (undoubled_scalars cs (second_of (scalar d) (all_scalars cs) (second_of (scalar c) (all_scalars (d ∷ cs)) e)))) (both_of (scalar c) (all_scalars (undoubled (d ∷ cs))) (first_of (scalar c) (all_scalars (d ∷ cs)) e) (undoubled_scalars (d ∷ cs) (second_of (scalar c) (all_scalars (d ∷ cs)) e)))
  where
    pick : (b : Bool) → all_scalars (c ∷ undoubled cs) ≡ true → all_scalars (c ∷ undoubled (d ∷ cs)) ≡ true → all_scalars (if b then c ∷ undoubled cs else c ∷ undoubled (d ∷ cs)) ≡ true
    pick true g h = g
    pick false g h = h

-- ---- Symbols

-- what a symbol may be
abbrev is_base : WordKind → Bool
is_base (w.Arith g) = is_arith g
is_base (w.Compare g) = is_dyadic g
is_base (w.Both g) = takes_one g && takes_two g
is_base (w.Dyadic g) = takes_two g
is_base (w.Turn a) = axis_fits a
is_base (w.Stroke s a) = axis_fits a
is_base (w.Number v) = false
is_base (w.Text to) = false
is_base _ = true

abbrev all_base : List (ℕ × WordKind) → Bool
all_base [] = true
all_base (x ∷ xs) = is_base x.1 && all_base xs

sign_in_base : (c : ℕ) (xs : List (ℕ × WordKind)) → all_base xs ≡ true → is_base (sign_in c xs) ≡ true
sign_in_base c [] e = refl
sign_in_base c ((d, x) ∷ xs) e = pick (nat_eq c d) (first_of (is_base x) (all_base xs) e) (sign_in_base c xs (second_of (is_base x) (all_base xs) e))
  where
    pick : (s : Bool) → is_base x ≡ true → is_base (sign_in c xs) ≡ true → is_base (if s then x else sign_in c xs) ≡ true
    pick true g h = g
    pick false g h = h

sign_base : (c : ℕ) → is_base (sign c) ≡ true
unfolding sign
sign_base c = sign_in_base c signs refl

-- ---- Words

-- what a word may be before names have roles
abbrev Base : List ℕ → ℕ → WordKind → Type 0
Base text p (w.Arith g) = is_arith g ≡ true
Base text p (w.Compare g) = is_dyadic g ≡ true
Base text p (w.Both g) = (takes_one g ≡ true) × (takes_two g ≡ true)
Base text p (w.Dyadic g) = takes_two g ≡ true
Base text p (w.Turn a) = axis_fits a ≡ true
Base text p (w.Stroke s a) = axis_fits a ≡ true
Base text p (w.Number v) = in_range v ≡ true
Base text p (w.Text to) = all_scalars (text_between text p to) ≡ true
Base text p _ = Unit {0}

symbol_base : (text : List ℕ) (p : ℕ) (x : WordKind) → is_base x ≡ true → Base text p x
symbol_base text p (w.Arith g) e = e
symbol_base text p (w.Compare g) e = e
symbol_base text p (w.Both g) e = (first_of (takes_one g) (takes_two g) e, second_of (takes_one g) (takes_two g) e)
symbol_base text p (w.Dyadic g) e = e
symbol_base text p (w.Turn a) e = e
symbol_base text p (w.Stroke s a) e = e
symbol_base text p (w.Number v) e = cc
symbol_base text p (w.Text to) e = cc
symbol_base text p _ e = tt

abbrev AllBase : List ℕ → List Word → Type 0
AllBase text [] = Unit {0}
AllBase text (x ∷ xs) = Base text x.place x.kind × AllBase text xs

kind_base : (text : List ℕ) (ns : List (List ℕ)) (t : Token) (j : TokenKind) → IsRanged j → IsQuoted text t.span.from (kind_of text ns t j) → Base text t.span.from (kind_of text ns t j)
kind_base text ns t k.Name r q = tt
kind_base text ns t (k.Number v) r q = r
kind_base text ns t k.Text r q = undoubled_scalars (chars (slice text (t.span.from + 1) (t.span.to - 1))) (scalars-chars (slice text (t.span.from + 1) (t.span.to - 1)) q.2)
kind_base text ns t k.NumsInput r q = tt
kind_base text ns t (k.Symbol c) r q = symbol_base text t.span.from (sign c) (sign_base c)
kind_base text ns t k.LineEnd r q = tt

words_base : (text : List ℕ) (ns : List (List ℕ)) (p : ℕ) (ts : List Token) → All IsRangedToken ts → Laid text p (map (word_of text ns) ts) → AllBase text (map (word_of text ns) ts)
words_base text ns p [] a l = tt
words_base text ns p (t ∷ ts) a l =
    (kind_base text ns t t.kind (All-head IsRangedToken t ts a) l.2, words_base text ns (t.span.from + 1) ts (All-tail IsRangedToken t ts a) l.3)

drop_base : (text : List ℕ) (n : ℕ) (ws : List Word) → AllBase text ws → AllBase text (drop n ws)
drop_base text zero [] h = tt
drop_base text zero (x ∷ xs) h = h
drop_base text (suc n) [] h = tt
drop_base text (suc n) (x ∷ xs) h = drop_base text n xs h.1

-- ---- Lines and functions

abbrev RowBase : List ℕ → Row → Type 0
RowBase text r = AllBase text r.words

before_base : (text : List ℕ) (j : WordKind) (x : Word) (rows : Rows) → Base text x.place x.kind → AllBase text rows.first → AllByRecursion (RowBase text) rows.rest
    → AllBase text (before_rows j x rows).first × AllByRecursion (RowBase text) (before_rows j x rows).rest
before_base text (w.LineEnd to) x rows e f r = (tt, (f, r))
before_base text _ x rows e f r = ((e, f), r)

cut_base : (text : List ℕ) (ws : List Word) → AllBase text ws → AllBase text (cut ws).first × AllByRecursion (RowBase text) (cut ws).rest
cut_base text [] h = (tt, tt)
cut_base text (x ∷ xs) h = let i = cut_base text xs h.1 in before_base text x.kind x (cut xs) h.0 i.0 i.1

abbrev BodyBase : List ℕ → Block → Type 0
BodyBase text b = AllByRecursion (RowBase text) b.body

abbrev OpenedBase : List ℕ → Option (Row × List Row) → Type 0
OpenedBase text None = Unit {0}
OpenedBase text (Some (g, body)) = AllByRecursion (RowBase text) body

row_more : (text : List ℕ) (rs : List Row) (r : Row) → AllByRecursion (RowBase text) rs → RowBase text r → AllByRecursion (RowBase text) (rs ++ r ∷ [])
row_more text [] r h i = (i, tt)
row_more text (s ∷ rs) r h i = (h.0, row_more text rs r h.1 i)

part_base : (text : List ℕ) (t : Bool) (r : Row) (opened : Option (Row × List Row)) (rs : List Row)
    → ((o : Option (Row × List Row)) → OpenedBase text o → AllByRecursion (BodyBase text) (blocks (parts rs o)))
    → RowBase text r → OpenedBase text opened → AllByRecursion (BodyBase text) (blocks (part t r opened (parts rs)))
part_base text true r None rs f i o = f (Some (r, [])) tt
part_base text false r None rs f i o = f None tt
part_base text true r (Some (g, body)) rs f i o = (o, f None tt)
part_base text false r (Some (g, body)) rs f i o = f (Some (g, body ++ r ∷ [])) (row_more text body r o i)

parts_base : (text : List ℕ) (rs : List Row) (opened : Option (Row × List Row)) → AllByRecursion (RowBase text) rs → OpenedBase text opened → AllByRecursion (BodyBase text) (blocks (parts rs opened))
parts_base text [] None h o = tt
parts_base text [] (Some (g, body)) h o = (o, tt)
parts_base text (r ∷ rs) opened h o = part_base text (begins_with_del r.words) r opened rs (λ x i. parts_base text rs x h.1 i) h.0 o

bodies_base : (text : List ℕ) (ts : List Token) → AreTokens text ts → AllByRecursion (BodyBase text) (blocks (parts_of text ts))
bodies_base text ts a =
    let i = cut_base text (words text ts) (words_base text (names_in text ts) 0 ts (ranged_tokens text ts a) (laid_words text ts a)) in
    parts_base text (lines (words text ts)) None i tt

-- ---- Statements

abbrev by : List Header → ℕ → Role
by hs n = role_of (known hs n)

kind_sane : (text : List ℕ) (hs : List Header) (p : ℕ) (x : WordKind) → Base text p x → Sane (by hs) text p (kind_in hs x)
kind_sane text hs p (w.Arith g) e = e
kind_sane text hs p (w.Compare g) e = e
kind_sane text hs p (w.Both g) e = e
kind_sane text hs p (w.Dyadic g) e = e
kind_sane text hs p (w.Turn a) e = e
kind_sane text hs p (w.Stroke s a) e = e
kind_sane text hs p (w.Number v) e = e
kind_sane text hs p (w.Text to) e = e
kind_sane text hs p (w.Name q n) e = refl
kind_sane text hs p _ e = tt

map_sane : (text : List ℕ) (hs : List Header) (ws : List Word) → AllBase text ws → AllSane (by hs) text (map (word_in hs) ws)
map_sane text hs [] h = tt
map_sane text hs (x ∷ xs) h = (kind_sane text hs x.place x.kind h.0, map_sane text hs xs h.1)

sentence_sane : (text : List ℕ) (hs : List Header) (r : Row) → RowBase text r → AllSane (by hs) text (sentence hs r)
sentence_sane text hs r h = pick (is_some (label_of r))
  where
    pick : (b : Bool) → AllSane (by hs) text (map (word_in hs) (if b then drop 2 r.words else r.words))
    pick true = map_sane text hs (drop 2 r.words) (drop_base text 2 r.words h)
    pick false = map_sane text hs r.words h

statement_fit : (text : List ℕ) (hs : List Header) (ws : List Word) (s : Statement) → AllSane (by hs) text ws → IsStatement text ws s → statement_fits (by hs) s ≡ true
statement_fit text hs ws s h (inl x) = ap (statement_fits (by hs)) x.1
statement_fit text hs ws s h (inr d) = ap (statement_fits (by hs)) d.tree ∙ statement_is_fit (by hs) text d.form (subst (AllSane (by hs) text) d.spelled h)

-- ---- Functions

abbrev LineFit : (ℕ → Role) → Line → Type 0
LineFit r l = statement_fits r l.statement ≡ true

abbrev FunctionFit : (ℕ → Role) → Function → Type 0
FunctionFit r g = All (LineFit r) g.lines

lines_fit : (text : List ℕ) (hs : List Header) (rs : List Row) (ls : List Line) → AllByRecursion (RowBase text) rs → AllZip (IsLine text hs) rs ls → All (LineFit (by hs)) ls
lines_fit text hs [] [] h z = All-nil (LineFit (by hs))
lines_fit text hs [] (l ∷ ls) h z = absurd z
lines_fit text hs (r ∷ rs) [] h z = absurd z
lines_fit text hs (r ∷ rs) (l ∷ ls) h z =
    All-cons (LineFit (by hs)) l ls (statement_fit text hs (sentence hs r) l.statement (sentence_sane text hs r h.0) z.0.statement) (lines_fit text hs rs ls h.1 z.1)

functions_fit : (text : List ℕ) (hs : List Header) (bs : List Block) (gs : List Function) → AllByRecursion (BodyBase text) bs → AllZip (IsFunction text hs) bs gs → All (FunctionFit (by hs)) gs
functions_fit text hs [] [] h z = All-nil (FunctionFit (by hs))
functions_fit text hs [] (g ∷ gs) h z = absurd z
functions_fit text hs (b ∷ bs) [] h z = absurd z
functions_fit text hs (b ∷ bs) (g ∷ gs) h z =
    All-cons (FunctionFit (by hs)) g gs (lines_fit text hs b.body g.lines h.0 z.0.lines) (functions_fit text hs bs gs h.1 z.1)

-- ---- Roles

-- a header gives a name the role that its function does
head_role : (h : Header) (g : Function) → g.result ≡ h.result → g.left ≡ h.left → g.right ≡ h.right → role_of_function g ≡ role_of (Some h)
head_role h g a b c =
    ap (λ x. if is_some x then role.Function (arity_of g.left g.right) else role.Procedure (arity_of g.left g.right)) a
    ∙ ap (λ x. if is_some h.result then role.Function (arity_of x g.right) else role.Procedure (arity_of x g.right)) b
    ∙ ap (λ x. if is_some h.result then role.Function (arity_of h.left x) else role.Procedure (arity_of h.left x)) c

branches : (b : Bool) (p q : Role) (x : Option Header) (h : Header) → p ≡ role_of (Some h) → q ≡ role_of x → (if b then p else q) ≡ role_of (if b then Some h else x)
branches true p q x h d e = d
branches false p q x h d e = e

roles_are : (text : List ℕ) (hs : List Header) (bs : List Block) (gs : List Function) → AllZip (IsFunction text hs) bs gs → (n : ℕ) → roles gs n ≡ role_of (known (filter_map header_of bs) n)
roles_are text hs [] [] z n = refl
roles_are text hs [] (g ∷ gs) z n = absurd z
roles_are text hs (b ∷ bs) [] z n = absurd z
roles_are text hs (b ∷ bs) (g ∷ gs) z n =
    let i = z.0 in
    ap (λ x. if nat_eq x.name.0 n then role_of_function g else roles gs n) i.name
    ∙ branches (nat_eq i.head.name.name.0 n) (role_of_function g) (roles gs n) (known (filter_map header_of bs) n) i.head (head_role i.head g i.result i.left i.right) (roles_are text hs bs gs z.1 n)
    ∙ sym (ap (λ x. role_of (known (cons_option x (filter_map header_of bs)) n)) i.headed)

-- ---- Programs

pub program_is_fit : (text : List ℕ) (ts : List Token) (p : Program) → AreTokens text ts → IsProgramOf text ts p → HasFittingStatements p
program_is_fit text ts p a i =
    let hs = headers (parts_of text ts) in
    let e : by hs ≡ roles p.functions = fun_ext (λ n. sym (roles_are text hs (blocks (parts_of text ts)) p.functions i.functions n)) in
    subst (λ r. All (FunctionFit r) p.functions) e (functions_fit text hs (blocks (parts_of text ts)) p.functions (bodies_base text ts a) i.functions)
