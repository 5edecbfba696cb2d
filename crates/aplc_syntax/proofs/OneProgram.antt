-- A text and its tokens have at most one program.
use Rattle.std.proofs.Common.{◌≡◌, ℕ, List, [], ◌∷◌, ℤ, Option, Some, refl, sym, ap, ap₂, ◌∙◌, subst, filter_map}
use Rattle.std.specs.List.{AllZip}
use Rattle.aplc_lex.specs.declared.token.Token.{Token}
use Rattle.aplc_syntax.specs.declared.tree.Named.{Named}
use Rattle.aplc_syntax.specs.declared.tree.Line.{Line}
use Rattle.aplc_syntax.specs.declared.tree.Function.{Function}
use Rattle.aplc_syntax.specs.declared.tree.Program.{Program}
use Rattle.aplc_syntax.specs.declared.tree.Statement.{Statement}
use Rattle.aplc_syntax.specs.declared.tree.Var.{Var}
use Rattle.aplc_syntax.specs.Words.{names_in}
use Rattle.aplc_syntax.specs.Layout.{Row, Block, Header, Declaration, parts_of, blocks, above, header_of, headers, sentence, declaration, origin_of, var_of}
use Rattle.aplc_syntax.specs.Programs.{IsLine, IsFunction, IsOrigin, Declare, IsProgramOf}
use Rattle.aplc_syntax.proofs.Unique.{some_same, one_statement}

-- lists that stand in a relation to one list, which leaves one value for each element, are the same
zip_same : {A B : Type 0} (R : A → B → Type 0) → ((x : A) (y z : B) → R x y → R x z → y ≡ z) → (xs : List A) (ys zs : List B) → AllZip R xs ys → AllZip R xs zs → ys ≡ zs
zip_same R f [] [] [] h i = refl
zip_same R f [] [] (z ∷ zs) h i = absurd i
zip_same R f [] (y ∷ ys) zs h i = absurd h
zip_same R f (x ∷ xs) [] zs h i = absurd h
zip_same R f (x ∷ xs) (y ∷ ys) [] h i = absurd i
zip_same {A} {B} R f (x ∷ xs) (y ∷ ys) (z ∷ zs) h i = ap₂ (λ (u : B) (us : List B). u ∷ us) (f x y z h.0 i.0) (zip_same R f xs ys zs h.1 i.1)

line_same : (text : List ℕ) (hs : List Header) (r : Row) (l m : Line) → IsLine text hs r l → IsLine text hs r m → l ≡ m
line_same text hs r l m g h = ap₂ (λ (a : Option Named) (b : Statement). let x : Line = record { label = a; statement = b } in x)
    (g.label ∙ sym h.label) (one_statement text (sentence hs r) l.statement m.statement g.statement h.statement)

abbrev function : Named → Option Named → Option Named → Option Named → List Named → List Line → Function
function n r a b ls xs = record { name = n; result = r; left = a; right = b; locals = ls; lines = xs }

function_same : (text : List ℕ) (hs : List Header) (b : Block) (f g : Function) → IsFunction text hs b f → IsFunction text hs b g → f ≡ g
function_same text hs b f g h i = let e : h.head ≡ i.head = some_same h.head i.head (header_of b) h.headed i.headed in
    ap (λ (n : Named). function n f.result f.left f.right f.locals f.lines) (h.name ∙ ap (λ (x : Header). x.name) e ∙ sym i.name)
    ∙ ap (λ (r : Option Named). function g.name r f.left f.right f.locals f.lines) (h.result ∙ ap (λ (x : Header). x.result) e ∙ sym i.result)
    ∙ ap (λ (a : Option Named). function g.name g.result a f.right f.locals f.lines) (h.left ∙ ap (λ (x : Header). x.left) e ∙ sym i.left)
    ∙ ap (λ (a : Option Named). function g.name g.result g.left a f.locals f.lines) (h.right ∙ ap (λ (x : Header). x.right) e ∙ sym i.right)
    ∙ ap (λ (a : List Named). function g.name g.result g.left g.right a f.lines) (h.locals ∙ ap (λ (x : Header). x.locals) e ∙ sym i.locals)
    ∙ ap (λ (a : List Line). function g.name g.result g.left g.right g.locals a) (zip_same (IsLine text hs) (line_same text hs) b.body f.lines g.lines h.lines i.lines)

origin_same : (xs : List ℤ) (v w : ℤ) → IsOrigin xs v → IsOrigin xs w → v ≡ w
origin_same [] v w h i = h ∙ sym i
origin_same (x ∷ []) v w h i = h ∙ sym i
origin_same (x ∷ y ∷ xs) v w h i = absurd h

said_same : (ns : List (List ℕ)) (rs : List Row) (v w : ℤ) (xs ys : List Var) (h : Declare ns rs v xs) (i : Declare ns rs w ys) → h.said ≡ i.said
said_same ns rs v w xs ys h i = zip_same (λ (r : Row) (d : Declaration). declaration ns r ≡ Some d) (λ r c d e f. some_same c d (declaration ns r) e f) rs h.said i.said h.declared i.declared

declared_origin : (ns : List (List ℕ)) (rs : List Row) (v w : ℤ) (xs ys : List Var) (h : Declare ns rs v xs) (i : Declare ns rs w ys) → v ≡ w
declared_origin ns rs v w xs ys h i = origin_same (filter_map origin_of i.said) v w
    (subst (λ (ds : List Declaration). IsOrigin (filter_map origin_of ds) v) (said_same ns rs v w xs ys h i) h.origin) i.origin

declared_vars : (ns : List (List ℕ)) (rs : List Row) (v w : ℤ) (xs ys : List Var) (h : Declare ns rs v xs) (i : Declare ns rs w ys) → xs ≡ ys
declared_vars ns rs v w xs ys h i = h.named ∙ ap (filter_map var_of) (said_same ns rs v w xs ys h i) ∙ sym i.named

abbrev program : List (List ℕ) → ℤ → List Var → List Function → Program
program ns v vars fs = record { names = ns; origin = v; vars = vars; functions = fs }

-- a text and its tokens have at most one program
pub one_program : (text : List ℕ) (ts : List Token) (p q : Program) → IsProgramOf text ts p → IsProgramOf text ts q → p ≡ q
one_program text ts p q h i =
    ap (λ (ns : List (List ℕ)). program ns p.origin p.vars p.functions) (h.names ∙ sym i.names)
    ∙ ap (λ (v : ℤ). program q.names v p.vars p.functions) (declared_origin (names_in text ts) (above (parts_of text ts)) p.origin q.origin p.vars q.vars h.declared i.declared)
    ∙ ap (λ (xs : List Var). program q.names q.origin xs p.functions) (declared_vars (names_in text ts) (above (parts_of text ts)) p.origin q.origin p.vars q.vars h.declared i.declared)
    ∙ ap (λ (fs : List Function). program q.names q.origin q.vars fs)
    (zip_same (IsFunction text (headers (parts_of text ts))) (function_same text (headers (parts_of text ts))) (blocks (parts_of text ts)) p.functions q.functions h.functions i.functions)
