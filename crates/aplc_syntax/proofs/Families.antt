-- The refusals of a text by what they belong to, and the program of a text that has none.
use Rattle.std.proofs.Common.{◌≡◌, ℕ, ◌≤◌, ◌<◌, ◌⊎◌, inl, inr, Bool, true, false, List, [], ◌∷◌, ℤ, Option, Some, None, refl, sym, ap, ◌∙◌, subst, length, map, option_map, filter_map, nat_lt, arith}
use Rattle.std.specs.Prelude.{All, Contains}
use Rattle.std.specs.List.{slice_get, AllZip}
use Rattle.std.proofs.lemmas.Bool.Decides.{nat_tests}
use Rattle.std.proofs.lemmas.List.{length-map}
use Rattle.std.proofs.lemmas.List.Elements.{All-nil, All-cons}
use Rattle.std.proofs.lemmas.Option.{slice_get-map, slice_get-get_or}
use Rattle.aplc_lex.specs.Tokens.{refusal, AreTokens}
use Rattle.aplc_lex.specs.declared.token.Token.{Token}
use Rattle.aplc_lex.specs.declared.token.Refusal.{Refusal}
use Rattle.aplc_syntax.specs.declared.tree.Function.{Function}
use Rattle.aplc_syntax.specs.declared.tree.Program.{Program}
use Rattle.aplc_syntax.specs.declared.tree.Var.{Var}
use Rattle.aplc_syntax.specs.declared.layout.Row.{Row as HeldRow}
use Rattle.aplc_syntax.specs.declared.layout.Block.{Block as HeldBlock}
use Rattle.aplc_syntax.specs.declared.layout.Parts.{Parts}
use Rattle.aplc_syntax.specs.declared.header.Header.{Header as HeldHeader}
use Rattle.aplc_syntax.specs.declared.word.Word.{Word}
use Rattle.aplc_syntax.specs.Words.{names_in, words}
use Rattle.aplc_syntax.specs.Layout.{Row, Block, Header, lines, parts, parts_of, blocks, above, below, header_of, headers}
use Rattle.aplc_syntax.specs.Programs.{IsFunction, IsProgramOf}
use Rattle.aplc_syntax.specs.Refusals.{Stands, misheaded, misclosed, unclosed, in_statement, line_1000, function_1000, undeclared, second_origin, not_bare, BeginsAt, bad_declaration, high_count}
use Rattle.aplc_syntax.specs.Held.{row_of, block_of, Sorted, sorted, sorted_of}
use Rattle.aplc_lex.specs.Firsts.{earlier, IsFirstOf}
use Rattle.aplc_syntax.specs.Causes.{InSome, at_first, OfBlock, of_header, of_more, of_end, of_line, of_count, OfRows, OfBare, DeclareFrom}
use Rattle.aplc_syntax.specs.Noted.{headers_of, BlockStands, BlockIs, block_cause, function_cause, BlocksLaid}
use Rattle.aplc_lex.proofs.Order.{either_first, same_first, none_first, none_second}
use Rattle.aplc_syntax.proofs.Firsts.{best_of, some_mapped, mapped_some, zip_mapped, contains_some, some_contains}
use Rattle.aplc_syntax.proofs.Placed.{laid_bodies}
use Rattle.aplc_syntax.proofs.Saids.{begins, undeclared_in, pair_in, found_first, declare}

-- ---- A 1,000th function

-- the refusal of a 1,000th function of the text
abbrev pub count_at : Option Block → Option Refusal
count_at None = None
count_at (Some b) = Some (refusal high_count b.head.start)

count_held : (o : Option HeldBlock) → block_cause o ≡ count_at (option_map block_of o)
count_held None = refl
count_held (Some b) = refl

count_all : (bs : List HeldBlock) → function_cause bs ≡ count_at (slice_get (map block_of bs) 999)
count_all bs = count_held (slice_get bs 999) ∙ ap count_at (sym (slice_get-map block_of bs 999))

count_to : (text : List ℕ) (ts : List Token) (o : Option Block) (r : Refusal) → slice_get (blocks (parts_of text ts)) 999 ≡ o → count_at o ≡ Some r → Stands text ts r
count_to text ts None r e f = absurd (none r f)
  where
    none : (s : Refusal) → (let z : Option Refusal = None in z) ≡ Some s → ⊥
    none s g = cc
count_to text ts (Some b) r e f = subst (λ (x : Refusal). Stands text ts x) (some _ r f) (function_1000 e)
  where
    some : (x y : Refusal) → (let z : Option Refusal = Some x in z) ≡ Some y → x ≡ y
    some x y g = cc

-- ---- The families

abbrev pub ByFamily : List ℕ → List Token → Refusal → Type 0
ByFamily text ts r =
    (OfRows (names_in text ts) None (above (parts_of text ts)) r ⊎ InSome OfBare (below (parts_of text ts)) r)
    ⊎ (InSome (OfBlock (headers (parts_of text ts))) (blocks (parts_of text ts)) r ⊎ (count_at (slice_get (blocks (parts_of text ts)) 999) ≡ Some r))

block_to : (text : List ℕ) (ts : List Token) (b : Block) (r : Refusal) → Contains (blocks (parts_of text ts)) b → OfBlock (headers (parts_of text ts)) b r → Stands text ts r
block_to text ts b _ c (of_header e g) = misheaded c e g
block_to text ts b _ c (of_more e g) = misclosed c e g
block_to text ts b _ c (of_end e g) = unclosed c e g
block_to text ts b _ c (of_line e g) = in_statement c e g
block_to text ts b _ c (of_count e) = line_1000 c e

rows_to : (text : List ℕ) (ts : List Token) (r : Refusal) → OfRows (names_in text ts) None (above (parts_of text ts)) r → Stands text ts r
rows_to text ts r h = elim (found_first (names_in text ts) (above (parts_of text ts)) r h) as (λ z. Stands text ts r) [
  | inl a ↦ subst (λ (x : Refusal). Stands text ts x) (sym a.is) (undeclared a.inside a.none a.begins)
  | inr a ↦ subst (λ (x : Refusal). Stands text ts x) (sym (a.second).is) (second_origin a.before a.got (a.second).got a.says (a.second).says (a.second).begins)
]

bare_to : (text : List ℕ) (ts : List Token) (r : Refusal) → InSome OfBare (below (parts_of text ts)) r → Stands text ts r
bare_to text ts r h = let g = some_contains OfBare (below (parts_of text ts)) r h in let b = begins bad_declaration g.0 r g.2 in subst (λ (x : Refusal). Stands text ts x) (sym b.2) (not_bare g.1 b.1)

pub to_text : (text : List ℕ) (ts : List Token) (r : Refusal) → ByFamily text ts r → Stands text ts r
to_text text ts r h = elim h as (λ z. Stands text ts r) [
  | inl a ↦ elim a as (λ z. Stands text ts r) [ inl b ↦ rows_to text ts r b | inr b ↦ bare_to text ts r b ]
  | inr a ↦ elim a as (λ z. Stands text ts r) [
    | inl b ↦ (let g = some_contains (OfBlock (headers (parts_of text ts))) (blocks (parts_of text ts)) r b in block_to text ts g.0 r g.1 g.2)
    | inr b ↦ count_to text ts (slice_get (blocks (parts_of text ts)) 999) r refl b
  ]
]

in_block : (text : List ℕ) (ts : List Token) (b : Block) (r : Refusal) → Contains (blocks (parts_of text ts)) b → OfBlock (headers (parts_of text ts)) b r → ByFamily text ts r
in_block text ts b r c h = inr (inl (contains_some (OfBlock (headers (parts_of text ts))) (blocks (parts_of text ts)) b r c h))

bare_at : (p : ℕ) (x : Row) → BeginsAt x p → OfBare x (refusal bad_declaration p)
bare_at p x (y, ws, e, f) = ap (at_first bad_declaration) e ∙ ap (λ (q : ℕ). let z : Option Refusal = Some (refusal bad_declaration q) in z) (sym f)

pub from_text : (text : List ℕ) (ts : List Token) (r : Refusal) → Stands text ts r → ByFamily text ts r
from_text text ts _ (misheaded {b = b} c e g) = in_block text ts b _ c (of_header e g)
from_text text ts _ (misclosed {b = b} c e g) = in_block text ts b _ c (of_more e g)
from_text text ts _ (unclosed {b = b} c e g) = in_block text ts b _ c (of_end e g)
from_text text ts _ (in_statement {b = b} c e g) = in_block text ts b _ c (of_line e g)
from_text text ts _ (line_1000 {b = b} c e) = in_block text ts b _ c (of_count e)
from_text text ts _ (function_1000 e) = inr (inr (ap count_at e))
from_text text ts _ (undeclared {r = x} {p = p} c e g) = inl (inl (undeclared_in (names_in text ts) None (above (parts_of text ts)) x p c.0 c.1 c.2 e g))
from_text text ts _ (second_origin {i = i} {j = j} {q = q} {r = x} {p = p} l e f c d b) = inl (inl (pair_in (names_in text ts) None (above (parts_of text ts)) i j q x p l e f c d b))
from_text text ts _ (not_bare {r = x} {p = p} c g) = inl (inr (contains_some OfBare (below (parts_of text ts)) x _ c (bare_at p x g)))

-- ---- The first refusal

pub text_best : (text : List ℕ) (ts : List Token) (bs : List HeldBlock) (hs : List HeldHeader) (d e f : Option Refusal)
    → map block_of bs ≡ blocks (parts_of text ts) → headers_of hs ≡ filter_map header_of (map block_of bs)
    → IsFirstOf (OfRows (names_in text ts) None (above (parts_of text ts))) d → IsFirstOf (InSome OfBare (below (parts_of text ts))) e → IsFirstOf (InSome (BlockStands (headers_of hs)) bs) f
    → IsFirstOf (Stands text ts) (earlier (earlier d e) (earlier f (function_cause bs)))
text_best text ts bs hs d e f b h i j k =
    let known : headers_of hs ≡ headers (parts_of text ts) = h ∙ ap (filter_map header_of) b in
    let all : IsFirstOf (InSome (OfBlock (headers (parts_of text ts))) (blocks (parts_of text ts))) f =
    subst (λ (ks : List Block). IsFirstOf (InSome (OfBlock (headers (parts_of text ts))) ks) f) b
    (subst (λ (ks : List Header). IsFirstOf (InSome (OfBlock ks) (map block_of bs)) f) known
    (same_first (InSome (BlockStands (headers_of hs)) bs) (InSome (OfBlock (headers_of hs)) (map block_of bs)) f (some_mapped block_of (OfBlock (headers_of hs)) bs) (mapped_some block_of (OfBlock (headers_of hs)) bs) k)) in
    let count : IsFirstOf (λ r. count_at (slice_get (blocks (parts_of text ts)) 999) ≡ Some r) (function_cause bs) =
    subst (λ (o : Option Refusal). IsFirstOf (λ r. count_at (slice_get (blocks (parts_of text ts)) 999) ≡ Some r) o) (sym (count_all bs ∙ ap (λ (ks : List Block). count_at (slice_get ks 999)) b)) (best_of (count_at (slice_get (blocks (parts_of text ts)) 999))) in
    same_first (ByFamily text ts) (Stands text ts) _ (to_text text ts) (from_text text ts)
    (either_first (λ r. OfRows (names_in text ts) None (above (parts_of text ts)) r ⊎ InSome OfBare (below (parts_of text ts)) r)
    (λ r. InSome (OfBlock (headers (parts_of text ts))) (blocks (parts_of text ts)) r ⊎ (count_at (slice_get (blocks (parts_of text ts)) 999) ≡ Some r)) _ _
    (either_first (OfRows (names_in text ts) None (above (parts_of text ts))) (InSome OfBare (below (parts_of text ts))) d e i j)
    (either_first (InSome (OfBlock (headers (parts_of text ts))) (blocks (parts_of text ts))) (λ r. count_at (slice_get (blocks (parts_of text ts)) 999) ≡ Some r) f (function_cause bs) all count))

-- ---- The program

pub all_bare : (rs : List Row) → ((r : Refusal) → InSome OfBare rs r → ⊥) → All (λ (r : Row). r.words ≡ []) rs
all_bare [] h = All-nil (λ (r : Row). r.words ≡ [])
all_bare (x ∷ xs) h = All-cons (λ (r : Row). r.words ≡ []) x xs (bare x.words refl) (all_bare xs (λ r g. h r (inr g)))
  where
    bare : (ws : List Word) → x.words ≡ ws → x.words ≡ []
    bare [] e = e
    bare (y ∷ ws) e = absurd (h (refusal bad_declaration y.place) (inl (ap (at_first bad_declaration) e)))

few : (bs : List HeldBlock) → function_cause bs ≡ None → length bs ≤ 999
few bs e = pick (nat_lt 999 (length bs)) refl
  where
    none : (y : Refusal) → (let z : Option Refusal = Some y in z) ≡ None → ⊥
    none y f = cc

    over : (xs : List HeldBlock) → 999 < length xs → function_cause xs ≡ None → ⊥
    over [] l f = absurd (omega arith)
    over (x ∷ xs) l f = none _ (sym (ap block_cause (slice_get-get_or (x ∷ xs) 999 x l)) ∙ f)

    pick : (t : Bool) → nat_lt 999 (length bs) ≡ t → length bs ≤ 999
    pick true l = let g : 999 < length bs = grind (arith, nat_tests) in absurd (over bs g e)
    pick false l = grind (arith, nat_tests)

pub text_program : (text : List ℕ) (ts : List Token) (bs : List HeldBlock) (hs : List HeldHeader) (d e f : Option Refusal) (v : ℤ) (vars : List Var) (fs : List Function) (p : Program)
    → map block_of bs ≡ blocks (parts_of text ts) → headers_of hs ≡ filter_map header_of (map block_of bs)
    → IsFirstOf (InSome OfBare (below (parts_of text ts))) e
    → (d ≡ None → DeclareFrom (names_in text ts) None (above (parts_of text ts)) v vars)
    → (f ≡ None → AllZip (BlockIs text (headers_of hs)) bs fs)
    → earlier (earlier d e) (earlier f (function_cause bs)) ≡ None
    → p ≡ record { names = names_in text ts; origin = v; vars = vars; functions = fs } → IsProgramOf text ts p
text_program text ts bs hs d e f v vars fs p b h j s z n g =
    let known : headers_of hs ≡ headers (parts_of text ts) = h ∙ ap (filter_map header_of) b in
    let outside : earlier d e ≡ None = none_first (earlier d e) (earlier f (function_cause bs)) n in
    let inside : earlier f (function_cause bs) ≡ None = none_second (earlier d e) (earlier f (function_cause bs)) n in
    let none : IsFirstOf (InSome OfBare (below (parts_of text ts))) None = subst (λ (o : Option Refusal). IsFirstOf (InSome OfBare (below (parts_of text ts))) o) (none_second d e outside) j in
    subst (λ (q : Program). IsProgramOf text ts q) (sym g) (record {
      names = refl;
      declared = declare (names_in text ts) (above (parts_of text ts)) v vars (s (none_first d e outside));
      bare = all_bare (below (parts_of text ts)) none;
      few = (let l = few bs (none_second f (function_cause bs) inside) in omega (arith, length-map bs block_of, ap (λ (ks : List Block). length ks) b));
      functions = subst (λ (ks : List Block). AllZip (IsFunction text (headers (parts_of text ts))) ks fs) b
          (subst (λ (ks : List Header). AllZip (IsFunction text ks) (map block_of bs) fs) known (zip_mapped block_of (IsFunction text (headers_of hs)) bs fs (z (none_first f (function_cause bs) inside))));
    })

-- ---- By what the calls answered

program_same : {ns ms : List (List ℕ)} {v u : ℤ} {xs ys : List Var} {fs gs : List Function} → ns ≡ ms → v ≡ u → xs ≡ ys → fs ≡ gs → (let p : Program = record { names = ns; origin = v; vars = xs; functions = fs } in p) ≡ record { names = ms; origin = u; vars = ys; functions = gs }
program_same e f g h = cc

pub cut_up : (text : List ℕ) (ts : List Token) (ws ds : List Word) (p : Parts) → ds ≡ ws → ws ≡ words text ts → sorted_of p ≡ sorted (parts (lines ds) None) → sorted_of p ≡ sorted (parts_of text ts)
cut_up text ts ws ds p d w s = s ∙ ap (λ (us : List Word). sorted (parts (lines us) None)) (d ∙ w)

abbrev blocks_are : (text : List ℕ) (ts : List Token) (p : Parts) → sorted_of p ≡ sorted (parts_of text ts) → map block_of p.blocks.items ≡ blocks (parts_of text ts)
blocks_are text ts p s = ap (λ (z : Sorted). z.blocks) s

pub laid_held : (text : List ℕ) (ts : List Token) (p : Parts) (bs : List HeldBlock) → AreTokens text ts → sorted_of p ≡ sorted (parts_of text ts) → bs ≡ p.blocks.items → BlocksLaid text (map block_of bs)
laid_held text ts p bs a s b = subst (λ (ks : List Block). BlocksLaid text ks) (sym (ap (map block_of) b ∙ blocks_are text ts p s)) (laid_bodies text ts a)

above_rows : (text : List ℕ) (ts : List Token) (p : Parts) (names : List (List ℕ)) (rows : List HeldRow) (P : List (List ℕ) → List Row → Type 0) → sorted_of p ≡ sorted (parts_of text ts) → names ≡ names_in text ts → rows ≡ p.above.items → P names (map row_of rows) → P (names_in text ts) (above (parts_of text ts))
above_rows text ts p names rows P s n r h = subst (λ (ns : List (List ℕ)). P ns (above (parts_of text ts))) n (subst (λ (rs : List Row). P names rs) (ap (map row_of) r ∙ ap (λ (z : Sorted). z.above) s) h)

below_rows : (text : List ℕ) (ts : List Token) (p : Parts) (rows : List HeldRow) (P : List Row → Type 0) → sorted_of p ≡ sorted (parts_of text ts) → rows ≡ p.below.items → P (map row_of rows) → P (below (parts_of text ts))
below_rows text ts p rows P s r h = subst P (ap (map row_of) r ∙ ap (λ (z : Sorted). z.below) s) h

pub whole_best : (text : List ℕ) (ts : List Token) (p : Parts) (names : List (List ℕ)) (b2 b4 b6 : List HeldBlock) (r3 r5 : List HeldRow) (hs : List HeldHeader) (d e f k o i t : Option Refusal)
    → sorted_of p ≡ sorted (parts_of text ts) → names ≡ names_in text ts
    → b2 ≡ p.blocks.items → headers_of hs ≡ filter_map header_of (map block_of b2)
    → r3 ≡ p.above.items → IsFirstOf (OfRows names None (map row_of r3)) d
    → r5 ≡ p.below.items → IsFirstOf (InSome OfBare (map row_of r5)) e
    → b4 ≡ p.blocks.items → IsFirstOf (InSome (BlockStands (headers_of hs)) b4) f
    → b6 ≡ p.blocks.items → k ≡ function_cause b6 → o ≡ earlier d e → i ≡ earlier f k → t ≡ earlier o i → IsFirstOf (Stands text ts) t
whole_best text ts p names b2 b4 b6 r3 r5 hs d e f k o i t s n q2 h q3 hd q5 he q4 hf q6 hk ho hi ht =
    subst (λ (z : Option Refusal). IsFirstOf (Stands text ts) z) (sym (ht ∙ ap (λ (z : Option Refusal). earlier z i) ho ∙ ap (earlier (earlier d e)) (hi ∙ ap (earlier f) (hk ∙ ap function_cause q6))))
    (text_best text ts p.blocks.items hs d e f (blocks_are text ts p s) (h ∙ ap (λ (bs : List HeldBlock). filter_map header_of (map block_of bs)) q2)
    (above_rows text ts p names r3 (λ (ns : List (List ℕ)) (rs : List Row). IsFirstOf (OfRows ns None rs) d) s n q3 hd)
    (below_rows text ts p r5 (λ (rs : List Row). IsFirstOf (InSome OfBare rs) e) s q5 he)
    (subst (λ (bs : List HeldBlock). IsFirstOf (InSome (BlockStands (headers_of hs)) bs) f) q4 hf))

pub whole_program : (text : List ℕ) (ts : List Token) (p : Parts) (names all : List (List ℕ)) (b2 b4 b6 : List HeldBlock) (r3 r5 : List HeldRow) (hs : List HeldHeader) (d e f k o i t : Option Refusal) (v u : ℤ) (vars xs : List Var) (fs gs : List Function)
    → sorted_of p ≡ sorted (parts_of text ts) → names ≡ names_in text ts → all ≡ names_in text ts
    → b2 ≡ p.blocks.items → headers_of hs ≡ filter_map header_of (map block_of b2)
    → r3 ≡ p.above.items → (d ≡ None → DeclareFrom names None (map row_of r3) v vars)
    → r5 ≡ p.below.items → IsFirstOf (InSome OfBare (map row_of r5)) e
    → b4 ≡ p.blocks.items → (f ≡ None → AllZip (BlockIs text (headers_of hs)) b4 fs)
    → b6 ≡ p.blocks.items → k ≡ function_cause b6 → o ≡ earlier d e → i ≡ earlier f k → t ≡ earlier o i → t ≡ None
    → u ≡ v → xs ≡ vars → gs ≡ fs → IsProgramOf text ts (record { names = all; origin = u; vars = xs; functions = gs })
whole_program text ts p names all b2 b4 b6 r3 r5 hs d e f k o i t v u vars xs fs gs s n m q2 h q3 hd q5 he q4 hf q6 hk ho hi ht z w x y =
    text_program text ts p.blocks.items hs d e f v vars fs (record { names = all; origin = u; vars = xs; functions = gs }) (blocks_are text ts p s) (h ∙ ap (λ (bs : List HeldBlock). filter_map header_of (map block_of bs)) q2)
    (below_rows text ts p r5 (λ (rs : List Row). IsFirstOf (InSome OfBare rs) e) s q5 he)
    (λ c. above_rows text ts p names r3 (λ (ns : List (List ℕ)) (rs : List Row). DeclareFrom ns None rs v vars) s n q3 (hd c))
    (λ c. subst (λ (bs : List HeldBlock). AllZip (BlockIs text (headers_of hs)) bs fs) q4 (hf c))
    (sym (ht ∙ ap (λ (g : Option Refusal). earlier g i) ho ∙ ap (earlier (earlier d e)) (hi ∙ ap (earlier f) (hk ∙ ap function_cause q6))) ∙ z)
    (program_same m w x y)
