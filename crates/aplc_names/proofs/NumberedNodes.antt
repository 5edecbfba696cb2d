-- The number of each node of a program is below the most bytes that its text may have.
use Rattle.std.proofs.Common.{◌≡◌, ap, refl, ℕ, ◌+◌, ◌<◌, ◌≤◌, List, [], ◌∷◌, All, Bool, true, false, nat_eq, nat_le, if◌then◌else◌, length, arith, inl, inr, ◌⊎◌}
use Rattle.std.specs.List.{AllZip}
use Rattle.std.proofs.lemmas.Bool.Decides.{nat_tests}
use Rattle.std.proofs.lemmas.List.Elements.{All-cons, All-nil, All-head, All-tail}
use Rattle.aplc_lex.specs.declared.token.Token.{Token}
use Rattle.aplc_lex.specs.Tokens.{AreTokens}
use Rattle.aplc_syntax.specs.declared.tree.Line.{Line}
use Rattle.aplc_syntax.specs.declared.tree.Function.{Function}
use Rattle.aplc_syntax.specs.declared.tree.Program.{Program}
use Rattle.aplc_syntax.specs.declared.tree.Statement.{Statement}
use Rattle.aplc_syntax.specs.declared.word.Word.{Word}
use Rattle.aplc_syntax.specs.Words.{Laid}
use Rattle.aplc_syntax.specs.Layout.{Row, Block, Header, blocks, headers, parts_of, sentence}
use Rattle.aplc_syntax.specs.Programs.{IsStatement, IsLine, IsFunction, IsProgramOf, statement_ids}
use Rattle.aplc_syntax.proofs.Own.{one_at, cnt, at, own_statement}
use Rattle.aplc_syntax.proofs.Placed.{RowLaid, laid_bodies, laid_sentence}
use Rattle.aplc_names.specs.Fits.{HasNumberedNodes}

-- ---- Numbers of nodes

same_one : (q : ℕ) → one_at q q ≡ 1
unfolding one_at
same_one q = let e : nat_eq q q ≡ true = grind (arith, nat_tests) in ap (λ b. if b then 1 else 0) e

other_one : (q p : ℕ) → p < q → one_at q p ≡ 0
unfolding one_at
other_one q p l = let e : nat_eq q p ≡ false = grind (arith, nat_tests) in ap (λ b. if b then 1 else 0) e

none_at : (text : List ℕ) (p q : ℕ) (ws : List Word) → length text ≤ q → Laid text p ws → at q ws ≡ 0
none_at text p q [] l h = refl
none_at text p q (x ∷ xs) l h =
    let e = other_one q x.place (omega arith) in let i = none_at text (x.place + 1) q xs l h.3 in omega arith

abbrev Below : ℕ → ℕ → Type 0
Below n i = i < n

decide : (n i : ℕ) → (i < n) ⊎ (n ≤ i)
decide n i = pick (nat_le n i) refl
  where
    pick : (b : Bool) → nat_le n i ≡ b → (i < n) ⊎ (n ≤ i)
    pick true e = inr (grind (arith, nat_tests))
    pick false e = inl (grind (arith, nat_tests))

below_ids : (n : ℕ) (is : List ℕ) → ((q : ℕ) → n ≤ q → cnt q is ≡ 0) → All (Below n) is
below_ids n [] f = All-nil (Below n)
below_ids n (i ∷ is) f = All-cons (Below n) i is (first (decide n i)) (below_ids n is (λ q l. let e = f q l in omega arith))
  where
    first : (i < n) ⊎ (n ≤ i) → i < n
    first (inl l) = l
    first (inr l) = let e : one_at i i + cnt i is ≡ 0 = f i l in let o = same_one i in absurd (omega arith)

ids_below : (text : List ℕ) (ws : List Word) (s : Statement) → length text ≤ 262144 → Laid text 0 ws → IsStatement text ws s → All (Below 262144) (statement_ids s)
ids_below text ws s short h i =
    below_ids 262144 (statement_ids s) (λ q l. let o = own_statement text q ws s i in let z = none_at text 0 q ws (omega arith) h in omega arith)

abbrev LineNumbered : Line → Type 0
LineNumbered l = All (Below 262144) (statement_ids l.statement)

abbrev FunctionNumbered : Function → Type 0
FunctionNumbered g = All LineNumbered g.lines

lines_numbered : (text : List ℕ) (hs : List Header) (rs : List Row) (ls : List Line) → length text ≤ 262144 → All (RowLaid text) rs → AllZip (IsLine text hs) rs ls → All LineNumbered ls
lines_numbered text hs [] [] short h z = All-nil LineNumbered
lines_numbered text hs [] (l ∷ ls) short h z = absurd z
lines_numbered text hs (r ∷ rs) [] short h z = absurd z
lines_numbered text hs (r ∷ rs) (l ∷ ls) short h z =
    All-cons LineNumbered l ls (ids_below text (sentence hs r) l.statement short (laid_sentence text hs r (All-head (RowLaid text) r rs h)) z.0.statement)
    (lines_numbered text hs rs ls short (All-tail (RowLaid text) r rs h) z.1)

abbrev BodyLaid : List ℕ → Block → Type 0
BodyLaid text b = All (RowLaid text) b.body

functions_numbered : (text : List ℕ) (hs : List Header) (bs : List Block) (gs : List Function) → length text ≤ 262144 → All (BodyLaid text) bs → AllZip (IsFunction text hs) bs gs → All FunctionNumbered gs
functions_numbered text hs [] [] short h z = All-nil FunctionNumbered
functions_numbered text hs [] (g ∷ gs) short h z = absurd z
functions_numbered text hs (b ∷ bs) [] short h z = absurd z
functions_numbered text hs (b ∷ bs) (g ∷ gs) short h z =
    All-cons FunctionNumbered g gs (lines_numbered text hs b.body g.lines short (All-head (BodyLaid text) b bs h) z.0.lines)
    (functions_numbered text hs bs gs short (All-tail (BodyLaid text) b bs h) z.1)

pub nodes_numbered : (text : List ℕ) (ts : List Token) (p : Program) → length text ≤ 262144 → AreTokens text ts → IsProgramOf text ts p → HasNumberedNodes p
nodes_numbered text ts p short a i = functions_numbered text (headers (parts_of text ts)) (blocks (parts_of text ts)) p.functions short (laid_bodies text ts a) i.functions
