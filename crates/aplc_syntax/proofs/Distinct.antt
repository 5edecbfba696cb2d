-- The nodes of a program have numbers of their own.
use Rattle.std.proofs.Common.{◌≡◌, ℕ, ◌+◌, ◌≤◌, ◌<◌, List, [], ◌∷◌, ◌++◌, Option, Some, None, map, drop, flat_map, refl, ap, arith, nat_eq, length, cond, Bool, true, false, is_some, if◌then◌else◌}
use Rattle.std.specs.List.{AllZip, IsDistinct, AllByRecursion}
use Rattle.std.proofs.lemmas.Bool.Decides.{nat_tests}
use Rattle.aplc_lex.specs.Tokens.{AreTokens, Rise}
use Rattle.aplc_lex.specs.declared.token.Token.{Token}
use Rattle.aplc_syntax.specs.declared.tree.Line.{Line}
use Rattle.aplc_syntax.specs.declared.tree.Function.{Function}
use Rattle.aplc_syntax.specs.declared.tree.Program.{Program}
use Rattle.aplc_syntax.specs.declared.word.Word.{Word}
use Rattle.aplc_syntax.specs.declared.word.WordKind.{WordKind}
use Rattle.aplc_syntax.specs.declared.word.WordKind.TheVariants as w
use Rattle.aplc_syntax.specs.Words.{word_of, words, names_in}
use Rattle.aplc_syntax.specs.Layout.{Row, Rows, before_rows, cut, lines, begins_with_del, Block, part, parts, blocks, parts_of, Header, headers, word_in, label_of, sentence}
use Rattle.aplc_syntax.specs.Programs.{IsLine, IsFunction, IsProgramOf, statement_ids, program_ids}
use Rattle.aplc_syntax.proofs.Own.{one_at, cnt, cnt_append, at, own_statement}
use Rattle.aplc_syntax.proofs.Spans.{tokens_rise}

-- ---- Words of lines and of functions

-- how many words of these lines have place q
abbrev rows_at : ℕ → List Row → ℕ
rows_at q [] = 0
rows_at q (r ∷ rs) = at q r.words + rows_at q rs

abbrev opened_at : ℕ → Option (Row × List Row) → ℕ
opened_at q None = 0
opened_at q (Some (h, body)) = at q h.words + rows_at q body

-- how many words inside these functions
abbrev bodies_at : ℕ → List Block → ℕ
bodies_at q [] = 0
bodies_at q (b ∷ bs) = rows_at q b.body + bodies_at q bs

rows_more : (q : ℕ) (rs : List Row) (r : Row) → rows_at q (rs ++ r ∷ []) ≡ rows_at q rs + at q r.words
rows_more q [] r = omega arith
rows_more q (s ∷ rs) r = let h = rows_more q rs r in omega arith

part_at : (q : ℕ) (b : Bool) (r : Row) (opened : Option (Row × List Row)) (rs : List Row)
    → ((o : Option (Row × List Row)) → bodies_at q (blocks (parts rs o)) ≤ rows_at q rs + opened_at q o)
    → bodies_at q (blocks (part b r opened (parts rs))) ≤ at q r.words + rows_at q rs + opened_at q opened
part_at q true r None rs f = let h = f (Some (r, [])) in omega arith
part_at q false r None rs f = let h = f None in omega arith
part_at q true r (Some (h, body)) rs f = let i = f None in omega arith
part_at q false r (Some (h, body)) rs f = let i = f (Some (h, body ++ r ∷ [])) in let j = rows_more q body r in omega arith

parts_at : (q : ℕ) (rs : List Row) (opened : Option (Row × List Row)) → bodies_at q (blocks (parts rs opened)) ≤ rows_at q rs + opened_at q opened
parts_at q [] None = omega arith
parts_at q [] (Some (h, body)) = omega arith
parts_at q (r ∷ rs) opened = part_at q (begins_with_del r.words) r opened rs (λ o. parts_at q rs o)

before_at : (q : ℕ) (k : WordKind) (x : Word) (rows : Rows) → at q (before_rows k x rows).first + rows_at q (before_rows k x rows).rest ≤ one_at q x.place + (at q rows.first + rows_at q rows.rest)
before_at q (w.LineEnd to) x rows = omega arith
before_at q _ x rows = omega arith

cut_at : (q : ℕ) (ws : List Word) → at q (cut ws).first + rows_at q (cut ws).rest ≤ at q ws
cut_at q [] = omega arith
cut_at q (x ∷ xs) = let h = cut_at q xs in let i = before_at q x.kind x (cut xs) in omega arith

-- no more words inside functions than words
inside : (q : ℕ) (ws : List Word) → bodies_at q (blocks (parts (lines ws) None)) ≤ at q ws
inside q ws = let h = parts_at q (lines ws) None in let i = cut_at q ws in omega arith

-- ---- A line's statement

map_at : (q : ℕ) (hs : List Header) (ws : List Word) → at q (map (word_in hs) ws) ≡ at q ws
map_at q hs [] = refl
map_at q hs (x ∷ xs) = ap (λ (n : ℕ). one_at q x.place + n) (map_at q hs xs)

drop_at : (q : ℕ) (ws : List Word) → at q (drop 2 ws) ≤ at q ws
drop_at q [] = omega arith
drop_at q (x ∷ []) = omega arith
drop_at q (x ∷ y ∷ ws) = omega arith

labelled_at : (q : ℕ) (b : Bool) (ws : List Word) → at q (if b then drop 2 ws else ws) ≤ at q ws
labelled_at q true ws = drop_at q ws
labelled_at q false ws = omega arith

sentence_at : (q : ℕ) (hs : List Header) (r : Row) → at q (sentence hs r) ≤ at q r.words
sentence_at q hs r = let h = map_at q hs (if is_some (label_of r) then drop 2 r.words else r.words) in let i = labelled_at q (is_some (label_of r)) r.words in omega arith

line_at : (text : List ℕ) (q : ℕ) (hs : List Header) (r : Row) (l : Line) → IsLine text hs r l → cnt q (statement_ids l.statement) ≤ at q r.words
line_at text q hs r l h = let i = own_statement text q (sentence hs r) l.statement h.statement in let j = sentence_at q hs r in omega arith

-- ---- The numbers of a program

abbrev lines_ids : List Line → List ℕ
lines_ids ls = flat_map (λ (l : Line). statement_ids l.statement) ls

lines_at : (text : List ℕ) (q : ℕ) (hs : List Header) (rs : List Row) (ls : List Line) → AllZip (IsLine text hs) rs ls → cnt q (lines_ids ls) ≤ rows_at q rs
lines_at text q hs [] [] h = omega arith
lines_at text q hs [] (l ∷ ls) h = absurd h
lines_at text q hs (r ∷ rs) [] h = absurd h
lines_at text q hs (r ∷ rs) (l ∷ ls) h =
    let i = line_at text q hs r l h.0 in let j = lines_at text q hs rs ls h.1 in let k = cnt_append q (statement_ids l.statement) (lines_ids ls) in omega arith

abbrev functions_ids : List Function → List ℕ
functions_ids fs = flat_map (λ (f : Function). lines_ids f.lines) fs

functions_at : (text : List ℕ) (q : ℕ) (hs : List Header) (bs : List Block) (fs : List Function) → AllZip (IsFunction text hs) bs fs → cnt q (functions_ids fs) ≤ bodies_at q bs
functions_at text q hs [] [] h = omega arith
functions_at text q hs [] (f ∷ fs) h = absurd h
functions_at text q hs (b ∷ bs) [] h = absurd h
functions_at text q hs (b ∷ bs) (f ∷ fs) h =
    let i = lines_at text q hs b.body f.lines h.0.lines in let j = functions_at text q hs bs fs h.1 in let k = cnt_append q (lines_ids f.lines) (functions_ids fs) in omega arith

-- ---- Words of their own places

by_test : (b : Bool) → ℕ
by_test b = cond b 1 0

differ : (q p : ℕ) → nat_eq q p ≡ false → one_at q p ≡ 0
unfolding one_at by_test
differ q p e = ap by_test e

meet : (q p : ℕ) → nat_eq q p ≡ true → one_at q p ≡ 1
unfolding one_at by_test
meet q p e = ap by_test e

at_most_one : (q p : ℕ) → one_at q p ≤ 1
at_most_one q p = pick (nat_eq q p) refl
  where
    pick : (b : Bool) → nat_eq q p ≡ b → one_at q p ≤ 1
    pick true e = let h = meet q p e in omega arith
    pick false e = let h = differ q p e in omega arith

none_before : (text : List ℕ) (ns : List (List ℕ)) (q p n : ℕ) (ts : List Token) → Rise p ts n → q < p → at q (map (word_of text ns) ts) ≡ 0
none_before text ns q p n [] h l = refl
none_before text ns q p n (t ∷ ts) h l =
    let le : p ≤ t.span.from = h.0 in let lt : t.span.from < t.span.to = h.1 in
    let e : nat_eq q t.span.from ≡ false = grind (arith, nat_tests) in
    let i = differ q t.span.from e in let j = none_before text ns q t.span.to n ts h.2 (omega arith) in omega arith

one_each : (text : List ℕ) (ns : List (List ℕ)) (q p n : ℕ) (ts : List Token) → Rise p ts n → at q (map (word_of text ns) ts) ≤ 1
one_each text ns q p n [] h = omega arith
one_each text ns q p n (t ∷ ts) h = pick (nat_eq q t.span.from) refl (one_each text ns q t.span.to n ts h.2)
  where
    pick : (b : Bool) → nat_eq q t.span.from ≡ b → at q (map (word_of text ns) ts) ≤ 1 → one_at q t.span.from + at q (map (word_of text ns) ts) ≤ 1
    pick true e j = let lt : t.span.from < t.span.to = h.1 in let l : q < t.span.to = grind (arith, nat_tests) in
        let i = at_most_one q t.span.from in let k = none_before text ns q t.span.to n ts h.2 l in omega arith
    pick false e j = let i = differ q t.span.from e in omega arith

-- ---- From counts to distinct numbers

others : (x : ℕ) (ys : List ℕ) → cnt x ys ≡ 0 → AllByRecursion (λ y. nat_eq x y ≡ false) ys
others x [] h = tt
others x (y ∷ ys) h = (pick (nat_eq x y) refl, others x ys (omega arith))
  where
    pick : (b : Bool) → nat_eq x y ≡ b → nat_eq x y ≡ false
    pick true e = let i = meet x y e in absurd (omega arith)
    pick false e = e

distinct : (xs : List ℕ) → ((q : ℕ) → cnt q xs ≤ 1) → IsDistinct nat_eq xs
unfolding IsDistinct
distinct [] h = tt
distinct (x ∷ xs) h =
    let e : nat_eq x x ≡ true = grind (arith, nat_tests) in let i = meet x x e in let j = h x in
    (others x xs (omega arith), distinct xs (λ q. (let k = h q in omega arith)))

-- where tokens stand one behind the other, the numbers of the nodes of a program are all different
pub distinct_ids : (text : List ℕ) (ts : List Token) (n : ℕ) (p : Program) → Rise 0 ts n → IsProgramOf text ts p → IsDistinct nat_eq (program_ids p)
distinct_ids text ts n p h i = distinct (program_ids p) (λ q. (
    let a = functions_at text q (headers (parts_of text ts)) (blocks (parts_of text ts)) p.functions i.functions in
    let b = inside q (words text ts) in
    let c = one_each text (names_in text ts) q 0 n ts h in omega arith))

-- and so they are in a program of the tokens of a text
pub distinct_program : (text : List ℕ) (ts : List Token) (p : Program) → AreTokens text ts → IsProgramOf text ts p → IsDistinct nat_eq (program_ids p)
distinct_program text ts p a i = distinct_ids text ts (length text) p (tokens_rise text ts a) i
