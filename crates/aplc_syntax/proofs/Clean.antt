-- No refusal stands in a text that has a program.
use Rattle.std.proofs.Common.{◌≡◌, ℕ, zero, suc, ◌+◌, ◌≤◌, ◌<◌, List, [], ◌∷◌, ℤ, length, get_or, Option, Some, None, refl, sym, ap, ◌∙◌, subst, inl, inr, arith, filter_map}
use Rattle.std.specs.Prelude.{Contains}
use Rattle.std.specs.List.{AllZip, slice_get, cons_option}
use Rattle.std.proofs.lemmas.List.Elements.{All-contains}
use Rattle.aplc_lex.specs.declared.token.Token.{Token}
use Rattle.aplc_lex.specs.declared.token.Refusal.{Refusal}
use Rattle.aplc_syntax.specs.declared.tree.Program.{Program}
use Rattle.aplc_syntax.specs.declared.tree.Statement.{Statement}
use Rattle.aplc_syntax.specs.declared.word.Word.{Word}
use Rattle.aplc_syntax.specs.Words.{names_in}
use Rattle.aplc_syntax.specs.Trees.{nodes_of}
use Rattle.aplc_syntax.specs.Layout.{Row, Declaration, origin, parts_of, blocks, above, below, header_of, headers, sentence, declaration, origin_of}
use Rattle.aplc_syntax.specs.Programs.{too_deep, IsStatement, IsLine, IsFunction, IsClosing, IsOrigin, IsProgramOf}
use Rattle.aplc_syntax.specs.Refusals.{stray, StandsIn, deep, strayed, formless, too_many, DeclaresOrigin, Stands, misheaded, misclosed, unclosed, in_statement, line_1000, function_1000, undeclared, second_origin, not_bare}
use Rattle.aplc_syntax.proofs.Unique.{same_nodes}
use Rattle.aplc_syntax.proofs.Calm.{no_stray}

none_some : {A : Type 0} (x : Option A) (y : A) → x ≡ None → x ≡ Some y → ⊥
none_some x y e f = cc

same : {A : Type 0} (x : Option A) (y z : A) → x ≡ Some y → x ≡ Some z → y ≡ z
same x y z e f = cc

clash : (m n : ℕ) → n < m → m ≤ n → ⊥
clash m n l h = absurd (omega arith)

clash_along : (m n k : ℕ) → k < m → m ≡ n → n ≤ k → ⊥
clash_along m n k l e h = absurd (omega arith)

no_words : (x : Word) (ws : List Word) → x ∷ ws ≡ [] → ⊥
no_words x ws e = cc

-- ---- Statements

none_empty : (ws : List Word) (r : Refusal) → ws ≡ [] → StandsIn ws r → ⊥
none_empty ws _ e (deep {p = p} d) = none_some (too_deep ws 0) p (ap (λ (us : List Word). too_deep us 0) e) d
none_empty ws _ e (strayed {p = p} s) = none_some (stray ws) p (ap stray e) s
none_empty _ _ e (formless {x = x} {ws = us} a b f) = no_words x us e
none_empty _ _ e (too_many {x = x} {ws = us} a y i m) = no_words x us e

-- words that are a statement have no refusal
pub clean_statement : (text : List ℕ) (ws : List Word) (s : Statement) (r : Refusal) → IsStatement text ws s → StandsIn ws r → ⊥
clean_statement text ws s r (inl h) i = none_empty ws r h.0 i
clean_statement text ws s _ (inr h) (deep {p = p} d) = none_some (too_deep ws 0) p h.shallow d
clean_statement text ws s _ (inr h) (strayed {p = p} d) = none_some (stray ws) p (ap stray h.spelled ∙ no_stray h.form) d
clean_statement text _ s _ (inr h) (formless a b f) = f h.form h.spelled
clean_statement text _ s _ (inr h) (too_many a y i m) = clash_along (nodes_of y) (nodes_of h.form) 256 m (same_nodes y h.form (sym i ∙ h.spelled)) h.small

-- ---- Lists

-- what belongs to an element
paired : {A B : Type 0} (R : A → B → Type 0) (xs : List A) (ys : List B) (x : A) (k : ℕ) → AllZip R xs ys → k < length xs → get_or xs k x ≡ x → (y : B) × R x y
paired R [] ys x k h l e = absurd (omega arith)
paired R (a ∷ xs) [] x k h l e = absurd h
paired {A} {B} R (a ∷ xs) (b ∷ ys) x zero h l e = (b, subst (λ (u : A). R u b) e h.0)
paired R (a ∷ xs) (b ∷ ys) x (suc k) h l e = paired R xs ys x k h.1 (omega arith) e

found : {A B : Type 0} (R : A → B → Type 0) (xs : List A) (ys : List B) (x : A) → AllZip R xs ys → Contains xs x → (y : B) × R x y
found R xs ys x h c = paired R xs ys x c.0 h c.1 c.2

got_within : {A : Type 0} (xs : List A) (x : A) (i : ℕ) → slice_get xs i ≡ Some x → i < length xs
got_within [] x i e = cc
got_within (a ∷ xs) x zero e = omega arith
got_within (a ∷ xs) x (suc i) e = let h = got_within xs x i e in omega arith

-- ---- Index origins

abbrev Said : List (List ℕ) → Row → Declaration → Type 0
Said ns r d = declaration ns r ≡ Some d

kept : (x : Option ℤ) (xs : List ℤ) → length xs ≤ length (cons_option x xs)
kept None xs = omega arith
kept (Some v) xs = omega arith

-- an index origin is counted
counted : (ns : List (List ℕ)) (r : Row) (d : Declaration) (xs : List ℤ) → Said ns r d → DeclaresOrigin ns r → length (cons_option (origin_of d) xs) ≡ length xs + 1
counted ns r d xs e o = let g : d ≡ origin o.0 = same (declaration ns r) d (origin o.0) e o.1 in
    ap (λ (c : Declaration). length (cons_option (origin_of c) xs)) g ∙ omega arith

one_origin : (ns : List (List ℕ)) (rs : List Row) (ds : List Declaration) (i : ℕ) (q : Row) → AllZip (Said ns) rs ds → slice_get rs i ≡ Some q → DeclaresOrigin ns q → 1 ≤ length (filter_map origin_of ds)
one_origin ns [] ds i q h e o = cc
one_origin ns (r ∷ rs) [] i q h e o = absurd h
one_origin ns (r ∷ rs) (d ∷ ds) zero q h e o = let s : r ≡ q = same (Some r) r q refl e in
    let c = counted ns r d (filter_map origin_of ds) h.0 (subst (DeclaresOrigin ns) (sym s) o) in omega arith
one_origin ns (r ∷ rs) (d ∷ ds) (suc i) q h e o = let m = one_origin ns rs ds i q h.1 e o in let l = kept (origin_of d) (filter_map origin_of ds) in omega arith

two_origins : (ns : List (List ℕ)) (rs : List Row) (ds : List Declaration) (i j : ℕ) (q r : Row) → i < j → AllZip (Said ns) rs ds → slice_get rs i ≡ Some q → slice_get rs j ≡ Some r → DeclaresOrigin ns q → DeclaresOrigin ns r → 2 ≤ length (filter_map origin_of ds)
two_origins ns [] ds i j q r l h e f o p = cc
two_origins ns (a ∷ rs) [] i j q r l h e f o p = absurd h
two_origins ns (a ∷ rs) (d ∷ ds) i zero q r l h e f o p = absurd (omega arith)
two_origins ns (a ∷ rs) (d ∷ ds) zero (suc j) q r l h e f o p = let s : a ≡ q = same (Some a) a q refl e in
    let c = counted ns a d (filter_map origin_of ds) h.0 (subst (DeclaresOrigin ns) (sym s) o) in let m = one_origin ns rs ds j r h.1 f p in omega arith
two_origins ns (a ∷ rs) (d ∷ ds) (suc i) (suc j) q r l h e f o p =
    let m = two_origins ns rs ds i j q r (omega arith) h.1 e f o p in let k = kept (origin_of d) (filter_map origin_of ds) in omega arith

origin_few : (xs : List ℤ) (v : ℤ) → IsOrigin xs v → length xs ≤ 1
origin_few [] v h = omega arith
origin_few (x ∷ []) v h = omega arith
origin_few (x ∷ y ∷ xs) v h = absurd h

-- ---- Texts

shut : (x : Option Row) (r : Row) → IsClosing x → x ≡ Some r → length r.words ≡ 1
shut x r h e = subst IsClosing e h

open_end : (x : Option Row) → IsClosing x → x ≡ None → ⊥
open_end x h e = subst IsClosing e h

one_word : (r : Row) (x y : Word) (ws : List Word) → length r.words ≡ 1 → r.words ≡ x ∷ y ∷ ws → ⊥
one_word r x y ws e g = let two : length r.words ≡ length (x ∷ y ∷ ws) = ap length g in absurd (omega arith)

-- a text that has a program has no refusal
pub clean : (text : List ℕ) (ts : List Token) (p : Program) → IsProgramOf text ts p → (r : Refusal) → Stands text ts r → ⊥
clean text ts p h _ (misheaded {b = b} i e g) =
    let f = found (IsFunction text (headers (parts_of text ts))) (blocks (parts_of text ts)) p.functions b h.functions i in none_some (header_of b) f.1.head e f.1.headed
clean text ts p h _ (misclosed {b = b} {r = r} {x = x} {y = y} {ws = ws} i e g) =
    let f = found (IsFunction text (headers (parts_of text ts))) (blocks (parts_of text ts)) p.functions b h.functions i in one_word r x y ws (shut b.closing r f.1.closed e) g
clean text ts p h _ (unclosed {b = b} i e g) =
    let f = found (IsFunction text (headers (parts_of text ts))) (blocks (parts_of text ts)) p.functions b h.functions i in open_end b.closing f.1.closed e
clean text ts p h _ (in_statement {b = b} {r = r} {s = s} i j d) =
    let f = found (IsFunction text (headers (parts_of text ts))) (blocks (parts_of text ts)) p.functions b h.functions i in
    let l = found (IsLine text (headers (parts_of text ts))) b.body f.0.lines r f.1.lines j in
    clean_statement text (sentence (headers (parts_of text ts)) r) l.0.statement s l.1.statement d
clean text ts p h _ (line_1000 {b = b} {r = r} i e) =
    let f = found (IsFunction text (headers (parts_of text ts))) (blocks (parts_of text ts)) p.functions b h.functions i in clash (length b.body) 999 (got_within b.body r 999 e) f.1.few
clean text ts p h _ (function_1000 {b = b} e) = clash (length (blocks (parts_of text ts))) 999 (got_within (blocks (parts_of text ts)) b 999 e) h.few
clean text ts p h _ (undeclared {r = r} i e g) =
    let d = found (Said (names_in text ts)) (above (parts_of text ts)) h.declared.said r h.declared.declared i in none_some (declaration (names_in text ts) r) d.0 e d.1
clean text ts p h _ (second_origin {i = i} {j = j} {q = q} {r = r} l e f o d g) =
    clash (length (filter_map origin_of h.declared.said)) 1 (two_origins (names_in text ts) (above (parts_of text ts)) h.declared.said i j q r l h.declared.declared e f o d)
    (origin_few (filter_map origin_of h.declared.said) p.origin h.declared.origin)
clean text ts p h _ (not_bare {r = r} i g) = let e : r.words ≡ [] = All-contains (λ (s : Row). s.words ≡ []) (below (parts_of text ts)) r h.bare i in no_words g.0 g.1 (sym g.2 ∙ e)
