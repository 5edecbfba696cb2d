-- How many names a program can have.
use Rattle.std.proofs.Common.{◌≡◌, ap, ℕ, ◌+◌, ◌<◌, ◌≤◌, List, [], ◌∷◌, ◌++◌, length, Bool, true, false, if◌then◌else◌, arith, length-append}
use Rattle.std.specs.Prelude.{fold, bytes_eq}
use Rattle.std.specs.List.{list_any}
use Rattle.aplc_lex.specs.Tokens.{Rise}
use Rattle.aplc_lex.specs.declared.token.Token.{Token}
use Rattle.aplc_syntax.specs.declared.tree.Program.{Program}
use Rattle.aplc_syntax.specs.Words.{is_name, spelling, with_name, with_token, names_in}
use Rattle.aplc_syntax.specs.Programs.{IsProgramOf}
use Rattle.aplc_syntax.proofs.Spans.{tokens_rise}
use Rattle.aplc_names.specs.Programs.{IsParsed}

-- tokens that have bytes are no more than the bytes
rise_count : (p q : ℕ) (ts : List Token) → Rise p ts q → p + length ts ≤ q
rise_count p q [] r = omega (arith, r)
rise_count p q (t ∷ ts) r =
    let h : t.span.to + length ts ≤ q = rise_count t.span.to q ts r.2 in
    let a : p ≤ t.span.from = r.0 in
    let b : t.span.from < t.span.to = r.1 in
    omega arith

one_name : (b : Bool) (seen : List (List ℕ)) (name : List ℕ) → length (if b then seen else seen ++ name ∷ []) ≤ length seen + 1
one_name true seen name = omega arith
one_name false seen name = let e : length (seen ++ name ∷ []) ≡ length seen + 1 = length-append seen (name ∷ []) in omega arith

one_token : (b : Bool) (seen : List (List ℕ)) (name : List ℕ) → length (if b then with_name seen name else seen) ≤ length seen + 1
one_token true seen name = one_name (list_any (bytes_eq name) seen) seen name
one_token false seen name = omega arith

more_names : (text : List ℕ) (seen : List (List ℕ)) (ts : List Token) → length (fold (with_token text) seen ts) ≤ length seen + length ts
more_names text seen [] = omega arith
more_names text seen (t ∷ ts) =
    let h : length (fold (with_token text) (with_token text seen t) ts) ≤ length (with_token text seen t) + length ts = more_names text (with_token text seen t) ts in
    let k : length (with_token text seen t) ≤ length seen + 1 = one_token (is_name t.kind) seen (spelling text t) in
    omega arith

-- a program has no more names than its text has bytes
pub few_names : (text : List ℕ) (ts : List Token) (p : Program) → Rise 0 ts (length text) → IsProgramOf text ts p → length p.names ≤ length text
few_names text ts p r i =
    let e : length p.names ≡ length (names_in text ts) = ap length i.names in
    let h : length (names_in text ts) ≤ 0 + length ts = more_names text [] ts in
    let k : 0 + length ts ≤ length text = rise_count 0 (length text) ts r in
    omega arith

-- and so at most 262,144
pub names_few : (p : Program) → IsParsed p → length p.names ≤ 262144
names_few p i =
    let h : length p.names ≤ length i.text = few_names i.text i.tokens p (tokens_rise i.text i.tokens i.cut) i.program in
    let k : length i.text ≤ 262144 = i.short in
    omega arith
