-- Each name that stands in a program has a number below the number of names.
use Rattle.std.proofs.Common.{◌≡◌, ◌∙◌, ap, sym, refl, subst, ℕ, ◌+◌, ◌<◌, ◌≤◌, List, [], ◌∷◌, ◌++◌, length, option_to_list, Option, Some, None, Bool, true, false, cond, not, ◌||◌, if◌then◌else◌, arith, nat_lt}
use Rattle.std.specs.Prelude.{map, filter_map, fold, All, bytes_eq}
use Rattle.std.specs.List.{list_any, position_or_len}
use Rattle.std.proofs.lemmas.Bool.Decides.{nat_tests}
use Rattle.std.proofs.lemmas.List.Elements.{All-cons, All-nil}
use Rattle.std.proofs.lemmas.Slice.Eq.{bytes_eq-Decides}
use Rattle.aplc_lex.specs.declared.token.Token.{Token}
use Rattle.aplc_lex.specs.declared.token.TokenKind.{TokenKind}
use Rattle.aplc_lex.specs.declared.token.TokenKind.TheVariants as k
use Rattle.aplc_syntax.specs.declared.tree.Named.{Named}
use Rattle.aplc_syntax.specs.declared.tree.Var.{Var}
use Rattle.aplc_syntax.specs.declared.tree.Statement.{Statement}
use Rattle.aplc_syntax.specs.declared.tree.Statement.TheVariants as st
use Rattle.aplc_syntax.specs.declared.tree.Function.{Function}
use Rattle.aplc_syntax.specs.declared.tree.Line.{Line}
use Rattle.aplc_syntax.specs.declared.tree.Program.{Program}
use Rattle.aplc_syntax.specs.Words.{word_of, words, names_in, kind_of, is_name, spelling, with_name, with_token, number_of}
use Rattle.aplc_syntax.specs.PlainTrees.{Trees, Argument}
use Rattle.aplc_syntax.specs.PlainTrees as t
use Rattle.aplc_syntax.specs.Layout.{blocks, headers, parts_of, var_of}
use Rattle.aplc_names.specs.declared.outline.Mention.{Mention}
use Rattle.aplc_names.specs.Outlines.{tree_mentions, trees_mentions, argument_mentions, statement_mentions, label_mention, line_mentions, lines_mentions, header_names, line_label, labels_in, local_names_of, outline}
use Rattle.aplc_names.specs.Programs.{IsParsed, IsBelow, IsOutlineBelow, HasNamesBelow}
use Rattle.aplc_names.proofs.Symbols.{sign_weight}
use Rattle.aplc_names.proofs.Headers.{names_weight, function_weight, whole_weight, weigh_whole, vars_weight, weigh_vars}
use Rattle.aplc_names.proofs.Weights.{Scale, IsEven, argument_weight, trees_weight, statement_weight, lines_weight, kind_weight, weight, optional_named, weigh_blocks, weigh_text}

-- ---- Names that have no place in a list of n

abbrev unless : Bool → ℕ
unless t = cond t 0 1

-- 0 below n, and else 1
beyond : ℕ → ℕ → ℕ
beyond n m = unless (nat_lt m n)

below : (n m : ℕ) → beyond n m ≡ 0 → m < n
unfolding beyond
below n m e = pick (nat_lt m n) refl e
  where
    pick : (t : Bool) → nat_lt m n ≡ t → unless t ≡ 0 → m < n
    pick true h f = grind (arith, nat_tests)
    pick false h f = absurd (omega arith)

below_weight : (n m : ℕ) → m < n → beyond n m ≡ 0
unfolding beyond
below_weight n m l = let e : nat_lt m n ≡ true = grind (arith, nat_tests) in ap unless e

-- how many of these mentions have none
abbrev strays : ℕ → List Mention → ℕ
strays n [] = 0
strays n (m ∷ ms) = beyond n m.name.0 + strays n ms

strays_append : (n : ℕ) (xs ys : List Mention) → strays n (xs ++ ys) ≡ strays n xs + strays n ys
strays_append n [] ys = omega arith
strays_append n (x ∷ xs) ys = let h = strays_append n xs ys in omega arith

abbrev scale : ℕ → Scale
scale n = record { number_weight = λ x. 0; text_weight = λ cs. 0; name_weight = beyond n; tree_weight = λ a. strays n (tree_mentions a) }

-- ---- Forms

same_trees : (n : ℕ) (xs : Trees) → strays n (trees_mentions xs) ≡ trees_weight (scale n) xs
same_trees n t.no_more = refl
same_trees n (t.left_out xs) = same_trees n xs
same_trees n (t.and_tree x xs) = strays_append n (tree_mentions x) (trees_mentions xs) ∙ ap (λ (m : ℕ). strays n (tree_mentions x) + m) (same_trees n xs)

same_argument : (n : ℕ) (x : Argument) → strays n (argument_mentions x) ≡ argument_weight (scale n) x
same_argument n t.absent = refl
same_argument n (t.given x) = refl

even : (n : ℕ) → IsEven (scale n)
even n = record {
  of_numbers = λ i p xs. omega arith;
  of_text = λ i p cs. omega arith;
  of_name = λ i p m. omega arith;
  of_text_input = λ i p. omega arith;
  of_nums_input = λ i p. omega arith;
  of_mono = λ i p f a. omega arith;
  of_dyad = λ i p f a b. (let h = strays_append n (tree_mentions a) (tree_mentions b) in omega arith);
  of_index = λ i p a xs. (let h = strays_append n (tree_mentions a) (trees_mentions xs) in let j = same_trees n xs in omega arith);
  of_assign = λ i p m a. omega arith;
  of_assign_at = λ i p m xs a. (let h = strays_append n (trees_mentions xs) (tree_mentions a) in let j = same_trees n xs in omega arith);
  of_show = λ i p a. omega arith;
  of_call = λ i p m a b. (let h = strays_append n (argument_mentions a) (argument_mentions b) in let j = same_argument n a in let k = same_argument n b in omega arith);
}

-- ---- Names of tokens

abbrev IsMet : List ℕ → List (List ℕ) → Type 0
IsMet x ns = list_any (bytes_eq x) ns ≡ true

same_bytes : (x : List ℕ) → bytes_eq x x ≡ true
same_bytes x = (bytes_eq-Decides x x).1 refl

met_append : (x : List ℕ) (ns ms : List (List ℕ)) → IsMet x ns → IsMet x (ns ++ ms)
met_append x [] ms h = cc
met_append x (y ∷ ns) ms h = elim (bytes_eq x y) as (λ b. (b || list_any (bytes_eq x) ns) ≡ true → (b || list_any (bytes_eq x) (ns ++ ms)) ≡ true) [ true ↦ (λ g. refl) | false ↦ (λ g. met_append x ns ms g) ] h

met_last : (x : List ℕ) (ns : List (List ℕ)) → IsMet x (ns ++ x ∷ [])
met_last x [] = ap (λ b. b || false) (same_bytes x)
met_last x (y ∷ ns) = elim (bytes_eq x y) as (λ b. (b || list_any (bytes_eq x) (ns ++ x ∷ [])) ≡ true) [ true ↦ refl | false ↦ met_last x ns ]

met_place : (x : List ℕ) (ns : List (List ℕ)) → IsMet x ns → number_of ns x < length ns
met_place x [] h = cc
met_place x (y ∷ ns) h = elim (bytes_eq x y) as (λ b. (b || list_any (bytes_eq x) ns) ≡ true → cond (not b) (1 + position_or_len (bytes_eq x) ns) 0 < length (y ∷ ns)) [
  | true ↦ (λ g. omega arith)
  | false ↦ (λ g. (let i : number_of ns x < length ns = met_place x ns g in omega arith))
] h

met_with : (seen : List (List ℕ)) (x : List ℕ) → IsMet x (with_name seen x)
met_with seen x = pick (list_any (bytes_eq x) seen) refl
  where
    pick : (b : Bool) → list_any (bytes_eq x) seen ≡ b → IsMet x (if b then seen else seen ++ x ∷ [])
    pick true h = h
    pick false h = met_last x seen

met_kept : (text : List ℕ) (seen : List (List ℕ)) (x : List ℕ) (t : Token) → IsMet x seen → IsMet x (with_token text seen t)
met_kept text seen x t h = pick (is_name t.kind) (list_any (bytes_eq (spelling text t)) seen)
  where
    pick : (b d : Bool) → IsMet x (if b then (if d then seen else seen ++ spelling text t ∷ []) else seen)
    pick true true = h
    pick true false = met_append x seen (spelling text t ∷ []) h
    pick false d = h

met_behind : (text : List ℕ) (seen : List (List ℕ)) (x : List ℕ) (ts : List Token) → IsMet x seen → IsMet x (fold (with_token text) seen ts)
met_behind text seen x [] h = h
met_behind text seen x (t ∷ ts) h = met_behind text (with_token text seen t) x ts (met_kept text seen x t h)

named_kind : (text : List ℕ) (seen ns : List (List ℕ)) (t : Token) (ts : List Token) (j : TokenKind) → t.kind ≡ j → ns ≡ fold (with_token text) (with_token text seen t) ts → kind_weight (scale (length ns)) text t.span.from (kind_of text ns t j) ≡ 0
named_kind text seen ns t ts k.Name e f =
    let a : with_name seen (spelling text t) ≡ with_token text seen t = sym (ap (λ (j : TokenKind). if is_name j then with_name seen (spelling text t) else seen) e) in
    let b : IsMet (spelling text t) (with_token text seen t) = subst (IsMet (spelling text t)) a (met_with seen (spelling text t)) in
    let d : IsMet (spelling text t) ns = subst (IsMet (spelling text t)) (sym f) (met_behind text (with_token text seen t) (spelling text t) ts b) in
    below_weight (length ns) (number_of ns (spelling text t)) (met_place (spelling text t) ns d)
named_kind text seen ns t ts (k.Number x) e f = refl
named_kind text seen ns t ts k.Text e f = refl
named_kind text seen ns t ts k.NumsInput e f = refl
named_kind text seen ns t ts (k.Symbol c) e f = sign_weight (scale (length ns)) text t.span.from c
named_kind text seen ns t ts k.LineEnd e f = refl

named_words : (text : List ℕ) (seen ns : List (List ℕ)) (ts : List Token) → ns ≡ fold (with_token text) seen ts → weight (scale (length ns)) text (map (word_of text ns) ts) ≡ 0
named_words text seen ns [] f = refl
named_words text seen ns (t ∷ ts) f =
    let h = named_kind text seen ns t ts t.kind refl f in
    let i = named_words text (with_token text seen t) ns ts f in
    omega arith

-- ---- Lines

names_append : (g : Scale) (xs ys : List Named) → names_weight g (xs ++ ys) ≡ names_weight g xs + names_weight g ys
names_append g [] ys = omega arith
names_append g (x ∷ xs) ys = let h = names_append g xs ys in omega arith

option_weight : (g : Scale) (x : Option Named) → names_weight g (option_to_list x) ≡ optional_named g x
option_weight g None = refl
option_weight g (Some x) = omega arith

label_strays : (n : ℕ) (x : Option Named) → strays n (label_mention x) ≡ optional_named (scale n) x
label_strays n None = refl
label_strays n (Some x) = omega arith

statement_strays : (n : ℕ) (s : Statement) → strays n (statement_mentions s) ≡ statement_weight (scale n) s
statement_strays n st.Empty = refl
statement_strays n (st.Quiet a) = refl
statement_strays n (st.Display a) = refl
statement_strays n (st.Branch p a) = refl

lines_strays : (n : ℕ) (ls : List Line) → strays n (lines_mentions ls) ≡ lines_weight (scale n) ls
lines_strays n [] = refl
lines_strays n (l ∷ ls) =
    let a = lines_strays n ls in
    let b = strays_append n (line_mentions l) (lines_mentions ls) in
    let c = strays_append n (label_mention l.label) (statement_mentions l.statement) in
    let d = label_strays n l.label in
    let e = statement_strays n l.statement in
    omega arith

labels_weight : (g : Scale) (ls : List Line) → names_weight g (labels_in ls) ≤ lines_weight g ls
labels_weight g [] = omega arith
labels_weight g (l ∷ ls) =
    let a = labels_weight g ls in
    let b = names_append g (line_label l) (labels_in ls) in
    let c = option_weight g l.label in
    omega arith

-- ---- Functions

locals_weight : (g : Scale) (f : Function) → names_weight g (local_names_of f) ≤ function_weight g f
locals_weight g f =
    let a = names_append g (header_names f) (labels_in f.lines) in
    let b = names_append g (option_to_list f.result ++ option_to_list f.left ++ option_to_list f.right) f.locals in
    let c = names_append g (option_to_list f.result ++ option_to_list f.left) (option_to_list f.right) in
    let d = names_append g (option_to_list f.result) (option_to_list f.left) in
    let e = option_weight g f.result in
    let h = option_weight g f.left in
    let i = option_weight g f.right in
    let j = labels_weight g f.lines in
    omega arith

abbrev IsMentionBelow : ℕ → Mention → Type 0
IsMentionBelow n m = m.name.0 < n

none_stray : (n : ℕ) (ms : List Mention) → strays n ms ≡ 0 → All (IsMentionBelow n) ms
none_stray n [] e = All-nil (IsMentionBelow n)
none_stray n (m ∷ ms) e = All-cons (IsMentionBelow n) m ms (below n m.name.0 (omega arith)) (none_stray n ms (omega arith))

none_beyond : (n : ℕ) (xs : List Named) → names_weight (scale n) xs ≡ 0 → All (IsBelow n) xs
none_beyond n [] e = All-nil (IsBelow n)
none_beyond n (x ∷ xs) e = All-cons (IsBelow n) x xs (below n x.name.0 (omega arith)) (none_beyond n xs (omega arith))

function_below : (n : ℕ) (f : Function) → function_weight (scale n) f ≡ 0 → IsOutlineBelow n (outline f)
function_below n f e =
    let a = locals_weight (scale n) f in
    let b = lines_strays n f.lines in
    (below n f.name.name.0 (omega arith), none_beyond n (local_names_of f) (omega arith), none_stray n (lines_mentions f.lines) (omega arith))

abbrev IsFunctionBelow : ℕ → Function → Type 0
IsFunctionBelow n f = IsOutlineBelow n (outline f)

functions_below : (n : ℕ) (fs : List Function) → whole_weight (scale n) fs ≡ 0 → All (IsFunctionBelow n) fs
functions_below n [] e = All-nil (IsFunctionBelow n)
functions_below n (f ∷ fs) e = All-cons (IsFunctionBelow n) f fs (function_below n f (omega arith)) (functions_below n fs (omega arith))

abbrev IsVarBelow : ℕ → Var → Type 0
IsVarBelow n x = IsBelow n x.name

vars_below : (n : ℕ) (xs : List Var) → vars_weight (scale n) xs ≡ 0 → All (IsVarBelow n) xs
vars_below n [] e = All-nil (IsVarBelow n)
vars_below n (x ∷ xs) e = All-cons (IsVarBelow n) x xs (below n x.name.name.0 (omega arith)) (vars_below n xs (omega arith))

-- ---- Programs

abbrev AllBelow : ℕ → Program → Type 0
AllBelow n p = All (IsVarBelow n) p.vars × All (IsFunctionBelow n) p.functions

all_below : (p : Program) (i : IsParsed p) → AllBelow (length (names_in i.text i.tokens)) p
all_below p i =
    let ns : List (List ℕ) = names_in i.text i.tokens in
    let g : Scale = scale (length ns) in
    let a = named_words i.text [] ns i.tokens refl in
    let b = weigh_text g i.text (words i.text i.tokens) in
    let c = weigh_blocks g i.text (parts_of i.text i.tokens) in
    let d = weigh_whole g (even (length ns)) i.text (headers (parts_of i.text i.tokens)) (blocks (parts_of i.text i.tokens)) p.functions i.program.functions in
    let e = weigh_vars g i.text ns (parts_of i.text i.tokens) i.program.declared.said i.program.declared.declared in
    let f : vars_weight g p.vars ≡ vars_weight g (filter_map var_of i.program.declared.said) = ap (vars_weight g) i.program.declared.named in
    (vars_below (length ns) p.vars (omega arith), functions_below (length ns) p.functions (omega arith))

pub names_below : (p : Program) → IsParsed p → HasNamesBelow p
names_below p i = subst (λ (ns : List (List ℕ)). AllBelow (length ns) p) (sym i.program.names) (all_below p i)
