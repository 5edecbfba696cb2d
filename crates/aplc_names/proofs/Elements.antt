-- The literals of a program have no more elements than its text has bytes.
use Rattle.std.proofs.Common.{◌≡◌, ap, refl, ℕ, zero, suc, ◌+◌, ◌-◌, ◌*◌, ◌<◌, ◌≤◌, ◌&&◌, List, [], ◌∷◌, length, take, drop, ℤ, Bool, true, false, if◌then◌else◌, arith, nat_eq}
use Rattle.std.specs.Prelude.{map, sum}
use Rattle.std.specs.Str.{chars, continuation_len, lead_bits, chars_after}
use Rattle.std.proofs.lemmas.List.Sums.{sum_by-cons}
use Rattle.aplc_lex.specs.Tokens.{Rise}
use Rattle.aplc_lex.specs.declared.token.Token.{Token}
use Rattle.aplc_lex.specs.declared.token.TokenKind.{TokenKind}
use Rattle.aplc_lex.specs.declared.token.TokenKind.TheVariants as k
use Rattle.aplc_syntax.specs.declared.tree.Statement.{Statement}
use Rattle.aplc_syntax.specs.declared.tree.Statement.TheVariants as st
use Rattle.aplc_syntax.specs.declared.tree.Function.{Function}
use Rattle.aplc_syntax.specs.declared.tree.Line.{Line}
use Rattle.aplc_syntax.specs.declared.tree.Program.{Program}
use Rattle.aplc_syntax.specs.Words.{word_of, names_in, kind_of, slice, undoubled, text_between}
use Rattle.aplc_syntax.specs.PlainTrees.{Trees, Argument}
use Rattle.aplc_syntax.specs.PlainTrees as t
use Rattle.aplc_syntax.proofs.Spans.{tokens_rise}
use Rattle.aplc_names.specs.Literals.{tree_elements, trees_elements, argument_elements, statement_elements, line_elements, function_elements, elements}
use Rattle.aplc_names.specs.Programs.{IsParsed}
use Rattle.aplc_names.proofs.Symbols.{sign_weight}
use Rattle.aplc_names.proofs.Weights.{Scale, IsEven, numbers_weight, argument_weight, trees_weight, statement_weight, lines_weight, functions_weight, weigh_program, kind_weight, weight}

abbrev scale : Scale
scale = record { number_weight = λ x. 1; text_weight = λ cs. length cs; name_weight = λ n. 0; tree_weight = tree_elements }

-- ---- Forms

same_length : (xs : List ℤ) → length xs ≡ numbers_weight scale xs
same_length [] = refl
same_length (x ∷ xs) = let h = same_length xs in omega arith

same_trees : (xs : Trees) → trees_elements xs ≡ trees_weight scale xs
same_trees t.no_more = refl
same_trees (t.left_out xs) = same_trees xs
same_trees (t.and_tree x xs) = ap (λ (n : ℕ). tree_elements x + n) (same_trees xs)

same_argument : (x : Argument) → argument_elements x ≡ argument_weight scale x
same_argument t.absent = refl
same_argument (t.given x) = refl

even : IsEven scale
even = record {
  of_numbers = λ i p xs. (let h = same_length xs in omega arith);
  of_text = λ i p cs. omega arith;
  of_name = λ i p n. omega arith;
  of_text_input = λ i p. omega arith;
  of_nums_input = λ i p. omega arith;
  of_mono = λ i p f a. omega arith;
  of_dyad = λ i p f a b. omega arith;
  of_index = λ i p a xs. (let h = same_trees xs in omega arith);
  of_assign = λ i p n a. omega arith;
  of_assign_at = λ i p n xs a. (let h = same_trees xs in omega arith);
  of_show = λ i p a. omega arith;
  of_call = λ i p n a b. (let h = same_argument a in let j = same_argument b in omega arith);
}

-- ---- Texts

short_slice : (n : ℕ) (xs : List ℕ) → length (take n xs) ≤ n
short_slice zero [] = omega arith
short_slice zero (x ∷ xs) = omega arith
short_slice (suc n) [] = omega arith
short_slice (suc n) (x ∷ xs) = let h = short_slice n xs in omega arith

fewer_after : (n c : ℕ) (bs : List ℕ) → length (chars_after n c bs) ≤ 1 + length bs
fewer_after zero c [] = omega arith
fewer_after zero c (b ∷ bs) = let h = fewer_after (continuation_len b) (lead_bits b) bs in omega arith
fewer_after (suc n) c [] = omega arith
fewer_after (suc n) c (b ∷ bs) = let h = fewer_after n (c * 64 + (b - 128)) bs in omega arith

fewer_chars : (bs : List ℕ) → length (chars bs) ≤ length bs
unfolding chars
fewer_chars [] = omega arith
fewer_chars (b ∷ bs) = let h = fewer_after (continuation_len b) (lead_bits b) bs in omega arith

fewer_undoubled : (cs : List ℕ) → length (undoubled cs) ≤ length cs
fewer_undoubled [] = omega arith
fewer_undoubled (c ∷ []) = omega arith
fewer_undoubled (c ∷ d ∷ cs) = pick (nat_eq c 39 && nat_eq d 39) (fewer_undoubled cs) (fewer_undoubled (d ∷ cs))
  where
    pick : (t : Bool) → length (undoubled cs) ≤ length cs → length (undoubled (d ∷ cs)) ≤ length (d ∷ cs) → length (if t then c ∷ undoubled cs else c ∷ undoubled (d ∷ cs)) ≤ length (c ∷ d ∷ cs)
    pick true h i = omega arith
    pick false h i = omega arith

-- a text has no more characters than bytes
fewer_between : (text : List ℕ) (p to : ℕ) → length (text_between text p to) ≤ to - p
fewer_between text p to =
    let a = fewer_undoubled (chars (slice text (p + 1) (to - 1))) in
    let b = fewer_chars (slice text (p + 1) (to - 1)) in
    let c = short_slice (to - 1 - (p + 1)) (drop (p + 1) text) in
    omega arith

-- ---- Words

within_span : (text : List ℕ) (ns : List (List ℕ)) (t : Token) (j : TokenKind) → t.span.from < t.span.to → t.span.from + kind_weight scale text t.span.from (kind_of text ns t j) ≤ t.span.to
within_span text ns t k.Name l = omega arith
within_span text ns t (k.Number x) l = omega arith
within_span text ns t k.Text l = let h = fewer_between text t.span.from t.span.to in omega arith
within_span text ns t k.NumsInput l = omega arith
within_span text ns t (k.Symbol c) l = let h = sign_weight scale text t.span.from c in omega arith
within_span text ns t k.LineEnd l = omega arith

within_bytes : (text : List ℕ) (ns : List (List ℕ)) (p q : ℕ) (ts : List Token) → Rise p ts q → p + weight scale text (map (word_of text ns) ts) ≤ q
within_bytes text ns p q [] r = omega (arith, r)
within_bytes text ns p q (t ∷ ts) r =
    let a : p ≤ t.span.from = r.0 in
    let h = within_span text ns t t.kind r.1 in
    let i = within_bytes text ns t.span.to q ts r.2 in
    omega arith

-- ---- Programs

same_statement : (s : Statement) → statement_elements s ≡ statement_weight scale s
same_statement st.Empty = refl
same_statement (st.Quiet n) = refl
same_statement (st.Display n) = refl
same_statement (st.Branch p n) = refl

lines_elements : (ls : List Line) → sum (map line_elements ls) ≤ lines_weight scale ls
lines_elements [] = omega arith
lines_elements (l ∷ ls) =
    let h = lines_elements ls in
    let i = same_statement l.statement in
    let j = sum_by-cons (λ (n : ℕ). n) (line_elements l) (map line_elements ls) in
    omega arith

functions_elements : (fs : List Function) → sum (map function_elements fs) ≤ functions_weight scale fs
functions_elements [] = omega arith
functions_elements (f ∷ fs) =
    let h = functions_elements fs in
    let i = lines_elements f.lines in
    let j = sum_by-cons (λ (n : ℕ). n) (function_elements f) (map function_elements fs) in
    omega arith

-- a program has at most 262,144 elements in its literals
pub elements_few : (p : Program) → IsParsed p → elements p ≤ 262144
elements_few p i =
    let a = functions_elements p.functions in
    let b = weigh_program scale even i.text i.tokens p i.program in
    let c = within_bytes i.text (names_in i.text i.tokens) 0 (length i.text) i.tokens (tokens_rise i.text i.tokens i.cut) in
    let d : length i.text ≤ 262144 = i.short in
    omega arith
