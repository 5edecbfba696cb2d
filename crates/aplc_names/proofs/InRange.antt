-- The numbers of the literals of a program lie in the range of numbers.
use Rattle.std.proofs.Common.{◌≡◌, ◌∙◌, ap, refl, ℕ, ◌+◌, List, [], ◌∷◌, ◌++◌, ℤ, Bool, true, false, cond, arith}
use Rattle.std.specs.Prelude.{map, All}
use Rattle.std.proofs.lemmas.List.Elements.{All-cons, All-nil, All-head, All-tail}
use Rattle.aplc_scalar.specs.Scalar.{in_range}
use Rattle.aplc_lex.specs.declared.token.Token.{Token}
use Rattle.aplc_lex.specs.declared.token.TokenKind.{TokenKind}
use Rattle.aplc_lex.specs.declared.token.TokenKind.TheVariants as k
use Rattle.aplc_syntax.specs.declared.tree.Statement.{Statement}
use Rattle.aplc_syntax.specs.declared.tree.Statement.TheVariants as st
use Rattle.aplc_syntax.specs.declared.tree.Function.{Function}
use Rattle.aplc_syntax.specs.declared.tree.Line.{Line}
use Rattle.aplc_syntax.specs.declared.tree.Program.{Program}
use Rattle.aplc_syntax.specs.Words.{word_of, names_in, kind_of}
use Rattle.aplc_syntax.specs.PlainTrees.{Trees, Argument}
use Rattle.aplc_syntax.specs.PlainTrees as t
use Rattle.aplc_names.specs.Literals.{tree_numbers, trees_numbers, argument_numbers, statement_numbers, HasNumbersInRange}
use Rattle.aplc_names.specs.Programs.{IsParsed}
use Rattle.aplc_names.proofs.Ranges.{IsRanged, IsRangedToken, ranged_tokens}
use Rattle.aplc_names.proofs.Weights.{Scale, IsEven, numbers_weight, argument_weight, trees_weight, statement_weight, lines_weight, functions_weight, weigh_program, kind_weight, weight}
use Rattle.aplc_names.proofs.Symbols.{sign_weight}

-- ---- Numbers that are out of range

abbrev unless : Bool → ℕ
unless t = cond t 0 1

-- 0 in range, and else 1
out_of_range : ℤ → ℕ
out_of_range x = unless (in_range x)

abbrev IsInside : ℤ → Type 0
IsInside x = in_range x ≡ true

inside : (x : ℤ) → out_of_range x ≡ 0 → in_range x ≡ true
unfolding out_of_range
inside x e = pick (in_range x) refl e
  where
    pick : (t : Bool) → in_range x ≡ t → unless t ≡ 0 → in_range x ≡ true
    pick true h f = h
    pick false h f = absurd (omega arith)

inside_weight : (x : ℤ) → in_range x ≡ true → out_of_range x ≡ 0
unfolding out_of_range
inside_weight x e = ap unless e

-- how many of these are
abbrev wide : List ℤ → ℕ
wide [] = 0
wide (x ∷ xs) = out_of_range x + wide xs

wide_append : (xs ys : List ℤ) → wide (xs ++ ys) ≡ wide xs + wide ys
wide_append [] ys = omega arith
wide_append (x ∷ xs) ys = let h = wide_append xs ys in omega arith

none_wide : (xs : List ℤ) → wide xs ≡ 0 → All IsInside xs
none_wide [] e = All-nil IsInside
none_wide (x ∷ xs) e = All-cons IsInside x xs (inside x (omega arith)) (none_wide xs (omega arith))

abbrev scale : Scale
scale = record { number_weight = out_of_range; text_weight = λ cs. 0; name_weight = λ n. 0; tree_weight = λ x. wide (tree_numbers x) }

-- ---- Forms

same_numbers : (xs : List ℤ) → wide xs ≡ numbers_weight scale xs
same_numbers [] = refl
same_numbers (x ∷ xs) = ap (λ (n : ℕ). out_of_range x + n) (same_numbers xs)

same_trees : (xs : Trees) → wide (trees_numbers xs) ≡ trees_weight scale xs
same_trees t.no_more = refl
same_trees (t.left_out xs) = same_trees xs
same_trees (t.and_tree x xs) = wide_append (tree_numbers x) (trees_numbers xs) ∙ ap (λ (n : ℕ). wide (tree_numbers x) + n) (same_trees xs)

same_argument : (x : Argument) → wide (argument_numbers x) ≡ argument_weight scale x
same_argument t.absent = refl
same_argument (t.given x) = refl

even : IsEven scale
even = record {
  of_numbers = λ i p xs. (let h = same_numbers xs in omega arith);
  of_text = λ i p cs. omega arith;
  of_name = λ i p n. omega arith;
  of_text_input = λ i p. omega arith;
  of_nums_input = λ i p. omega arith;
  of_mono = λ i p f a. omega arith;
  of_dyad = λ i p f a b. (let h = wide_append (tree_numbers a) (tree_numbers b) in omega arith);
  of_index = λ i p a xs. (let h = wide_append (tree_numbers a) (trees_numbers xs) in let j = same_trees xs in omega arith);
  of_assign = λ i p n a. omega arith;
  of_assign_at = λ i p n xs a. (let h = wide_append (trees_numbers xs) (tree_numbers a) in let j = same_trees xs in omega arith);
  of_show = λ i p a. omega arith;
  of_call = λ i p n a b. (let h = wide_append (argument_numbers a) (argument_numbers b) in let j = same_argument a in let k = same_argument b in omega arith);
}

-- ---- Words

ranged_kind : (text : List ℕ) (ns : List (List ℕ)) (t : Token) (j : TokenKind) → IsRanged j → kind_weight scale text t.span.from (kind_of text ns t j) ≡ 0
ranged_kind text ns t k.Name h = refl
ranged_kind text ns t (k.Number x) h = inside_weight x h
ranged_kind text ns t k.Text h = refl
ranged_kind text ns t k.NumsInput h = refl
ranged_kind text ns t (k.Symbol c) h = sign_weight scale text t.span.from c
ranged_kind text ns t k.LineEnd h = refl

ranged_words : (text : List ℕ) (ns : List (List ℕ)) (ts : List Token) → All IsRangedToken ts → weight scale text (map (word_of text ns) ts) ≡ 0
ranged_words text ns [] a = refl
ranged_words text ns (t ∷ ts) a =
    let h = ranged_kind text ns t t.kind (All-head IsRangedToken t ts a) in
    let i = ranged_words text ns ts (All-tail IsRangedToken t ts a) in
    omega arith

-- ---- Programs

wide_statement : (s : Statement) → statement_weight scale s ≡ wide (statement_numbers s)
wide_statement st.Empty = refl
wide_statement (st.Quiet n) = refl
wide_statement (st.Display n) = refl
wide_statement (st.Branch p n) = refl

abbrev IsInsideLine : Line → Type 0
IsInsideLine l = All IsInside (statement_numbers l.statement)

inside_lines : (ls : List Line) → lines_weight scale ls ≡ 0 → All IsInsideLine ls
inside_lines [] e = All-nil IsInsideLine
inside_lines (l ∷ ls) e = let h = wide_statement l.statement in All-cons IsInsideLine l ls (none_wide (statement_numbers l.statement) (omega arith)) (inside_lines ls (omega arith))

abbrev IsInsideFunction : Function → Type 0
IsInsideFunction f = All IsInsideLine f.lines

inside_functions : (fs : List Function) → functions_weight scale fs ≡ 0 → All IsInsideFunction fs
inside_functions [] e = All-nil IsInsideFunction
inside_functions (f ∷ fs) e = All-cons IsInsideFunction f fs (inside_lines f.lines (omega arith)) (inside_functions fs (omega arith))

pub numbers_in_range : (p : Program) → IsParsed p → HasNumbersInRange p
numbers_in_range p i = inside_functions p.functions (
    let h = weigh_program scale even i.text i.tokens p i.program in
    let j = ranged_words i.text (names_in i.text i.tokens) i.tokens (ranged_tokens i.text i.tokens i.cut) in
    omega arith)
