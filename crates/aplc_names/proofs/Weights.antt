-- Weights of words: a tree weighs no more than the words that spell it, and a program no more than those of its text.
use Rattle.std.proofs.Common.{◌≡◌, ℕ, ◌+◌, ◌≤◌, List, [], ◌∷◌, ◌++◌, ℤ, Option, Some, None, Bool, true, false, map, drop, is_some, if◌then◌else◌, refl, ap, inl, inr, arith}
use Rattle.std.specs.List.{AllZip}
use Rattle.aplc_scalar.specs.declared.function.ScalarFn.TheVariants as sf
use Rattle.aplc_lex.specs.declared.token.Token.{Token}
use Rattle.aplc_syntax.specs.declared.tree.Named.{Named}
use Rattle.aplc_syntax.specs.declared.tree.Primitive.{Primitive}
use Rattle.aplc_syntax.specs.declared.tree.Primitive.TheVariants as pr
use Rattle.aplc_syntax.specs.declared.tree.Program.{Program}
use Rattle.aplc_syntax.specs.declared.tree.Form.TheVariants as v
use Rattle.aplc_syntax.specs.declared.tree.Node.{Node}
use Rattle.aplc_syntax.specs.declared.tree.Statement.{Statement}
use Rattle.aplc_syntax.specs.declared.tree.Statement.TheVariants as st
use Rattle.aplc_syntax.specs.declared.tree.Line.{Line}
use Rattle.aplc_syntax.specs.declared.tree.Function.{Function}
use Rattle.aplc_syntax.specs.declared.word.Arity.TheVariants as arity
use Rattle.aplc_syntax.specs.declared.word.Role.TheVariants as role
use Rattle.aplc_syntax.specs.declared.word.Word.{Word}
use Rattle.aplc_syntax.specs.declared.word.WordKind.{WordKind}
use Rattle.aplc_syntax.specs.declared.word.WordKind.TheVariants as w
use Rattle.aplc_syntax.specs.Grammar.{F, arith_fn, compare_fn, X, no_axis, axis, M, arith1, not1, both1, turn1, reduce, call1, D, scalar2, both2, dyadic2, turn2, copies, outer, inner, call2, N, no_number, number, S, numbers, literal, variable, call0, text_input, nums_input, E, operand, before, between, assign, assign_at, show, O, simple, paren, index, L, last_gap, last_entry, gap, entry, Sentence, value, branch, perform0, perform1, perform2, spell, spell_F, spell_X, spell_M, spell_D, spell_N, spell_S, spell_E, spell_O, spell_L}
use Rattle.aplc_syntax.specs.Words.{word, words, text_between}
use Rattle.aplc_syntax.specs.Trees.{node, name_id, scalar_of, axis_of, reduction, copying, numbers_of, apply1, apply2, tree_S, tree_E, tree_O, trees_L, valued, statement_of}
use Rattle.aplc_syntax.specs.PlainTrees.{Tree, Trees, Argument, tree_of, trees_in, argument_in}
use Rattle.aplc_syntax.specs.PlainTrees as t
use Rattle.aplc_syntax.specs.Layout.{Row, Rows, before_rows, cut, lines, begins_with_del, Block, part, parts, outside, function, Part, blocks, Header, kind_in, word_in, placed, label, label_of, sentence, headers, parts_of}
use Rattle.aplc_syntax.specs.Programs.{IsStatement, IsLine, IsFunction, IsProgramOf}
use Rattle.aplc_syntax.proofs.PlainForms.{numbers_node, text_node, name_node, text_input_node, nums_input_node, mono_node, dyad_node, index_node, assign_node, assign_at_node, show_node, call_node}

-- ---- Words

-- what numbers, the characters of texts, names and trees weigh
pub record Scale : Type 0 where
  pub number_weight : ℤ → ℕ
  pub text_weight : List ℕ → ℕ
  pub name_weight : ℕ → ℕ
  pub tree_weight : Tree → ℕ

-- the weight of a word at place p of a text
abbrev pub kind_weight : Scale → List ℕ → ℕ → WordKind → ℕ
kind_weight g text p (w.Number x) = g.number_weight x
kind_weight g text p (w.Text to) = g.text_weight (text_between text p to)
kind_weight g text p (w.Name r n) = g.name_weight n
kind_weight g text p _ = 0

abbrev pub weight : Scale → List ℕ → List Word → ℕ
weight g text [] = 0
weight g text (x ∷ xs) = kind_weight g text x.place x.kind + weight g text xs

abbrev pub numbers_weight : Scale → List ℤ → ℕ
numbers_weight g [] = 0
numbers_weight g (x ∷ xs) = g.number_weight x + numbers_weight g xs

-- ---- Trees

abbrev pub argument_weight : Scale → Argument → ℕ
argument_weight g t.absent = 0
argument_weight g (t.given x) = g.tree_weight x

abbrev pub trees_weight : Scale → Trees → ℕ
trees_weight g t.no_more = 0
trees_weight g (t.left_out xs) = trees_weight g xs
trees_weight g (t.and_tree x xs) = g.tree_weight x + trees_weight g xs

-- a tree weighs no more than its parts
pub record IsEven (g : Scale) : Type 0 where
  pub of_numbers : (i p : ℕ) (xs : List ℤ) → g.tree_weight (t.Numbers i p xs) ≤ numbers_weight g xs
  pub of_text : (i p : ℕ) (cs : List ℕ) → g.tree_weight (t.Text i p cs) ≤ g.text_weight cs
  pub of_name : (i p n : ℕ) → g.tree_weight (t.Name i p n) ≤ g.name_weight n
  pub of_text_input : (i p : ℕ) → g.tree_weight (t.TextInput i p) ≤ 0
  pub of_nums_input : (i p : ℕ) → g.tree_weight (t.NumsInput i p) ≤ 0
  pub of_mono : (i p : ℕ) (f : Primitive) (a : Tree) → g.tree_weight (t.Mono i p f a) ≤ g.tree_weight a
  pub of_dyad : (i p : ℕ) (f : Primitive) (a b : Tree) → g.tree_weight (t.Dyad i p f a b) ≤ g.tree_weight a + g.tree_weight b
  pub of_index : (i p : ℕ) (a : Tree) (xs : Trees) → g.tree_weight (t.Index i p a xs) ≤ g.tree_weight a + trees_weight g xs
  pub of_assign : (i p n : ℕ) (a : Tree) → g.tree_weight (t.Assign i p n a) ≤ g.name_weight n + g.tree_weight a
  pub of_assign_at : (i p n : ℕ) (xs : Trees) (a : Tree) → g.tree_weight (t.AssignAt i p n xs a) ≤ g.name_weight n + (trees_weight g xs + g.tree_weight a)
  pub of_show : (i p : ℕ) (a : Tree) → g.tree_weight (t.Show i p a) ≤ g.tree_weight a
  pub of_call : (i p n : ℕ) (a b : Argument) → g.tree_weight (t.Call i p n a b) ≤ g.name_weight n + (argument_weight g a + argument_weight g b)

abbrev pub node_weight : Scale → Node → ℕ
node_weight g n = g.tree_weight (tree_of n)

of_mono : (g : Scale) → IsEven g → (p : ℕ) (f : Primitive) (a : Node) → node_weight g (node p (v.Mono f a)) ≤ node_weight g a
of_mono g e p f a = let h = ap g.tree_weight (mono_node p f a) in let i = e.of_mono p p f (tree_of a) in omega arith

of_dyad : (g : Scale) → IsEven g → (p : ℕ) (f : Primitive) (a b : Node) → node_weight g (node p (v.Dyad f a b)) ≤ node_weight g a + node_weight g b
of_dyad g e p f a b = let h = ap g.tree_weight (dyad_node p f a b) in let i = e.of_dyad p p f (tree_of a) (tree_of b) in omega arith

of_call : (g : Scale) → IsEven g → (p n : ℕ) (a b : Option Node) → node_weight g (node p (v.Call (name_id n) a b)) ≤ g.name_weight n + (argument_weight g (argument_in a) + argument_weight g (argument_in b))
of_call g e p n a b = let h = ap g.tree_weight (call_node p n a b) in let i = e.of_call p p n (argument_in a) (argument_in b) in omega arith

weigh_F : (g : Scale) (text : List ℕ) (x : F) (p : ℕ) (k : List Word) → weight g text k ≤ weight g text (spell_F x p k)
weigh_F g text (arith_fn f) p k = omega arith
weigh_F g text (compare_fn f) p k = omega arith

weigh_X : (g : Scale) (text : List ℕ) (x : X) (k : List Word) → weight g text k ≤ weight g text (spell_X x k)
weigh_X g text no_axis k = omega arith
weigh_X g text (axis pl pn pr x) k = omega arith

weigh_N : (g : Scale) (text : List ℕ) (ns : N) (k : List Word) → numbers_weight g (numbers_of ns) + weight g text k ≤ weight g text (spell_N ns k)
weigh_N g text no_number k = omega arith
weigh_N g text (number p x ns) k = let h = weigh_N g text ns k in omega arith

weigh_M : (g : Scale) → IsEven g → (text : List ℕ) (m : M) (b : Node) (k : List Word) → node_weight g (apply1 m b) + weight g text k ≤ node_weight g b + weight g text (spell_M m k)
weigh_M g e text (arith1 p f) b k = let h = of_mono g e p (pr.Scalar f) b in omega arith
weigh_M g e text (not1 p) b k = let h = of_mono g e p (pr.Scalar sf.Not) b in omega arith
weigh_M g e text (both1 p f) b k = let h = of_mono g e p f b in omega arith
weigh_M g e text (turn1 p a x) b k = let h = of_mono g e p (pr.Reverse (axis_of a x)) b in let i = weigh_X g text x k in omega arith
weigh_M g e text (reduce p f ps s a x) b k =
    let h = of_mono g e p (reduction s (scalar_of f) (axis_of a x)) b in let i = weigh_X g text x k in let j = weigh_F g text f p (word (w.Stroke s a) ps ∷ spell_X x k) in omega arith
weigh_M g e text (call1 p n) b k = let h = of_call g e p n None (Some b) in omega arith

weigh_D : (g : Scale) → IsEven g → (text : List ℕ) (d : D) (a b : Node) (k : List Word) → node_weight g (apply2 d a b) + weight g text k ≤ (node_weight g a + node_weight g b) + weight g text (spell_D d k)
weigh_D g e text (scalar2 p f) a b k = let h = of_dyad g e p (pr.Scalar (scalar_of f)) a b in let i = weigh_F g text f p k in omega arith
weigh_D g e text (both2 p f) a b k = let h = of_dyad g e p f a b in omega arith
weigh_D g e text (dyadic2 p f) a b k = let h = of_dyad g e p f a b in omega arith
weigh_D g e text (turn2 p c x) a b k = let h = of_dyad g e p (pr.Reverse (axis_of c x)) a b in let i = weigh_X g text x k in omega arith
weigh_D g e text (copies p s c x) a b k = let h = of_dyad g e p (copying s (axis_of c x)) a b in let i = weigh_X g text x k in omega arith
weigh_D g e text (outer p pd pf f) a b k = let h = of_dyad g e p (pr.Outer (scalar_of f)) a b in let i = weigh_F g text f pf k in omega arith
weigh_D g e text (inner p f pd ph j) a b k =
    let h = of_dyad g e p (pr.Inner (scalar_of f) (scalar_of j)) a b in let i = weigh_F g text j ph k in let l = weigh_F g text f p (word w.Dot pd ∷ spell_F j ph k) in omega arith
weigh_D g e text (call2 p n) a b k = let h = of_call g e p n (Some a) (Some b) in omega arith

weigh_S : (g : Scale) → IsEven g → (text : List ℕ) (a : S) (k : List Word) → node_weight g (tree_S text a) + weight g text k ≤ weight g text (spell_S a k)
weigh_S g e text (numbers p x ns) k = let h = ap g.tree_weight (numbers_node p (x ∷ numbers_of ns)) in let i = e.of_numbers p p (x ∷ numbers_of ns) in let j = weigh_N g text ns k in omega arith
weigh_S g e text (literal p to) k = let h = ap g.tree_weight (text_node p (text_between text p to)) in let i = e.of_text p p (text_between text p to) in omega arith
weigh_S g e text (variable p n) k = let h = ap g.tree_weight (name_node p n) in let i = e.of_name p p n in omega arith
weigh_S g e text (call0 p n) k = let h = of_call g e p n None None in omega arith
weigh_S g e text (text_input p) k = let h = ap g.tree_weight (text_input_node p) in let i = e.of_text_input p p in omega arith
weigh_S g e text (nums_input p) k = let h = ap g.tree_weight (nums_input_node p) in let i = e.of_nums_input p p in omega arith

mutual
  weigh_E : (g : Scale) → IsEven g → (text : List ℕ) (x : E) (k : List Word) → node_weight g (tree_E text x) + weight g text k ≤ weight g text (spell_E x k)
  weigh_E g e text (operand a) k = weigh_O g e text a k
  weigh_E g e text (before m x) k = let h = weigh_M g e text m (tree_E text x) (spell_E x k) in let i = weigh_E g e text x k in omega arith
  weigh_E g e text (between a d x) k =
      let h = weigh_D g e text d (tree_O text a) (tree_E text x) (spell_E x k) in let i = weigh_E g e text x k in let j = weigh_O g e text a (spell_D d (spell_E x k)) in omega arith
  weigh_E g e text (assign r p n pa x) k = let h = ap g.tree_weight (assign_node p n (tree_E text x)) in let j = e.of_assign p p n (tree_of (tree_E text x)) in let i = weigh_E g e text x k in omega arith
  weigh_E g e text (assign_at r p n pl l pa x) k =
      let h = ap g.tree_weight (assign_at_node p n (trees_L text l) (tree_E text x)) in let m = e.of_assign_at p p n (trees_in (trees_L text l)) (tree_of (tree_E text x)) in let i = weigh_E g e text x k in let j = weigh_L g e text l (word w.Assign pa ∷ spell_E x k) in omega arith
  weigh_E g e text (show p pa x) k = let h = ap g.tree_weight (show_node p (tree_E text x)) in let j = e.of_show p p (tree_of (tree_E text x)) in let i = weigh_E g e text x k in omega arith

  weigh_O : (g : Scale) → IsEven g → (text : List ℕ) (a : O) (k : List Word) → node_weight g (tree_O text a) + weight g text k ≤ weight g text (spell_O a k)
  weigh_O g e text (simple a) k = weigh_S g e text a k
  weigh_O g e text (paren p x q) k = let i = weigh_E g e text x (word w.Close q ∷ k) in omega arith
  weigh_O g e text (index a p l) k =
      let h = ap g.tree_weight (index_node p (tree_O text a) (trees_L text l)) in let m = e.of_index p p (tree_of (tree_O text a)) (trees_in (trees_L text l)) in let i = weigh_O g e text a (word w.OpenBracket p ∷ spell_L l k) in let j = weigh_L g e text l k in omega arith

  weigh_L : (g : Scale) → IsEven g → (text : List ℕ) (l : L) (k : List Word) → trees_weight g (trees_in (trees_L text l)) + weight g text k ≤ weight g text (spell_L l k)
  weigh_L g e text (last_gap p) k = omega arith
  weigh_L g e text (last_entry x p) k = let h = weigh_E g e text x (word w.CloseBracket p ∷ k) in omega arith
  weigh_L g e text (gap p l) k = let h = weigh_L g e text l k in omega arith
  weigh_L g e text (entry x p l) k = let h = weigh_E g e text x (word w.Semicolon p ∷ spell_L l k) in let i = weigh_L g e text l k in omega arith

-- ---- Statements

abbrev pub statement_weight : Scale → Statement → ℕ
statement_weight g st.Empty = 0
statement_weight g (st.Quiet n) = node_weight g n
statement_weight g (st.Display n) = node_weight g n
statement_weight g (st.Branch p n) = node_weight g n

valued_weight : (g : Scale) (x : E) (n : Node) → statement_weight g (valued x n) ≡ node_weight g n
valued_weight g (operand a) n = refl
valued_weight g (before m x) n = refl
valued_weight g (between a d x) n = refl
valued_weight g (assign r p m pa x) n = refl
valued_weight g (assign_at r p m pl l pa x) n = refl
valued_weight g (show p pa x) n = refl

weigh_sentence : (g : Scale) → IsEven g → (text : List ℕ) (x : Sentence) → statement_weight g (statement_of text x) ≤ weight g text (spell x)
weigh_sentence g e text (value x) = let h = weigh_E g e text x [] in let i = valued_weight g x (tree_E text x) in omega arith
weigh_sentence g e text (branch p x) = let h = weigh_E g e text x [] in omega arith
weigh_sentence g e text (perform0 p n) = let h = of_call g e p n None None in omega arith
weigh_sentence g e text (perform1 p n x) = let h = of_call g e p n None (Some (tree_E text x)) in let i = weigh_E g e text x [] in omega arith
weigh_sentence g e text (perform2 a p n x) = let h = of_call g e p n (Some (tree_O text a)) (Some (tree_E text x)) in let i = weigh_E g e text x [] in
    let j = weigh_O g e text a (word (w.Name (role.Procedure arity.Dyadic) n) p ∷ spell_E x []) in omega arith

weigh_statement : (g : Scale) → IsEven g → (text : List ℕ) (ws : List Word) (s : Statement) → IsStatement text ws s → statement_weight g s ≤ weight g text ws
weigh_statement g e text ws s (inl h) = let i : statement_weight g s ≡ 0 = ap (statement_weight g) h.1 in omega arith
weigh_statement g e text ws s (inr h) =
    let i = weigh_sentence g e text h.form in
    let j : statement_weight g s ≡ statement_weight g (statement_of text h.form) = ap (statement_weight g) h.tree in
    let k : weight g text ws ≡ weight g text (spell h.form) = ap (weight g text) h.spelled in
    omega arith

-- ---- Lines

abbrev pub named_weight : Scale → Named → ℕ
named_weight g x = g.name_weight x.name.0

abbrev pub optional_named : Scale → Option Named → ℕ
optional_named g None = 0
optional_named g (Some x) = named_weight g x

kind_same : (g : Scale) (text : List ℕ) (p : ℕ) (hs : List Header) (k : WordKind) → kind_weight g text p (kind_in hs k) ≡ kind_weight g text p k
kind_same g text p hs (w.Name r n) = refl
kind_same g text p hs _ = refl

words_same : (g : Scale) (text : List ℕ) (hs : List Header) (ws : List Word) → weight g text (map (word_in hs) ws) ≡ weight g text ws
words_same g text hs [] = refl
words_same g text hs (x ∷ xs) = let h = words_same g text hs xs in let i = kind_same g text x.place hs x.kind in omega arith

-- what stands behind a label, with the label
abbrev Labelled : Scale → List ℕ → List Word → Type 0
Labelled g text ws = optional_named g (label (map placed ws)) + weight g text (if is_some (label (map placed ws)) then drop 2 ws else ws) ≤ weight g text ws

labelled_one : (g : Scale) (text : List ℕ) (a : WordKind) (p : ℕ) → Labelled g text (word a p ∷ [])
labelled_one g text (w.Name r n) p = omega arith
labelled_one g text _ p = omega arith

labelled_two : (g : Scale) (text : List ℕ) (a : WordKind) (p : ℕ) (b : WordKind) (q : ℕ) (ws : List Word) → Labelled g text (word a p ∷ word b q ∷ ws)
labelled_two g text (w.Name r n) p w.Colon q ws = omega arith
labelled_two g text _ p _ q ws = omega arith

labelled : (g : Scale) (text : List ℕ) (ws : List Word) → Labelled g text ws
labelled g text [] = omega arith
labelled g text (x ∷ []) = labelled_one g text x.kind x.place
labelled g text (x ∷ y ∷ ws) = labelled_two g text x.kind x.place y.kind y.place ws

abbrev pub line_weight : Scale → Line → ℕ
line_weight g l = optional_named g l.label + statement_weight g l.statement

weigh_line : (g : Scale) → IsEven g → (text : List ℕ) (hs : List Header) (r : Row) (l : Line) → IsLine text hs r l → line_weight g l ≤ weight g text r.words
weigh_line g e text hs r l h =
    let i = weigh_statement g e text (sentence hs r) l.statement h.statement in
    let j = words_same g text hs (if is_some (label_of r) then drop 2 r.words else r.words) in
    let k : optional_named g l.label ≡ optional_named g (label_of r) = ap (optional_named g) h.label in
    let m = labelled g text r.words in
    omega arith

abbrev pub lines_weight : Scale → List Line → ℕ
lines_weight g [] = 0
lines_weight g (l ∷ ls) = line_weight g l + lines_weight g ls

abbrev pub rows_weight : Scale → List ℕ → List Row → ℕ
rows_weight g text [] = 0
rows_weight g text (r ∷ rs) = weight g text r.words + rows_weight g text rs

pub weigh_lines : (g : Scale) → IsEven g → (text : List ℕ) (hs : List Header) (rs : List Row) (ls : List Line) → AllZip (IsLine text hs) rs ls → lines_weight g ls ≤ rows_weight g text rs
weigh_lines g e text hs [] [] h = omega arith
weigh_lines g e text hs [] (l ∷ ls) h = absurd h
weigh_lines g e text hs (r ∷ rs) [] h = absurd h
weigh_lines g e text hs (r ∷ rs) (l ∷ ls) h = let i = weigh_line g e text hs r l h.0 in let j = weigh_lines g e text hs rs ls h.1 in omega arith

-- ---- Functions

abbrev pub functions_weight : Scale → List Function → ℕ
functions_weight g [] = 0
functions_weight g (f ∷ fs) = lines_weight g f.lines + functions_weight g fs

-- the lines of these functions, and their headers
abbrev pub blocks_weight : Scale → List ℕ → List Block → ℕ
blocks_weight g text [] = 0
blocks_weight g text (b ∷ bs) = (weight g text b.head.words + rows_weight g text b.body) + blocks_weight g text bs

weigh_functions : (g : Scale) → IsEven g → (text : List ℕ) (hs : List Header) (bs : List Block) (fs : List Function) → AllZip (IsFunction text hs) bs fs → functions_weight g fs ≤ blocks_weight g text bs
weigh_functions g e text hs [] [] h = omega arith
weigh_functions g e text hs [] (f ∷ fs) h = absurd h
weigh_functions g e text hs (b ∷ bs) [] h = absurd h
weigh_functions g e text hs (b ∷ bs) (f ∷ fs) h = let i = weigh_lines g e text hs b.body f.lines h.0.lines in let j = weigh_functions g e text hs bs fs h.1 in omega arith

-- ---- Parts of a text

abbrev pub parts_weight : Scale → List ℕ → List Part → ℕ
parts_weight g text [] = 0
parts_weight g text (outside r ∷ ps) = weight g text r.words + parts_weight g text ps
parts_weight g text (function b ∷ ps) = (weight g text b.head.words + rows_weight g text b.body) + parts_weight g text ps

abbrev opened_weight : Scale → List ℕ → Option (Row × List Row) → ℕ
opened_weight g text None = 0
opened_weight g text (Some (h, body)) = weight g text h.words + rows_weight g text body

rows_more : (g : Scale) (text : List ℕ) (rs : List Row) (r : Row) → rows_weight g text (rs ++ r ∷ []) ≡ rows_weight g text rs + weight g text r.words
rows_more g text [] r = omega arith
rows_more g text (s ∷ rs) r = let h = rows_more g text rs r in omega arith

weigh_part : (g : Scale) (text : List ℕ) (b : Bool) (r : Row) (opened : Option (Row × List Row)) (rs : List Row)
    → ((o : Option (Row × List Row)) → parts_weight g text (parts rs o) ≤ rows_weight g text rs + opened_weight g text o)
    → parts_weight g text (part b r opened (parts rs)) ≤ weight g text r.words + rows_weight g text rs + opened_weight g text opened
weigh_part g text true r None rs f = let h = f (Some (r, [])) in omega arith
weigh_part g text false r None rs f = let h = f None in omega arith
weigh_part g text true r (Some (h, body)) rs f = let i = f None in omega arith
weigh_part g text false r (Some (h, body)) rs f = let i = f (Some (h, body ++ r ∷ [])) in let j = rows_more g text body r in omega arith

weigh_parts : (g : Scale) (text : List ℕ) (rs : List Row) (opened : Option (Row × List Row)) → parts_weight g text (parts rs opened) ≤ rows_weight g text rs + opened_weight g text opened
weigh_parts g text [] None = omega arith
weigh_parts g text [] (Some (h, body)) = omega arith
weigh_parts g text (r ∷ rs) opened = weigh_part g text (begins_with_del r.words) r opened rs (λ o. weigh_parts g text rs o)

weigh_before : (g : Scale) (text : List ℕ) (k : WordKind) (x : Word) (rows : Rows)
    → weight g text (before_rows k x rows).first + rows_weight g text (before_rows k x rows).rest ≤ kind_weight g text x.place x.kind + (weight g text rows.first + rows_weight g text rows.rest)
weigh_before g text (w.LineEnd to) x rows = omega arith
weigh_before g text _ x rows = omega arith

weigh_cut : (g : Scale) (text : List ℕ) (ws : List Word) → weight g text (cut ws).first + rows_weight g text (cut ws).rest ≤ weight g text ws
weigh_cut g text [] = omega arith
weigh_cut g text (x ∷ xs) = let h = weigh_cut g text xs in let i = weigh_before g text x.kind x (cut xs) in omega arith

-- parts weigh no more than the words of the text
pub weigh_text : (g : Scale) (text : List ℕ) (ws : List Word) → parts_weight g text (parts (lines ws) None) ≤ weight g text ws
weigh_text g text ws = let h = weigh_parts g text (lines ws) None in let i = weigh_cut g text ws in omega arith

pub weigh_blocks : (g : Scale) (text : List ℕ) (ps : List Part) → blocks_weight g text (blocks ps) ≤ parts_weight g text ps
weigh_blocks g text [] = omega arith
weigh_blocks g text (outside r ∷ ps) = let h = weigh_blocks g text ps in omega arith
weigh_blocks g text (function b ∷ ps) = let h = weigh_blocks g text ps in omega arith

-- the lines of a program weigh no more than the words of its text
pub weigh_program : (g : Scale) → IsEven g → (text : List ℕ) (ts : List Token) (p : Program) → IsProgramOf text ts p → functions_weight g p.functions ≤ weight g text (words text ts)
weigh_program g e text ts p i =
    let a = weigh_functions g e text (headers (parts_of text ts)) (blocks (parts_of text ts)) p.functions i.functions in
    let b = weigh_blocks g text (parts_of text ts) in
    let c = weigh_text g text (words text ts) in
    omega arith
