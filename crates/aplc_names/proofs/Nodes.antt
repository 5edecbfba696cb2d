-- How many nodes the tree of a statement has.
use Rattle.std.proofs.Common.{◌≡◌, ◌∙◌, ap, refl, ℕ, ◌+◌, ◌≤◌, List, [], ◌∷◌, ◌++◌, length, Option, Some, None, arith, append-nil, length-append, inl, inr}
use Rattle.std.specs.Prelude.{All}
use Rattle.std.specs.List.{AllZip}
use Rattle.std.proofs.lemmas.List.Elements.{All-cons, All-nil}
use Rattle.aplc_syntax.specs.declared.tree.Primitive.{Primitive}
use Rattle.aplc_syntax.specs.declared.tree.Node.{Node}
use Rattle.aplc_syntax.specs.declared.tree.Form.TheVariants as v
use Rattle.aplc_syntax.specs.declared.tree.Statement.{Statement}
use Rattle.aplc_syntax.specs.declared.word.Word.{Word}
use Rattle.aplc_syntax.specs.Grammar.{M, arith1, not1, both1, turn1, reduce, call1, D, scalar2, both2, dyadic2, turn2, copies, outer, inner, call2, S, numbers, literal, variable, call0, text_input, nums_input, E, operand, before, between, assign, assign_at, show, O, simple, paren, index, L, last_gap, last_entry, gap, entry, Sentence, value, branch, perform0, perform1, perform2}
use Rattle.aplc_syntax.specs.PlainTrees.{trees_in, ids, trees_ids}
use Rattle.aplc_syntax.specs.Words.{text_between}
use Rattle.aplc_syntax.specs.Trees.{numbers_of, node, name_id, apply1, apply2, tree_S, tree_E, tree_O, trees_L, nodes_E, nodes_O, nodes_L, valued, statement_of, nodes_of}
use Rattle.aplc_syntax.proofs.PlainForms.{numbers_node, text_node, name_node, text_input_node, nums_input_node, mono_node, dyad_node, index_node, assign_node, assign_at_node, show_node, call_node}
use Rattle.aplc_syntax.specs.Programs.{node_ids, statement_ids, IsStatement, IsFunction, IsLine}
use Rattle.aplc_syntax.specs.Layout.{Block, Header, Row, blocks, headers, parts_of, sentence}
use Rattle.aplc_syntax.specs.declared.tree.Function.{Function}
use Rattle.aplc_syntax.specs.declared.tree.Line.{Line}
use Rattle.aplc_syntax.specs.declared.tree.Program.{Program}
use Rattle.aplc_names.specs.Programs.{IsParsed, HasSmallStatements}

abbrev size : Node → ℕ
size n = length (node_ids n)

abbrev sizes : List (Option Node) → ℕ
sizes xs = length (trees_ids (trees_in xs))

-- a node with two parts is one more than both
two : (a b : List ℕ) → length (a ++ b) + 1 ≡ 1 + (length a + length b)
two a b = let e : length (a ++ b) ≡ length a + length b = length-append a b in omega arith

size_Mono : (p : ℕ) (f : Primitive) (a : Node) → size (node p (v.Mono f a)) ≡ 1 + size a
size_Mono p f a = let h = ap (λ t. length (ids t)) (mono_node p f a) in omega arith

size_Dyad : (p : ℕ) (f : Primitive) (a b : Node) → size (node p (v.Dyad f a b)) ≡ 1 + (size a + size b)
size_Dyad p f a b = let h = ap (λ t. length (ids t)) (dyad_node p f a b) in let i = two (node_ids a) (node_ids b) in omega arith

size_Call0 : (p n : ℕ) → size (node p (v.Call (name_id n) None None)) ≡ 1
size_Call0 p n = ap (λ t. length (ids t)) (call_node p n None None)

size_Call1 : (p n : ℕ) (b : Node) → size (node p (v.Call (name_id n) None (Some b))) ≡ 1 + size b
size_Call1 p n b = let h = ap (λ t. length (ids t)) (call_node p n None (Some b)) in omega arith

size_Call2 : (p n : ℕ) (a b : Node) → size (node p (v.Call (name_id n) (Some a) (Some b))) ≡ 1 + (size a + size b)
size_Call2 p n a b = let h = ap (λ t. length (ids t)) (call_node p n (Some a) (Some b)) in let i = two (node_ids a) (node_ids b) in omega arith

size_Index : (p : ℕ) (a : Node) (xs : List (Option Node)) → size (node p (v.Index a xs)) ≡ 1 + (size a + sizes xs)
size_Index p a xs = let h = ap (λ t. length (ids t)) (index_node p a xs) in let i = two (node_ids a) (trees_ids (trees_in xs)) in omega arith

size_AssignAt : (p n : ℕ) (xs : List (Option Node)) (a : Node) → size (node p (v.AssignAt (name_id n) xs a)) ≡ 1 + (sizes xs + size a)
size_AssignAt p n xs a = let h = ap (λ t. length (ids t)) (assign_at_node p n xs a) in let i = two (trees_ids (trees_in xs)) (node_ids a) in omega arith

size_Assign : (p n : ℕ) (a : Node) → size (node p (v.Assign (name_id n) a)) ≡ 1 + size a
size_Assign p n a = let h = ap (λ t. length (ids t)) (assign_node p n a) in omega arith

size_Show : (p : ℕ) (a : Node) → size (node p (v.Show a)) ≡ 1 + size a
size_Show p a = let h = ap (λ t. length (ids t)) (show_node p a) in omega arith

size_apply1 : (m : M) (b : Node) → size (apply1 m b) ≡ 1 + size b
size_apply1 (arith1 p g) b = size_Mono p _ b
size_apply1 (not1 p) b = size_Mono p _ b
size_apply1 (both1 p g) b = size_Mono p _ b
size_apply1 (turn1 p a x) b = size_Mono p _ b
size_apply1 (reduce p g ps s a x) b = size_Mono p _ b
size_apply1 (call1 p n) b = size_Call1 p n b

size_apply2 : (d : D) (a b : Node) → size (apply2 d a b) ≡ 1 + (size a + size b)
size_apply2 (scalar2 p g) a b = size_Dyad p _ a b
size_apply2 (both2 p g) a b = size_Dyad p _ a b
size_apply2 (dyadic2 p g) a b = size_Dyad p _ a b
size_apply2 (turn2 p c x) a b = size_Dyad p _ a b
size_apply2 (copies p s c x) a b = size_Dyad p _ a b
size_apply2 (outer p pd pf g) a b = size_Dyad p _ a b
size_apply2 (inner p g pd ph h) a b = size_Dyad p _ a b
size_apply2 (call2 p n) a b = size_Call2 p n a b

size_S : (text : List ℕ) (s : S) → size (tree_S text s) ≡ 1
size_S text (numbers p x ns) = ap (λ t. length (ids t)) (numbers_node p (x ∷ numbers_of ns))
size_S text (literal p to) = ap (λ t. length (ids t)) (text_node p (text_between text p to))
size_S text (variable p n) = ap (λ t. length (ids t)) (name_node p n)
size_S text (call0 p n) = size_Call0 p n
size_S text (text_input p) = ap (λ t. length (ids t)) (text_input_node p)
size_S text (nums_input p) = ap (λ t. length (ids t)) (nums_input_node p)

plus : (k a b c d : ℕ) → a ≡ c → b ≡ d → k + (a + b) ≡ k + (c + d)
plus k a b c d e f = omega arith

both : (a b c d : ℕ) → a ≡ c → b ≡ d → a + b ≡ c + d
both a b c d e f = omega arith

mutual
  size_E : (text : List ℕ) (e : E) → size (tree_E text e) ≡ nodes_E e
  size_E text (operand o) = size_O text o
  size_E text (before m e) = size_apply1 m (tree_E text e) ∙ ap (λ n. 1 + n) (size_E text e)
  size_E text (between o d e) = size_apply2 d (tree_O text o) (tree_E text e) ∙ plus 1 (size (tree_O text o)) (size (tree_E text e)) (nodes_O o) (nodes_E e) (size_O text o) (size_E text e)
  size_E text (assign r p n pa e) = size_Assign p n (tree_E text e) ∙ ap (λ n. 1 + n) (size_E text e)
  size_E text (assign_at r p n pl l pa e) = size_AssignAt p n (trees_L text l) (tree_E text e) ∙ plus 1 (sizes (trees_L text l)) (size (tree_E text e)) (nodes_L l) (nodes_E e) (size_L text l) (size_E text e)
  size_E text (show p pa e) = size_Show p (tree_E text e) ∙ ap (λ n. 1 + n) (size_E text e)

  size_O : (text : List ℕ) (o : O) → size (tree_O text o) ≡ nodes_O o
  size_O text (simple s) = size_S text s
  size_O text (paren p e q) = size_E text e
  size_O text (index o p l) = size_Index p (tree_O text o) (trees_L text l) ∙ plus 1 (size (tree_O text o)) (sizes (trees_L text l)) (nodes_O o) (nodes_L l) (size_O text o) (size_L text l)

  size_L : (text : List ℕ) (l : L) → sizes (trees_L text l) ≡ nodes_L l
  size_L text (last_gap p) = refl
  size_L text (last_entry e p) = ap length (append-nil (node_ids (tree_E text e))) ∙ size_E text e
  size_L text (gap p l) = size_L text l
  size_L text (entry e p l) = length-append (node_ids (tree_E text e)) (trees_ids (trees_in (trees_L text l))) ∙ both (size (tree_E text e)) (sizes (trees_L text l)) (nodes_E e) (nodes_L l) (size_E text e) (size_L text l)

size_valued : (e : E) (x : Node) → length (statement_ids (valued e x)) ≡ size x
size_valued (operand o) x = refl
size_valued (before m e) x = refl
size_valued (between o d e) x = refl
size_valued (assign r p n pa e) x = refl
size_valued (assign_at r p n pl l pa e) x = refl
size_valued (show p pa e) x = refl

size_of : (text : List ℕ) (f : Sentence) → length (statement_ids (statement_of text f)) ≡ nodes_of f
size_of text (value e) = size_valued e (tree_E text e) ∙ size_E text e
size_of text (branch p e) = size_E text e
size_of text (perform0 p n) = size_Call0 p n
size_of text (perform1 p n e) = size_Call1 p n (tree_E text e) ∙ ap (λ n. 1 + n) (size_E text e)
size_of text (perform2 o p n e) = size_Call2 p n (tree_O text o) (tree_E text e) ∙ plus 1 (size (tree_O text o)) (size (tree_E text e)) (nodes_O o) (nodes_E e) (size_O text o) (size_E text e)

-- a statement has at most 256 nodes
pub few_nodes : (text : List ℕ) (ws : List Word) (s : Statement) → IsStatement text ws s → length (statement_ids s) ≤ 256
few_nodes text ws s (inl h) = let e : length (statement_ids s) ≡ 0 = ap (λ x. length (statement_ids x)) h.1 in omega arith
few_nodes text ws s (inr d) =
    let e : length (statement_ids s) ≡ nodes_of d.form = ap (λ x. length (statement_ids x)) d.tree ∙ size_of text d.form in
    let h : nodes_of d.form ≤ 256 = d.small in
    omega arith

-- ---- Programs

abbrev IsSmall : Line → Type 0
IsSmall l = length (statement_ids l.statement) ≤ 256

small_lines : (text : List ℕ) (hs : List Header) (rs : List Row) (ls : List Line) → AllZip (IsLine text hs) rs ls → All IsSmall ls
small_lines text hs [] [] z = All-nil IsSmall
small_lines text hs [] (l ∷ ls) z = absurd z
small_lines text hs (r ∷ rs) [] z = absurd z
small_lines text hs (r ∷ rs) (l ∷ ls) z = All-cons IsSmall l ls (few_nodes text (sentence hs r) l.statement z.0.statement) (small_lines text hs rs ls z.1)

abbrev IsSmallFunction : Function → Type 0
IsSmallFunction f = All IsSmall f.lines

small_functions : (text : List ℕ) (hs : List Header) (bs : List Block) (fs : List Function) → AllZip (IsFunction text hs) bs fs → All IsSmallFunction fs
small_functions text hs [] [] z = All-nil IsSmallFunction
small_functions text hs [] (f ∷ fs) z = absurd z
small_functions text hs (b ∷ bs) [] z = absurd z
small_functions text hs (b ∷ bs) (f ∷ fs) z = All-cons IsSmallFunction f fs (small_lines text hs b.body f.lines z.0.lines) (small_functions text hs bs fs z.1)

pub small_statements : (p : Program) → IsParsed p → HasSmallStatements p
small_statements p i = small_functions i.text (headers (parts_of i.text i.tokens)) (blocks (parts_of i.text i.tokens)) p.functions i.program.functions
