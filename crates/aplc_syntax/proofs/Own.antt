-- The numbers of the nodes of a statement are the places of words, and no word serves for two of them.
use Rattle.std.proofs.Common.{◌≡◌, ℕ, ◌+◌, ◌≤◌, List, [], ◌∷◌, ◌++◌, Option, Some, None, refl, sym, ap, ◌∙◌, subst, inl, inr, arith, nat_eq, cond}
use Rattle.aplc_scalar.specs.declared.function.ScalarFn.TheVariants as f
use Rattle.aplc_syntax.specs.declared.tree.Primitive.{Primitive}
use Rattle.aplc_syntax.specs.declared.tree.Primitive.TheVariants as pr
use Rattle.aplc_syntax.specs.declared.tree.Form.{Form}
use Rattle.aplc_syntax.specs.declared.tree.Form.TheVariants as v
use Rattle.aplc_syntax.specs.declared.tree.Node.{Node}
use Rattle.aplc_syntax.specs.declared.tree.Statement.{Statement}
use Rattle.aplc_syntax.specs.declared.word.Arity.TheVariants as arity
use Rattle.aplc_syntax.specs.declared.word.Role.TheVariants as role
use Rattle.aplc_syntax.specs.declared.word.Word.{Word}
use Rattle.aplc_syntax.specs.declared.word.WordKind.TheVariants as w
use Rattle.aplc_syntax.specs.Grammar.{F, arith_fn, compare_fn, X, no_axis, axis, M, arith1, not1, both1, turn1, reduce, call1, D, scalar2, both2, dyadic2, turn2, copies, outer, inner, call2, N, no_number, number, S, numbers, literal, variable, call0, text_input, nums_input, E, operand, before, between, assign, assign_at, show, O, simple, paren, index, L, last_gap, last_entry, gap, entry, Sentence, value, branch, perform0, perform1, perform2, spell, spell_F, spell_X, spell_M, spell_D, spell_N, spell_S, spell_E, spell_O, spell_L}
use Rattle.aplc_syntax.specs.Words.{word, text_between}
use Rattle.aplc_syntax.specs.Trees.{node, name_id, scalar_of, axis_of, reduction, copying, numbers_of, apply1, apply2, tree_S, tree_E, tree_O, trees_L, valued, statement_of}
use Rattle.aplc_syntax.specs.PlainTrees.{tree_of, trees_in, ids, trees_ids}
use Rattle.aplc_syntax.specs.Programs.{IsStatement, node_ids, statement_ids}
use Rattle.aplc_syntax.proofs.PlainForms.{numbers_node, text_node, name_node, text_input_node, nums_input_node, mono_node, dyad_node, index_node, assign_node, assign_at_node, show_node, call_node}

-- ---- Counting

-- 1 if they are the same, and else 0
unfoldable pub one_at : ℕ → ℕ → ℕ
one_at q p = cond (nat_eq q p) 1 0

-- how many of these are q
abbrev pub cnt : ℕ → List ℕ → ℕ
cnt q [] = 0
cnt q (p ∷ ps) = one_at q p + cnt q ps

pub cnt_append : (q : ℕ) (xs ys : List ℕ) → cnt q (xs ++ ys) ≡ cnt q xs + cnt q ys
cnt_append q [] ys = omega arith
cnt_append q (x ∷ xs) ys = let h = cnt_append q xs ys in omega arith

-- how many words have place q
abbrev pub at : ℕ → List Word → ℕ
at q [] = 0
at q (x ∷ xs) = one_at q x.place + at q xs

-- how many nodes of a tree have number q
pub count : ℕ → Node → ℕ
count q n = cnt q (node_ids n)

-- and how many in the places of an index list
abbrev pub count_all : ℕ → List (Option Node) → ℕ
count_all q xs = cnt q (trees_ids (trees_in xs))

cnt_entry : (q : ℕ) (n : Node) (xs : List (Option Node)) → count_all q (Some n ∷ xs) ≡ count q n + count_all q xs
unfolding count
cnt_entry q n xs = cnt_append q (node_ids n) (trees_ids (trees_in xs))

-- ---- How many each form has

plain_count : (q p : ℕ) (f : Form) → ids (tree_of (node p f)) ≡ p ∷ [] → count q (node p f) ≡ one_at q p + 0
unfolding count
plain_count q p f e = ap (cnt q) e

mono_count : (q p : ℕ) (g : Primitive) (a : Node) → count q (node p (v.Mono g a)) ≡ one_at q p + count q a
unfolding count
mono_count q p g a = ap (λ t. cnt q (ids t)) (mono_node p g a)

assign_count : (q p n : ℕ) (a : Node) → count q (node p (v.Assign (name_id n) a)) ≡ one_at q p + count q a
unfolding count
assign_count q p n a = ap (λ t. cnt q (ids t)) (assign_node p n a)

show_count : (q p : ℕ) (a : Node) → count q (node p (v.Show a)) ≡ one_at q p + count q a
unfolding count
show_count q p a = ap (λ t. cnt q (ids t)) (show_node p a)

dyad_count : (q p : ℕ) (g : Primitive) (a b : Node) → count q (node p (v.Dyad g a b)) ≡ one_at q p + (count q a + count q b)
unfolding count
dyad_count q p g a b = ap (λ t. cnt q (ids t)) (dyad_node p g a b) ∙ ap (λ (m : ℕ). one_at q p + m) (cnt_append q (node_ids a) (node_ids b))

call0_count : (q p n : ℕ) → count q (node p (v.Call (name_id n) None None)) ≡ one_at q p + 0
unfolding count
call0_count q p n = ap (λ t. cnt q (ids t)) (call_node p n None None)

call1_count : (q p n : ℕ) (b : Node) → count q (node p (v.Call (name_id n) None (Some b))) ≡ one_at q p + count q b
unfolding count
call1_count q p n b = ap (λ t. cnt q (ids t)) (call_node p n None (Some b))

call2_count : (q p n : ℕ) (a b : Node) → count q (node p (v.Call (name_id n) (Some a) (Some b))) ≡ one_at q p + (count q a + count q b)
unfolding count
call2_count q p n a b = ap (λ t. cnt q (ids t)) (call_node p n (Some a) (Some b)) ∙ ap (λ (m : ℕ). one_at q p + m) (cnt_append q (node_ids a) (node_ids b))

index_count : (q p : ℕ) (a : Node) (xs : List (Option Node)) → count q (node p (v.Index a xs)) ≡ one_at q p + (count q a + count_all q xs)
unfolding count
index_count q p a xs = ap (λ t. cnt q (ids t)) (index_node p a xs) ∙ ap (λ (m : ℕ). one_at q p + m) (cnt_append q (node_ids a) (trees_ids (trees_in xs)))

assign_at_count : (q p n : ℕ) (xs : List (Option Node)) (a : Node) → count q (node p (v.AssignAt (name_id n) xs a)) ≡ one_at q p + (count_all q xs + count q a)
unfolding count
assign_at_count q p n xs a = ap (λ t. cnt q (ids t)) (assign_at_node p n xs a) ∙ ap (λ (m : ℕ). one_at q p + m) (cnt_append q (trees_ids (trees_in xs)) (node_ids a))

-- ---- The words of each form

own_F : (q : ℕ) (g : F) (p : ℕ) (k : List Word) → one_at q p + at q k ≤ at q (spell_F g p k)
own_F q (arith_fn g) p k = omega arith
own_F q (compare_fn g) p k = omega arith

own_X : (q : ℕ) (x : X) (k : List Word) → at q k ≤ at q (spell_X x k)
own_X q no_axis k = omega arith
own_X q (axis pl pn pr n) k = omega arith

own_M : (q : ℕ) (x : M) (b : Node) (k : List Word) → count q (apply1 x b) + at q k ≤ count q b + at q (spell_M x k)
own_M q (arith1 p g) b k = let h = mono_count q p (pr.Scalar g) b in omega arith
own_M q (not1 p) b k = let h = mono_count q p (pr.Scalar f.Not) b in omega arith
own_M q (both1 p g) b k = let h = mono_count q p g b in omega arith
own_M q (turn1 p a x) b k = let h = mono_count q p (pr.Reverse (axis_of a x)) b in let i = own_X q x k in omega arith
own_M q (reduce p g ps s a x) b k =
    let h = mono_count q p (reduction s (scalar_of g) (axis_of a x)) b in let i = own_X q x k in let j = own_F q g p (word (w.Stroke s a) ps ∷ spell_X x k) in omega arith
own_M q (call1 p n) b k = let h = call1_count q p n b in omega arith

own_D : (q : ℕ) (d : D) (a b : Node) (k : List Word) → count q (apply2 d a b) + at q k ≤ (count q a + count q b) + at q (spell_D d k)
own_D q (scalar2 p g) a b k = let h = dyad_count q p (pr.Scalar (scalar_of g)) a b in let i = own_F q g p k in omega arith
own_D q (both2 p g) a b k = let h = dyad_count q p g a b in omega arith
own_D q (dyadic2 p g) a b k = let h = dyad_count q p g a b in omega arith
own_D q (turn2 p c x) a b k = let h = dyad_count q p (pr.Reverse (axis_of c x)) a b in let i = own_X q x k in omega arith
own_D q (copies p s c x) a b k = let h = dyad_count q p (copying s (axis_of c x)) a b in let i = own_X q x k in omega arith
own_D q (outer p pd pf g) a b k = let h = dyad_count q p (pr.Outer (scalar_of g)) a b in let i = own_F q g pf k in omega arith
own_D q (inner p g pd ph j) a b k =
    let h = dyad_count q p (pr.Inner (scalar_of g) (scalar_of j)) a b in let i = own_F q j ph k in let l = own_F q g p (word w.Dot pd ∷ spell_F j ph k) in omega arith
own_D q (call2 p n) a b k = let h = call2_count q p n a b in omega arith

own_N : (q : ℕ) (ns : N) (k : List Word) → at q k ≤ at q (spell_N ns k)
own_N q no_number k = omega arith
own_N q (number p x ns) k = let h = own_N q ns k in omega arith

own_S : (text : List ℕ) (q : ℕ) (a : S) (k : List Word) → count q (tree_S text a) + at q k ≤ at q (spell_S a k)
own_S text q (numbers p x ns) k = let h = plain_count q p (v.Numbers (x ∷ numbers_of ns)) (ap ids (numbers_node p (x ∷ numbers_of ns))) in let i = own_N q ns k in omega arith
own_S text q (literal p to) k = let h = plain_count q p (v.Text (text_between text p to)) (ap ids (text_node p (text_between text p to))) in omega arith
own_S text q (variable p n) k = let h = plain_count q p (v.Name (name_id n)) (ap ids (name_node p n)) in omega arith
own_S text q (call0 p n) k = let h = call0_count q p n in omega arith
own_S text q (text_input p) k = let h = plain_count q p v.TextInput (ap ids (text_input_node p)) in omega arith
own_S text q (nums_input p) k = let h = plain_count q p v.NumsInput (ap ids (nums_input_node p)) in omega arith

mutual
  own_E : (text : List ℕ) (q : ℕ) (e : E) (k : List Word) → count q (tree_E text e) + at q k ≤ at q (spell_E e k)
  own_E text q (operand a) k = own_O text q a k
  own_E text q (before x e) k = let h = own_M q x (tree_E text e) (spell_E e k) in let i = own_E text q e k in omega arith
  own_E text q (between a d e) k =
      let h = own_D q d (tree_O text a) (tree_E text e) (spell_E e k) in let i = own_E text q e k in let j = own_O text q a (spell_D d (spell_E e k)) in omega arith
  own_E text q (assign r p n pa e) k = let h = assign_count q p n (tree_E text e) in let i = own_E text q e k in omega arith
  own_E text q (assign_at r p n pl l pa e) k =
      let h = assign_at_count q p n (trees_L text l) (tree_E text e) in let i = own_E text q e k in let j = own_L text q l (word w.Assign pa ∷ spell_E e k) in omega arith
  own_E text q (show p pa e) k = let h = show_count q p (tree_E text e) in let i = own_E text q e k in omega arith

  own_O : (text : List ℕ) (q : ℕ) (a : O) (k : List Word) → count q (tree_O text a) + at q k ≤ at q (spell_O a k)
  own_O text q (simple a) k = own_S text q a k
  own_O text q (paren p e r) k = let i = own_E text q e (word w.Close r ∷ k) in omega arith
  own_O text q (index a p l) k =
      let h = index_count q p (tree_O text a) (trees_L text l) in let i = own_O text q a (word w.OpenBracket p ∷ spell_L l k) in let j = own_L text q l k in omega arith

  own_L : (text : List ℕ) (q : ℕ) (l : L) (k : List Word) → count_all q (trees_L text l) + at q k ≤ at q (spell_L l k)
  own_L text q (last_gap p) k = omega arith
  own_L text q (last_entry e p) k = let h = own_E text q e (word w.CloseBracket p ∷ k) in let i = cnt_entry q (tree_E text e) [] in omega arith
  own_L text q (gap p l) k = let h = own_L text q l k in omega arith
  own_L text q (entry e p l) k = let h = own_E text q e (word w.Semicolon p ∷ spell_L l k) in let i = own_L text q l k in let j = cnt_entry q (tree_E text e) (trees_L text l) in omega arith

-- ---- Statements

valued_ids : (e : E) (n : Node) → statement_ids (valued e n) ≡ node_ids n
valued_ids (operand a) n = refl
valued_ids (before x e) n = refl
valued_ids (between a d e) n = refl
valued_ids (assign r p m pa e) n = refl
valued_ids (assign_at r p m pl l pa e) n = refl
valued_ids (show p pa e) n = refl

own_alone : (text : List ℕ) (q : ℕ) (e : E) → count q (tree_E text e) ≤ at q (spell_E e [])
own_alone text q e = let h = own_E text q e [] in omega arith

-- no more nodes have number q than words have place q
own : (text : List ℕ) (q : ℕ) (x : Sentence) → cnt q (statement_ids (statement_of text x)) ≤ at q (spell x)
unfolding count
own text q (value e) = let h = own_alone text q e in let i : cnt q (statement_ids (valued e (tree_E text e))) ≡ cnt q (node_ids (tree_E text e)) = ap (cnt q) (valued_ids e (tree_E text e)) in omega arith
own text q (branch p e) = let h = own_alone text q e in omega arith
own text q (perform0 p n) = let h = call0_count q p n in omega arith
own text q (perform1 p n e) = let h = call1_count q p n (tree_E text e) in let i = own_alone text q e in omega arith
own text q (perform2 a p n e) = let h = call2_count q p n (tree_O text a) (tree_E text e) in let i = own_alone text q e in
    let j = own_O text q a (word (w.Name (role.Procedure arity.Dyadic) n) p ∷ spell_E e []) in omega arith

pub own_statement : (text : List ℕ) (q : ℕ) (ws : List Word) (s : Statement) → IsStatement text ws s → cnt q (statement_ids s) ≤ at q ws
own_statement text q ws s (inl h) = let e : cnt q (statement_ids s) ≡ 0 = ap (λ (t : Statement). cnt q (statement_ids t)) h.1 in omega arith
own_statement text q ws s (inr h) = subst (λ (t : Statement). cnt q (statement_ids t) ≤ at q ws) (sym h.tree)
    (subst (λ (us : List Word). cnt q (statement_ids (statement_of text h.form)) ≤ at q us) (sym h.spelled) (own text q h.form))
