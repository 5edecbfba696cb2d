-- The steps of a form build its tree, and make as many nodes as it has.
use Rattle.std.proofs.Common.{◌≡◌, ℕ, List, [], ◌∷◌, ◌++◌, ℤ, Option, Some, None, refl, sym, ap, ◌∙◌, append_assoc, Bool, true, false}
use Rattle.std.specs.Prelude.{option_and_then}
use Rattle.aplc_syntax.specs.declared.tree.Form.TheVariants as v
use Rattle.aplc_syntax.specs.declared.tree.Node.{Node}
use Rattle.aplc_syntax.specs.declared.tree.Statement.{Statement}
use Rattle.aplc_syntax.specs.declared.tree.Statement.TheVariants as st
use Rattle.aplc_syntax.specs.declared.step.Step.{Step}
use Rattle.aplc_syntax.specs.declared.step.Step.TheVariants as s
use Rattle.aplc_syntax.specs.declared.word.Arity.TheVariants as arity
use Rattle.aplc_syntax.specs.declared.word.Role.{Role}
use Rattle.aplc_syntax.specs.declared.word.Role.TheVariants as role
use Rattle.aplc_syntax.specs.Grammar.{M, arith1, not1, both1, turn1, reduce, call1, D, scalar2, both2, dyadic2, turn2, copies, outer, inner, call2, N, no_number, number, S, numbers, literal, variable, call0, text_input, nums_input, E, operand, before, between, assign, assign_at, show, O, simple, paren, index, L, last_gap, last_entry, gap, entry, Sentence, value, branch, perform0, perform1, perform2}
use Rattle.aplc_syntax.specs.Trees.{node, name_id, numbers_of, apply1, apply2, tree_S, tree_E, tree_O, trees_L, valued, statement_of}
use Rattle.aplc_syntax.specs.Words.{text_between}
use Rattle.aplc_syntax.specs.Steps.{step_M, step_D, name_step, out_N, out_S, out_E, out_O, out_L, steps}
use Rattle.aplc_syntax.specs.Building.{Made, tree, named, vector, element, node_of, indexed_at, Built, built, put, act, act_on, acts, ended_by, last_step, ended, made_one, build}

-- ---- One step more

through : (f g h : Built → Option Built) → ((c : Built) → f c ≡ option_and_then h (g c)) → (c : Option Built) → option_and_then f c ≡ option_and_then h (option_and_then g c)
through f g h e None = refl
through f g h e (Some c) = e c

acts_append : (text : List ℕ) (xs ys : List Step) (b : Built) → acts text (xs ++ ys) b ≡ option_and_then (acts text ys) (acts text xs b)
acts_append text [] ys b = refl
acts_append text (x ∷ xs) ys b = through (acts text (xs ++ ys)) (acts text xs) (acts text ys) (λ c. acts_append text xs ys c) (act_on text x b)

more_act : (text : List ℕ) (xs : List Step) (b c : Built) (x : Step) → acts text xs b ≡ Some c → acts text (xs ++ x ∷ []) b ≡ act_on text x c
more_act text xs b c x h = acts_append text xs (x ∷ []) b ∙ ap (option_and_then (acts text (x ∷ []))) h ∙ alone (act_on text x c) where
  alone : (d : Option Built) → option_and_then (acts text []) d ≡ d
  alone None = refl
  alone (Some d) = refl

-- ---- What a form makes

made_S : List ℕ → S → Made
made_S text (numbers p x ns) = vector p (x ∷ numbers_of ns)
made_S text (literal p to) = tree (node p (v.Text (text_between text p to)))
made_S text (variable p n) = named false p n
made_S text (call0 p n) = named true p n
made_S text (text_input p) = tree (node p v.TextInput)
made_S text (nums_input p) = tree (node p v.NumsInput)

made_O : List ℕ → O → Made
made_O text (simple a) = made_S text a
made_O text (paren p e q) = tree (tree_E text e)
made_O text (index a p l) = indexed_at p (made_O text a) (trees_L text l)

made_E : List ℕ → E → Made
made_E text (operand a) = made_O text a
made_E text (before x e) = tree (apply1 x (tree_E text e))
made_E text (between a d e) = tree (apply2 d (tree_O text a) (tree_E text e))
made_E text (assign r p n pa e) = tree (node p (v.Assign (name_id n) (tree_E text e)))
made_E text (assign_at r p n pl l pa e) = tree (node p (v.AssignAt (name_id n) (trees_L text l) (tree_E text e)))
made_E text (show p pa e) = tree (node p (v.Show (tree_E text e)))

node_S : (text : List ℕ) (a : S) → node_of (made_S text a) ≡ tree_S text a
unfolding made_S
node_S text (numbers p x ns) = refl
node_S text (literal p to) = refl
node_S text (variable p n) = refl
node_S text (call0 p n) = refl
node_S text (text_input p) = refl
node_S text (nums_input p) = refl

node_index : (q : ℕ) (x : Made) (xs : List (Option Node)) → node_of (indexed_at q x xs) ≡ node q (v.Index (node_of x) xs)
node_index q (tree x) xs = refl
node_index q (named c p n) xs = refl
node_index q (vector p ys) xs = refl
node_index q (element c p n r ys) xs = refl

node_O : (text : List ℕ) (a : O) → node_of (made_O text a) ≡ tree_O text a
unfolding made_O
node_O text (simple a) = node_S text a
node_O text (paren p e q) = refl
node_O text (index a p l) = node_index p (made_O text a) (trees_L text l) ∙ ap (λ (x : Node). node p (v.Index x (trees_L text l))) (node_O text a)

node_E : (text : List ℕ) (e : E) → node_of (made_E text e) ≡ tree_E text e
unfolding made_E
node_E text (operand a) = node_O text a
node_E text (before x e) = refl
node_E text (between a d e) = refl
node_E text (assign r p n pa e) = refl
node_E text (assign_at r p n pl l pa e) = refl
node_E text (show p pa e) = refl

-- ---- What the steps of a form build

act_M : (text : List ℕ) (x : M) (a : Made) (xs : List Made) (ls : List (List (Option Node))) → act text (step_M x) (a ∷ xs) ls ≡ put (tree (apply1 x (node_of a))) xs ls
act_M text (arith1 p g) a xs ls = refl
act_M text (not1 p) a xs ls = refl
act_M text (both1 p g) a xs ls = refl
act_M text (turn1 p c x) a xs ls = refl
act_M text (reduce p g ps k c x) a xs ls = refl
act_M text (call1 p n) a xs ls = refl

act_D : (text : List ℕ) (d : D) (a b : Made) (xs : List Made) (ls : List (List (Option Node))) → act text (step_D d) (b ∷ a ∷ xs) ls ≡ put (tree (apply2 d (node_of a) (node_of b))) xs ls
act_D text (scalar2 p g) a b xs ls = refl
act_D text (both2 p g) a b xs ls = refl
act_D text (dyadic2 p g) a b xs ls = refl
act_D text (turn2 p c x) a b xs ls = refl
act_D text (copies p k c x) a b xs ls = refl
act_D text (outer pj pd p g) a b xs ls = refl
act_D text (inner p g pd ph h) a b xs ls = refl
act_D text (call2 p n) a b xs ls = refl

-- whether a name that is assigned is read as a call
is_called : Role → Bool
is_called (role.Function arity.Niladic) = true
is_called _ = false

act_name : (text : List ℕ) (r : Role) (p n : ℕ) (xs : List Made) (ls : List (List (Option Node))) → act text (name_step r p n) xs ls ≡ put (named (is_called r) p n) xs ls
unfolding is_called
act_name text role.Variable p n xs ls = refl
act_name text (role.Function arity.Niladic) p n xs ls = refl
act_name text (role.Function arity.Monadic) p n xs ls = refl
act_name text (role.Function arity.Dyadic) p n xs ls = refl
act_name text (role.Procedure a) p n xs ls = refl

build_N : (text : List ℕ) (ns : N) (out : List Step) (b : Built) (p : ℕ) (ys : List ℤ) (xs : List Made) (ls : List (List (Option Node)))
    → acts text out b ≡ put (vector p ys) xs ls → acts text (out_N ns out) b ≡ put (vector p (ys ++ numbers_of ns)) xs ls
build_N text no_number out b p ys xs ls h = h ∙ ap (λ (zs : List ℤ). put (vector p zs) xs ls) (sym (append_nil ys)) where
  append_nil : (zs : List ℤ) → zs ++ [] ≡ zs
  append_nil [] = refl
  append_nil (z ∷ zs) = ap (λ (us : List ℤ). z ∷ us) (append_nil zs)
build_N text (number q x ns) out b p ys xs ls h =
    build_N text ns (out ++ s.More x ∷ []) b p (ys ++ x ∷ []) xs ls (more_act text out b (built (vector p ys ∷ xs) ls) (s.More x) h)
    ∙ ap (λ (zs : List ℤ). put (vector p zs) xs ls) (append_assoc ys (x ∷ []) (numbers_of ns))

build_S : (text : List ℕ) (a : S) (out : List Step) (b : Built) (xs : List Made) (ls : List (List (Option Node)))
    → acts text out b ≡ Some (built xs ls) → acts text (out_S a out) b ≡ put (made_S text a) xs ls
unfolding made_S
build_S text (numbers p x ns) out b xs ls h = build_N text ns (out ++ s.Number p x ∷ []) b p (x ∷ []) xs ls (more_act text out b (built xs ls) (s.Number p x) h)
build_S text (literal p to) out b xs ls h = more_act text out b (built xs ls) (s.Text p to) h
build_S text (variable p n) out b xs ls h = more_act text out b (built xs ls) (s.Name p n) h
build_S text (call0 p n) out b xs ls h = more_act text out b (built xs ls) (s.Call0 p n) h
build_S text (text_input p) out b xs ls h = more_act text out b (built xs ls) (s.TextInput p) h
build_S text (nums_input p) out b xs ls h = more_act text out b (built xs ls) (s.NumsInput p) h

name_act : (text : List ℕ) (r : Role) (p n : ℕ) (out : List Step) (b : Built) (xs : List Made) (ls : List (List (Option Node)))
    → acts text out b ≡ Some (built xs ls) → acts text (out ++ name_step r p n ∷ []) b ≡ put (named (is_called r) p n) xs ls
name_act text r p n out b xs ls h = more_act text out b (built xs ls) (name_step r p n) h ∙ act_name text r p n xs ls

mutual
  unfolding made_E made_O

  build_E : (text : List ℕ) (e : E) (out : List Step) (b : Built) (xs : List Made) (ls : List (List (Option Node)))
      → acts text out b ≡ Some (built xs ls) → acts text (out_E e out) b ≡ put (made_E text e) xs ls
  build_E text (operand a) out b xs ls h = build_O text a out b xs ls h
  build_E text (before x e) out b xs ls h =
      more_act text (out_E e out) b (built (made_E text e ∷ xs) ls) (step_M x) (build_E text e out b xs ls h)
      ∙ act_M text x (made_E text e) xs ls
      ∙ ap (λ (y : Node). put (tree (apply1 x y)) xs ls) (node_E text e)
  build_E text (between a d e) out b xs ls h =
      more_act text (out_E e (out_O a out)) b (built (made_E text e ∷ made_O text a ∷ xs) ls) (step_D d) (build_E text e (out_O a out) b (made_O text a ∷ xs) ls (build_O text a out b xs ls h))
      ∙ act_D text d (made_O text a) (made_E text e) xs ls
      ∙ ap (λ (y : Node). put (tree (apply2 d y (node_of (made_E text e)))) xs ls) (node_O text a)
      ∙ ap (λ (y : Node). put (tree (apply2 d (tree_O text a) y)) xs ls) (node_E text e)
  build_E text (assign r p n pa e) out b xs ls h =
      more_act text (out_E e (out ++ name_step r p n ∷ [])) b (built (made_E text e ∷ named (is_called r) p n ∷ xs) ls) s.Assign
      (build_E text e (out ++ name_step r p n ∷ []) b (named (is_called r) p n ∷ xs) ls (name_act text r p n out b xs ls h))
      ∙ ap (λ (y : Node). put (tree (node p (v.Assign (name_id n) y))) xs ls) (node_E text e)
  build_E text (assign_at r p n pl l pa e) out b xs ls h =
      more_act text (out_E e (out_L l pl ((out ++ name_step r p n ∷ []) ++ s.List ∷ []))) b (built (made_E text e ∷ element (is_called r) p n pl (trees_L text l) ∷ xs) ls) s.AssignAt
      (build_E text e (out_L l pl ((out ++ name_step r p n ∷ []) ++ s.List ∷ [])) b (element (is_called r) p n pl (trees_L text l) ∷ xs) ls
      (build_L text l pl ((out ++ name_step r p n ∷ []) ++ s.List ∷ []) b (named (is_called r) p n) [] xs ls
      (more_act text (out ++ name_step r p n ∷ []) b (built (named (is_called r) p n ∷ xs) ls) s.List (name_act text r p n out b xs ls h))))
      ∙ ap (λ (y : Node). put (tree (node p (v.AssignAt (name_id n) (trees_L text l) y))) xs ls) (node_E text e)
  build_E text (show p pa e) out b xs ls h =
      more_act text (out_E e out) b (built (made_E text e ∷ xs) ls) (s.Show p) (build_E text e out b xs ls h)
      ∙ ap (λ (y : Node). put (tree (node p (v.Show y))) xs ls) (node_E text e)

  build_O : (text : List ℕ) (a : O) (out : List Step) (b : Built) (xs : List Made) (ls : List (List (Option Node)))
      → acts text out b ≡ Some (built xs ls) → acts text (out_O a out) b ≡ put (made_O text a) xs ls
  build_O text (simple a) out b xs ls h = build_S text a out b xs ls h
  build_O text (paren p e q) out b xs ls h =
      more_act text (out_E e out) b (built (made_E text e ∷ xs) ls) s.Paren (build_E text e out b xs ls h)
      ∙ ap (λ (y : Node). put (tree y) xs ls) (node_E text e)
  build_O text (index a p l) out b xs ls h =
      build_L text l p (out_O a out ++ s.List ∷ []) b (made_O text a) [] xs ls
      (more_act text (out_O a out) b (built (made_O text a ∷ xs) ls) s.List (build_O text a out b xs ls h))

  build_L : (text : List ℕ) (l : L) (q : ℕ) (out : List Step) (b : Built) (a : Made) (ys : List (Option Node)) (xs : List Made) (ls : List (List (Option Node)))
      → acts text out b ≡ Some (built (a ∷ xs) (ys ∷ ls)) → acts text (out_L l q out) b ≡ put (indexed_at q a (ys ++ trees_L text l)) xs ls
  build_L text (last_gap p) q out b a ys xs ls h =
      more_act text (out ++ s.Gap ∷ []) b (built (a ∷ xs) ((ys ++ None ∷ []) ∷ ls)) (s.Index q) (more_act text out b (built (a ∷ xs) (ys ∷ ls)) s.Gap h)
  build_L text (last_entry e p) q out b a ys xs ls h =
      more_act text (out_E e out ++ s.Entry ∷ []) b (built (a ∷ xs) ((ys ++ Some (node_of (made_E text e)) ∷ []) ∷ ls)) (s.Index q)
      (more_act text (out_E e out) b (built (made_E text e ∷ a ∷ xs) (ys ∷ ls)) s.Entry (build_E text e out b (a ∷ xs) (ys ∷ ls) h))
      ∙ ap (λ (y : Node). put (indexed_at q a (ys ++ Some y ∷ [])) xs ls) (node_E text e)
  build_L text (gap p l) q out b a ys xs ls h =
      build_L text l q (out ++ s.Gap ∷ []) b a (ys ++ None ∷ []) xs ls (more_act text out b (built (a ∷ xs) (ys ∷ ls)) s.Gap h)
      ∙ ap (λ (zs : List (Option Node)). put (indexed_at q a zs) xs ls) (append_assoc ys (None ∷ []) (trees_L text l))
  build_L text (entry e p l) q out b a ys xs ls h =
      build_L text l q (out_E e out ++ s.Entry ∷ []) b a (ys ++ Some (node_of (made_E text e)) ∷ []) xs ls
      (more_act text (out_E e out) b (built (made_E text e ∷ a ∷ xs) (ys ∷ ls)) s.Entry (build_E text e out b (a ∷ xs) (ys ∷ ls) h))
      ∙ ap (λ (zs : List (Option Node)). put (indexed_at q a zs) xs ls) (append_assoc ys (Some (node_of (made_E text e)) ∷ []) (trees_L text l))
      ∙ ap (λ (y : Node). put (indexed_at q a (ys ++ Some y ∷ trees_L text l)) xs ls) (node_E text e)

-- ---- The last step

last_more : (y x : Step) (ys : List Step) → last_step y (ys ++ x ∷ []) ≡ x
last_more y x [] = refl
last_more y x (z ∷ zs) = last_more z x zs

ended_more : (xs : List Step) (x : Step) (n : Node) → ended (xs ++ x ∷ []) n ≡ ended_by x n
ended_more [] x n = refl
ended_more (y ∷ ys) x n = ap (λ (z : Step). ended_by z n) (last_more y x ys)

shown_N : (ns : N) (out : List Step) (n : Node) → ended out n ≡ st.Display n → ended (out_N ns out) n ≡ st.Display n
shown_N no_number out n h = h
shown_N (number p x ns) out n h = shown_N ns (out ++ s.More x ∷ []) n (ended_more out (s.More x) n)

shown_S : (a : S) (out : List Step) (n : Node) → ended (out_S a out) n ≡ st.Display n
shown_S (numbers p x ns) out n = shown_N ns (out ++ s.Number p x ∷ []) n (ended_more out (s.Number p x) n)
shown_S (literal p to) out n = ended_more out (s.Text p to) n
shown_S (variable p m) out n = ended_more out (s.Name p m) n
shown_S (call0 p m) out n = ended_more out (s.Call0 p m) n
shown_S (text_input p) out n = ended_more out (s.TextInput p) n
shown_S (nums_input p) out n = ended_more out (s.NumsInput p) n

shown_L : (l : L) (q : ℕ) (out : List Step) (n : Node) → ended (out_L l q out) n ≡ st.Display n
shown_L (last_gap p) q out n = ended_more (out ++ s.Gap ∷ []) (s.Index q) n
shown_L (last_entry e p) q out n = ended_more (out_E e out ++ s.Entry ∷ []) (s.Index q) n
shown_L (gap p l) q out n = shown_L l q (out ++ s.Gap ∷ []) n
shown_L (entry e p l) q out n = shown_L l q (out_E e out ++ s.Entry ∷ []) n

shown_O : (a : O) (out : List Step) (n : Node) → ended (out_O a out) n ≡ st.Display n
shown_O (simple a) out n = shown_S a out n
shown_O (paren p e q) out n = ended_more (out_E e out) s.Paren n
shown_O (index a p l) out n = shown_L l p (out_O a out ++ s.List ∷ []) n

shown_M : (x : M) (n : Node) → ended_by (step_M x) n ≡ st.Display n
shown_M (arith1 p g) n = refl
shown_M (not1 p) n = refl
shown_M (both1 p g) n = refl
shown_M (turn1 p c x) n = refl
shown_M (reduce p g ps k c x) n = refl
shown_M (call1 p m) n = refl

shown_D : (d : D) (n : Node) → ended_by (step_D d) n ≡ st.Display n
shown_D (scalar2 p g) n = refl
shown_D (both2 p g) n = refl
shown_D (dyadic2 p g) n = refl
shown_D (turn2 p c x) n = refl
shown_D (copies p k c x) n = refl
shown_D (outer pj pd p g) n = refl
shown_D (inner p g pd ph h) n = refl
shown_D (call2 p m) n = refl

ended_E : (e : E) (n : Node) → ended (out_E e []) n ≡ valued e n
ended_E (operand a) n = shown_O a [] n
ended_E (before x e) n = ended_more (out_E e []) (step_M x) n ∙ shown_M x n
ended_E (between a d e) n = ended_more (out_E e (out_O a [])) (step_D d) n ∙ shown_D d n
ended_E (assign r p m pa e) n = ended_more (out_E e (name_step r p m ∷ [])) s.Assign n
ended_E (assign_at r p m pl l pa e) n = ended_more (out_E e (out_L l pl (name_step r p m ∷ s.List ∷ []))) s.AssignAt n
ended_E (show p pa e) n = ended_more (out_E e []) (s.Show p) n

-- ---- Statements

made_whole : (text : List ℕ) (xs : List Step) (a : Made) (x : Statement) → acts text xs (built [] []) ≡ put a [] [] → ended xs (node_of a) ≡ x → build text xs ≡ Some x
made_whole text xs a x h e = ap (option_and_then (λ (b : Built). made_one xs b.made)) h ∙ ap (λ (y : Statement). let z : Option Statement = Some y in z) e

nothing_yet : (text : List ℕ) → acts text [] (built [] []) ≡ Some (built [] [])
nothing_yet text = refl

-- the steps of a statement build it
pub build_steps : (text : List ℕ) (x : Sentence) → build text (steps x) ≡ Some (statement_of text x)
build_steps text (value e) = made_whole text (out_E e []) (made_E text e) (valued e (tree_E text e)) (build_E text e [] (built [] []) [] [] refl)
    (ended_E e (node_of (made_E text e)) ∙ ap (valued e) (node_E text e))
build_steps text (branch p e) = made_whole text (out_E e [] ++ s.Branch p ∷ []) (made_E text e) (st.Branch p (tree_E text e))
    (more_act text (out_E e []) (built [] []) (built (made_E text e ∷ []) []) (s.Branch p) (build_E text e [] (built [] []) [] [] refl))
    (ended_more (out_E e []) (s.Branch p) (node_of (made_E text e)) ∙ ap (st.Branch p) (node_E text e))
build_steps text (perform0 p n) = refl
build_steps text (perform1 p n e) = made_whole text (out_E e [] ++ s.Perform1 p n ∷ []) (tree (node p (v.Call (name_id n) None (Some (tree_E text e))))) (st.Quiet (node p (v.Call (name_id n) None (Some (tree_E text e)))))
    (more_act text (out_E e []) (built [] []) (built (made_E text e ∷ []) []) (s.Perform1 p n) (build_E text e [] (built [] []) [] [] refl)
    ∙ ap (λ (y : Node). put (tree (node p (v.Call (name_id n) None (Some y)))) [] []) (node_E text e))
    (ended_more (out_E e []) (s.Perform1 p n) (node p (v.Call (name_id n) None (Some (tree_E text e)))))
build_steps text (perform2 a p n e) = made_whole text (out_E e (out_O a []) ++ s.Perform2 p n ∷ []) (tree (node p (v.Call (name_id n) (Some (tree_O text a)) (Some (tree_E text e)))))
    (st.Quiet (node p (v.Call (name_id n) (Some (tree_O text a)) (Some (tree_E text e)))))
    (more_act text (out_E e (out_O a [])) (built [] []) (built (made_E text e ∷ made_O text a ∷ []) []) (s.Perform2 p n)
    (build_E text e (out_O a []) (built [] []) (made_O text a ∷ []) [] (build_O text a [] (built [] []) [] [] refl))
    ∙ ap (λ (y : Node). put (tree (node p (v.Call (name_id n) (Some y) (Some (node_of (made_E text e)))))) [] []) (node_O text a)
    ∙ ap (λ (y : Node). put (tree (node p (v.Call (name_id n) (Some (tree_O text a)) (Some y)))) [] []) (node_E text e))
    (ended_more (out_E e (out_O a [])) (s.Perform2 p n) (node p (v.Call (name_id n) (Some (tree_O text a)) (Some (tree_E text e)))))
