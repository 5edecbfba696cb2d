-- The steps of a form make as many nodes as it has.
use Rattle.std.proofs.Common.{◌≡◌, ℕ, ◌+◌, List, [], ◌∷◌, ◌++◌, refl, ◌∙◌, arith}
use Rattle.aplc_syntax.specs.declared.step.Step.{Step}
use Rattle.aplc_syntax.specs.declared.step.Step.TheVariants as s
use Rattle.aplc_syntax.specs.declared.word.Arity.TheVariants as arity
use Rattle.aplc_syntax.specs.declared.word.Role.{Role}
use Rattle.aplc_syntax.specs.declared.word.Role.TheVariants as role
use Rattle.aplc_syntax.specs.Grammar.{M, arith1, not1, both1, turn1, reduce, call1, D, scalar2, both2, dyadic2, turn2, copies, outer, inner, call2, N, no_number, number, S, numbers, literal, variable, call0, text_input, nums_input, E, operand, before, between, assign, assign_at, show, O, simple, paren, index, L, last_gap, last_entry, gap, entry, Sentence, value, branch, perform0, perform1, perform2}
use Rattle.aplc_syntax.specs.Trees.{nodes_E, nodes_O, nodes_L, nodes_of}
use Rattle.aplc_syntax.specs.Steps.{step_M, step_D, name_step, out_N, out_S, out_E, out_O, out_L, steps}
use Rattle.aplc_syntax.specs.Building.{counted, count_from}

count_more : (n : ℕ) (xs : List Step) (x : Step) → count_from n (xs ++ x ∷ []) ≡ counted x (count_from n xs)
count_more n [] x = refl
count_more n (y ∷ ys) x = count_more (counted y n) ys x

count_M : (x : M) (n : ℕ) → counted (step_M x) n ≡ n + 1
count_M (arith1 p g) n = refl
count_M (not1 p) n = refl
count_M (both1 p g) n = refl
count_M (turn1 p c x) n = refl
count_M (reduce p g ps k c x) n = refl
count_M (call1 p m) n = refl

count_D : (d : D) (n : ℕ) → counted (step_D d) n ≡ n + 1
count_D (scalar2 p g) n = refl
count_D (both2 p g) n = refl
count_D (dyadic2 p g) n = refl
count_D (turn2 p c x) n = refl
count_D (copies p k c x) n = refl
count_D (outer pj pd p g) n = refl
count_D (inner p g pd ph h) n = refl
count_D (call2 p m) n = refl

count_name : (r : Role) (p m n : ℕ) → counted (name_step r p m) n ≡ n + 1
count_name role.Variable p m n = refl
count_name (role.Function arity.Niladic) p m n = refl
count_name (role.Function arity.Monadic) p m n = refl
count_name (role.Function arity.Dyadic) p m n = refl
count_name (role.Procedure a) p m n = refl

count_N : (ns : N) (n : ℕ) (out : List Step) → count_from n (out_N ns out) ≡ count_from n out
count_N no_number n out = refl
count_N (number p x ns) n out = count_N ns n (out ++ s.More x ∷ []) ∙ count_more n out (s.More x)

count_S : (a : S) (n : ℕ) (out : List Step) → count_from n (out_S a out) ≡ count_from n out + 1
count_S (numbers p x ns) n out = count_N ns n (out ++ s.Number p x ∷ []) ∙ count_more n out (s.Number p x)
count_S (literal p to) n out = count_more n out (s.Text p to)
count_S (variable p m) n out = count_more n out (s.Name p m)
count_S (call0 p m) n out = count_more n out (s.Call0 p m)
count_S (text_input p) n out = count_more n out (s.TextInput p)
count_S (nums_input p) n out = count_more n out (s.NumsInput p)

mutual
  count_E : (e : E) (n : ℕ) (out : List Step) → count_from n (out_E e out) ≡ count_from n out + nodes_E e
  count_E (operand a) n out = count_O a n out
  count_E (before x e) n out = let i : count_from n (out_E e out) ≡ count_from n out + nodes_E e = count_E e n out in
      count_more n (out_E e out) (step_M x) ∙ count_M x (count_from n (out_E e out)) ∙ omega (arith, i)
  count_E (between a d e) n out = let i : count_from n (out_E e (out_O a out)) ≡ count_from n (out_O a out) + nodes_E e = count_E e n (out_O a out) in
      let j : count_from n (out_O a out) ≡ count_from n out + nodes_O a = count_O a n out in
      count_more n (out_E e (out_O a out)) (step_D d) ∙ count_D d (count_from n (out_E e (out_O a out))) ∙ omega (arith, i, j)
  count_E (assign r p m pa e) n out = let i : count_from n (out_E e (out ++ name_step r p m ∷ [])) ≡ count_from n (out ++ name_step r p m ∷ []) + nodes_E e = count_E e n (out ++ name_step r p m ∷ []) in
      let j : count_from n (out ++ name_step r p m ∷ []) ≡ count_from n out + 1 = count_more n out (name_step r p m) ∙ count_name r p m (count_from n out) in
      count_more n (out_E e (out ++ name_step r p m ∷ [])) s.Assign ∙ omega (arith, i, j)
  count_E (assign_at r p m pl l pa e) n out =
      let us : List Step = (out ++ name_step r p m ∷ []) ++ s.List ∷ [] in
      let i : count_from n (out_E e (out_L l pl us)) ≡ count_from n (out_L l pl us) + nodes_E e = count_E e n (out_L l pl us) in
      let j : count_from n (out_L l pl us) ≡ count_from n us + nodes_L l + 1 = count_L l pl n us in
      let k : count_from n us ≡ count_from n out + 1 = count_more n (out ++ name_step r p m ∷ []) s.List ∙ count_more n out (name_step r p m) ∙ count_name r p m (count_from n out) in
      count_more n (out_E e (out_L l pl us)) s.AssignAt ∙ omega (arith, i, j, k)
  count_E (show p pa e) n out = let i : count_from n (out_E e out) ≡ count_from n out + nodes_E e = count_E e n out in
      count_more n (out_E e out) (s.Show p) ∙ omega (arith, i)

  count_O : (a : O) (n : ℕ) (out : List Step) → count_from n (out_O a out) ≡ count_from n out + nodes_O a
  count_O (simple a) n out = count_S a n out
  count_O (paren p e q) n out = count_more n (out_E e out) s.Paren ∙ count_E e n out
  count_O (index a p l) n out = let i : count_from n (out_L l p (out_O a out ++ s.List ∷ [])) ≡ count_from n (out_O a out ++ s.List ∷ []) + nodes_L l + 1 = count_L l p n (out_O a out ++ s.List ∷ []) in
      let j : count_from n (out_O a out ++ s.List ∷ []) ≡ count_from n (out_O a out) = count_more n (out_O a out) s.List in
      let k : count_from n (out_O a out) ≡ count_from n out + nodes_O a = count_O a n out in
      omega (arith, i, j, k)

  count_L : (l : L) (q n : ℕ) (out : List Step) → count_from n (out_L l q out) ≡ count_from n out + nodes_L l + 1
  count_L (last_gap p) q n out = let i : count_from n (out ++ s.Gap ∷ []) ≡ count_from n out = count_more n out s.Gap in
      count_more n (out ++ s.Gap ∷ []) (s.Index q) ∙ omega (arith, i)
  count_L (last_entry e p) q n out = let i : count_from n (out_E e out ++ s.Entry ∷ []) ≡ count_from n (out_E e out) = count_more n (out_E e out) s.Entry in
      let j : count_from n (out_E e out) ≡ count_from n out + nodes_E e = count_E e n out in
      count_more n (out_E e out ++ s.Entry ∷ []) (s.Index q) ∙ omega (arith, i, j)
  count_L (gap p l) q n out = let i : count_from n (out_L l q (out ++ s.Gap ∷ [])) ≡ count_from n (out ++ s.Gap ∷ []) + nodes_L l + 1 = count_L l q n (out ++ s.Gap ∷ []) in
      let j : count_from n (out ++ s.Gap ∷ []) ≡ count_from n out = count_more n out s.Gap in omega (arith, i, j)
  count_L (entry e p l) q n out = let i : count_from n (out_L l q (out_E e out ++ s.Entry ∷ [])) ≡ count_from n (out_E e out ++ s.Entry ∷ []) + nodes_L l + 1 = count_L l q n (out_E e out ++ s.Entry ∷ []) in
      let j : count_from n (out_E e out ++ s.Entry ∷ []) ≡ count_from n (out_E e out) = count_more n (out_E e out) s.Entry in
      let k : count_from n (out_E e out) ≡ count_from n out + nodes_E e = count_E e n out in omega (arith, i, j, k)

count_alone : (e : E) → count_from 0 (out_E e []) ≡ nodes_E e
count_alone e = count_E e 0 [] ∙ omega arith

-- the steps of a statement make its nodes
pub count_steps : (x : Sentence) → count_from 0 (steps x) ≡ nodes_of x
count_steps (value e) = count_alone e
count_steps (branch p e) = count_more 0 (out_E e []) (s.Branch p) ∙ count_alone e
count_steps (perform0 p n) = refl
count_steps (perform1 p n e) = let i : count_from 0 (out_E e []) ≡ nodes_E e = count_alone e in count_more 0 (out_E e []) (s.Perform1 p n) ∙ omega (arith, i)
count_steps (perform2 a p n e) = let i : count_from 0 (out_E e (out_O a [])) ≡ count_from 0 (out_O a []) + nodes_E e = count_E e 0 (out_O a []) in
    let j : count_from 0 (out_O a []) ≡ 0 + nodes_O a = count_O a 0 [] in count_more 0 (out_E e (out_O a [])) (s.Perform2 p n) ∙ omega (arith, i, j)
