-- How often a number stands in what a line says of its nodes: as often as the trees of its statement have such a node.
use Rattle.std.proofs.Common.{◌≡◌, ◌∙◌, refl, ap, ℕ, ◌+◌, List, [], ◌∷◌, ◌++◌, Option, Some, arith}
use Rattle.aplc_syntax.specs.PlainTrees.{Tree, Trees, Argument, absent, given, id_of, ids, trees_ids, argument_ids}
use Rattle.aplc_syntax.specs.declared.tree.Primitive.{Primitive}
use Rattle.aplc_syntax.specs.PlainTrees as t
use Rattle.aplc_syntax.proofs.Own.{one_at, cnt}
use Rattle.aplc_core.specs.PlainSteps.{Term, Literal, Read, Slot, Mono, Dyad, Index, Terms, no_more, left_out, and_term, Effect, Keep, Store, StoreAt, Call, ReadText, ReadNums, Show, Branch}
use Rattle.aplc_core.specs.PlainSteps as step
use Rattle.aplc_core.specs.CoreRuns.{Told, told_by, told}
use Rattle.aplc_core.specs.Lowering.{Cut, CutList, CutArgument, kept_term, kept, kept_terms, before, all_before, cut_dyad, cut_index, cut_more, call_steps, cut, cut_list, cut_argument}
use Rattle.aplc_core.proofs.Cuts.{cut_node, kept_id}

-- what a line says of a node
pub data Mark : Type 0 where
  assigning : Mark
  storing : Mark
  showing : Mark

abbrev pub list_in : Mark → Told → List ℕ
list_in assigning l = l.assigned
list_in storing l = l.stored
list_in showing l = l.displayed

-- an assignment i of the value of node j says so often of node q
abbrev pub at_assign : Mark → ℕ → ℕ → ℕ → ℕ
at_assign assigning q i j = one_at q i
at_assign storing q i j = one_at q j
at_assign showing q i j = 0

abbrev pub at_show : Mark → ℕ → ℕ → ℕ
at_show assigning q j = 0
at_show storing q j = 0
at_show showing q j = one_at q j

-- ---- Of steps

abbrev pub tally : Mark → ℕ → List Effect → ℕ
tally m q xs = cnt q (list_in m (told xs))

abbrev pub of_step : Mark → ℕ → Effect → ℕ
of_step m q (Store i n x) = at_assign m q i (step.id_of x)
of_step m q (Show i x) = at_show m q (step.id_of x)
of_step m q _ = 0

store_more : (m : Mark) (q i n : ℕ) (x : Term) (l : Told) → cnt q (list_in m (told_by (Store i n x) l)) ≡ at_assign m q i (step.id_of x) + cnt q (list_in m l)
store_more assigning q i n x l = refl
store_more storing q i n x l = refl
store_more showing q i n x l = omega arith

show_more : (m : Mark) (q : ℕ) (i : Option ℕ) (x : Term) (l : Told) → cnt q (list_in m (told_by (Show i x) l)) ≡ at_show m q (step.id_of x) + cnt q (list_in m l)
show_more assigning q i x l = omega arith
show_more storing q i x l = omega arith
show_more showing q i x l = refl

tally_cons : (m : Mark) (q : ℕ) (x : Effect) (xs : List Effect) → tally m q (x ∷ xs) ≡ of_step m q x + tally m q xs
tally_cons m q (Store i n x) xs = store_more m q i n x (told xs)
tally_cons m q (Show i x) xs = show_more m q i x (told xs)
tally_cons m q (Keep k x) xs = omega arith
tally_cons m q (StoreAt i n ts x) xs = omega arith
tally_cons m q (Call i n a b r) xs = omega arith
tally_cons m q (ReadText i k) xs = omega arith
tally_cons m q (ReadNums i k) xs = omega arith
tally_cons m q (Branch x) xs = omega arith

tally_none : (m : Mark) (q : ℕ) → tally m q [] ≡ 0
tally_none assigning q = refl
tally_none storing q = refl
tally_none showing q = refl

pub tally_append : (m : Mark) (q : ℕ) (xs ys : List Effect) → tally m q (xs ++ ys) ≡ tally m q xs + tally m q ys
tally_append m q [] ys = let e = tally_none m q in omega (arith, e)
tally_append m q (x ∷ xs) ys =
    let h = tally_append m q xs ys in
    let a = tally_cons m q x (xs ++ ys) in
    let b = tally_cons m q x xs in
    omega (arith, h, a, b)

pub tally_one : (m : Mark) (q : ℕ) (xs : List Effect) (y : Effect) → tally m q (xs ++ y ∷ []) ≡ tally m q xs + of_step m q y
tally_one m q xs y =
    let h = tally_append m q xs (y ∷ []) in
    let a = tally_cons m q y [] in
    let e = tally_none m q in
    omega (arith, h, a, e)

-- what is kept says nothing
pub kept_tally : (m : Mark) (q : ℕ) (xs : List Effect) (x : Term) (n : ℕ) → tally m q (kept_term xs x n).steps ≡ tally m q xs
kept_tally m q xs (Slot i k) n = refl
kept_tally m q xs (Literal i k zs) n = let h = tally_one m q xs (Keep n (Literal i k zs)) in omega (arith, h)
kept_tally m q xs (Read i k) n = let h = tally_one m q xs (Keep n (Read i k)) in omega (arith, h)
kept_tally m q xs (Mono i f b) n = let h = tally_one m q xs (Keep n (Mono i f b)) in omega (arith, h)
kept_tally m q xs (Dyad i f a b) n = let h = tally_one m q xs (Keep n (Dyad i f a b)) in omega (arith, h)
kept_tally m q xs (Index i a js) n = let h = tally_one m q xs (Keep n (Index i a js)) in omega (arith, h)

pub before_tally : (m : Mark) (q : ℕ) (x : Cut) (ys : List Effect) → tally m q (before x ys).steps ≡ tally m q x.steps
before_tally m q x [] = refl
before_tally m q x (y ∷ ys) = kept_tally m q x.steps x.term x.next

terms_tally : (m : Mark) (q : ℕ) (xs : List Effect) (ts : Terms) (n : ℕ) → tally m q (kept_terms xs ts n).steps ≡ tally m q xs
terms_tally m q xs no_more n = refl
terms_tally m q xs (left_out ts) n = terms_tally m q xs ts n
terms_tally m q xs (and_term x ts) n =
    kept_tally m q (kept_terms xs ts n).steps x (kept_terms xs ts n).next ∙ terms_tally m q xs ts n

all_before_tally : (m : Mark) (q : ℕ) (x : CutList) (ys : List Effect) → tally m q (all_before x ys).steps ≡ tally m q x.steps
all_before_tally m q x [] = refl
all_before_tally m q x (y ∷ ys) = terms_tally m q x.steps x.terms x.next

-- ---- Of trees

abbrev mutual
  -- how many nodes in the tree say so of node q
  pub marks : Mark → ℕ → Tree → ℕ
  marks m q (t.Numbers i p zs) = 0
  marks m q (t.Text i p cs) = 0
  marks m q (t.Name i p n) = 0
  marks m q (t.TextInput i p) = 0
  marks m q (t.NumsInput i p) = 0
  marks m q (t.Mono i p f b) = marks m q b
  marks m q (t.Dyad i p f a b) = marks m q a + marks m q b
  marks m q (t.Index i p a xs) = marks m q a + marks_all m q xs
  marks m q (t.Assign i p n a) = at_assign m q i (id_of a) + marks m q a
  marks m q (t.AssignAt i p n xs a) = marks_all m q xs + marks m q a
  marks m q (t.Show i p a) = at_show m q (id_of a) + marks m q a
  marks m q (t.Call i p n a b) = marks_given m q a + marks_given m q b

  pub marks_all : Mark → ℕ → Trees → ℕ
  marks_all m q t.no_more = 0
  marks_all m q (t.left_out xs) = marks_all m q xs
  marks_all m q (t.and_tree x xs) = marks m q x + marks_all m q xs

  pub marks_given : Mark → ℕ → Argument → ℕ
  marks_given m q absent = 0
  marks_given m q (given x) = marks m q x

-- ---- The steps of a cut say what its tree says

dyad_tally : (m : Mark) (q i : ℕ) (f : Primitive) (y : Cut) (more : ℕ → Cut) (a b : ℕ) → tally m q y.steps ≡ b → ((n : ℕ) → tally m q (more n).steps ≡ a) → tally m q (cut_dyad i f y more).steps ≡ a + b
dyad_tally m q i f y more a b h g =
    let z : Cut = before y (more y.next).steps in
    let e = before_tally m q y (more y.next).steps in
    let d = g z.next in
    let s = tally_append m q z.steps (more z.next).steps in
    omega (arith, h, e, d, s)

index_tally : (m : Mark) (q i : ℕ) (js : CutList) (more : ℕ → Cut) (a b : ℕ) → tally m q js.steps ≡ b → ((n : ℕ) → tally m q (more n).steps ≡ a) → tally m q (cut_index i js more).steps ≡ a + b
index_tally m q i js more a b h g =
    let z : CutList = all_before js (more js.next).steps in
    let e = all_before_tally m q js (more js.next).steps in
    let d = g z.next in
    let s = tally_append m q z.steps (more z.next).steps in
    omega (arith, h, e, d, s)

more_tally : (m : Mark) (q : ℕ) (js : CutList) (more : ℕ → Cut) (a b : ℕ) → tally m q js.steps ≡ b → ((n : ℕ) → tally m q (more n).steps ≡ a) → tally m q (cut_more js more).steps ≡ a + b
more_tally m q js more a b h g =
    let z : CutList = all_before js (more js.next).steps in
    let e = all_before_tally m q js (more js.next).steps in
    let d = g z.next in
    let s = tally_append m q z.steps (more z.next).steps in
    omega (arith, h, e, d, s)

pub assign_tally : (m : Mark) (q i n : ℕ) (x : Cut) (a j : ℕ) → tally m q x.steps ≡ a → step.id_of x.term ≡ j → tally m q (x.steps ++ Store i n x.term ∷ []) ≡ at_assign m q i j + a
assign_tally m q i n x a j h e =
    let s = tally_one m q x.steps (Store i n x.term) in
    let d : at_assign m q i (step.id_of x.term) ≡ at_assign m q i j = ap (at_assign m q i) e in
    omega (arith, h, s, d)

pub show_tally : (m : Mark) (q : ℕ) (xs : List Effect) (i : Option ℕ) (x : Term) (a j : ℕ) → tally m q xs ≡ a → step.id_of x ≡ j → tally m q (xs ++ Show i x ∷ []) ≡ at_show m q j + a
show_tally m q xs i x a j h e =
    let s = tally_one m q xs (Show i x) in
    let d : at_show m q (step.id_of x) ≡ at_show m q j = ap (at_show m q) e in
    omega (arith, h, s, d)

pub change_tally : (m : Mark) (q i n : ℕ) (xs ys : List Effect) (ts : Terms) (x : Term) (a b : ℕ) → tally m q xs ≡ b → tally m q ys ≡ a → tally m q (xs ++ ys ++ StoreAt i n ts x ∷ []) ≡ a + b
change_tally m q i n xs ys ts x a b h g =
    let s = tally_one m q (xs ++ ys) (StoreAt i n ts x) in
    let d = tally_append m q xs ys in
    omega (arith, h, g, s, d)

pub call_tally : (m : Mark) (q i n : ℕ) (y x : CutArgument) (r : Option ℕ) (a b : ℕ) → tally m q y.steps ≡ b → tally m q x.steps ≡ a → tally m q (call_steps i n y x r) ≡ a + b
call_tally m q i n y x r a b h g =
    let s = tally_one m q (y.steps ++ x.steps) (Call i n x.slot y.slot r) in
    let d = tally_append m q y.steps x.steps in
    omega (arith, h, g, s, d)

mutual
  pub cut_tally : (m : Mark) (q : ℕ) (x : Tree) (k : ℕ) → tally m q (cut x k).steps ≡ marks m q x
  cut_tally m q (t.Numbers i p zs) k = tally_none m q
  cut_tally m q (t.Text i p cs) k = tally_none m q
  cut_tally m q (t.Name i p n) k = tally_none m q
  cut_tally m q (t.TextInput i p) k = tally_none m q
  cut_tally m q (t.NumsInput i p) k = tally_none m q
  cut_tally m q (t.Mono i p f b) k = cut_tally m q b k
  cut_tally m q (t.Dyad i p f a b) k =
      dyad_tally m q i f (cut b k) (λ n. cut a n) (marks m q a) (marks m q b) (cut_tally m q b k) (λ n. cut_tally m q a n)
  cut_tally m q (t.Index i p a xs) k =
      index_tally m q i (cut_list xs k) (λ n. cut a n) (marks m q a) (marks_all m q xs) (list_tally m q xs k) (λ n. cut_tally m q a n)
  cut_tally m q (t.Assign i p n a) k = assign_tally m q i n (cut a k) (marks m q a) (id_of a) (cut_tally m q a k) (cut_node a k)
  cut_tally m q (t.AssignAt i p n xs a) k =
      change_tally m q i n (kept (cut a k)).steps (cut_list xs (kept (cut a k)).next).steps _ _ (marks_all m q xs) (marks m q a) (kept_tally m q (cut a k).steps (cut a k).term (cut a k).next ∙ cut_tally m q a k) (list_tally m q xs (kept (cut a k)).next)
  cut_tally m q (t.Show i p a) k =
      show_tally m q (kept (cut a k)).steps (Some i) (Slot (kept (cut a k)).node (kept (cut a k)).slot) (marks m q a) (id_of a) (kept_tally m q (cut a k).steps (cut a k).term (cut a k).next ∙ cut_tally m q a k) (kept_id a k)
  cut_tally m q (t.Call i p n a b) k =
      call_tally m q i n (cut_argument b k) (cut_argument a (cut_argument b k).next) _ (marks_given m q a) (marks_given m q b) (given_tally m q b k) (given_tally m q a (cut_argument b k).next)

  pub list_tally : (m : Mark) (q : ℕ) (xs : Trees) (k : ℕ) → tally m q (cut_list xs k).steps ≡ marks_all m q xs
  list_tally m q t.no_more k = tally_none m q
  list_tally m q (t.left_out xs) k = list_tally m q xs k
  list_tally m q (t.and_tree x xs) k =
      more_tally m q (cut_list xs k) (λ n. cut x n) (marks m q x) (marks_all m q xs) (list_tally m q xs k) (λ n. cut_tally m q x n)

  pub given_tally : (m : Mark) (q : ℕ) (a : Argument) (k : ℕ) → tally m q (cut_argument a k).steps ≡ marks_given m q a
  given_tally m q absent k = tally_none m q
  given_tally m q (given x) k = kept_tally m q (cut x k).steps (cut x k).term (cut x k).next ∙ cut_tally m q x k
