-- A line tells of its assignments, and of no other node, that they are ones, where each node has its own number.
use Rattle.std.proofs.Common.{◌≡◌, ◌∙◌, refl, sym, ap, subst, ℕ, ◌+◌, ◌≤◌, List, [], ◌∷◌, ◌++◌, Option, Some, None, Bool, true, false, ◌||◌, nat_eq, cond, arith, inl, inr, ◌⊎◌}
use Rattle.std.specs.Prelude.{◌≢◌}
use Rattle.std.specs.List.{AllByRecursion, IsDistinct}
use Rattle.std.proofs.lemmas.Bool.{eq-eqb}
use Rattle.std.proofs.lemmas.Bool.Decides.{eqb_tells}
use Rattle.std.proofs.lemmas.Map.Keys.{IsDistinct-head, IsDistinct-tail}
use Rattle.aplc_syntax.specs.PlainTrees.{Tree, Trees, Argument, absent, given, ids, argument_ids}
use Rattle.aplc_syntax.specs.PlainTrees as t
use Rattle.aplc_syntax.proofs.Own.{one_at, cnt, cnt_append}
use Rattle.aplc_names.specs.declared.scope.Scope.{Scope}
use Rattle.aplc_names.specs.States.{is_among}
use Rattle.aplc_core.specs.PlainSteps.{Term, Literal, Read, Slot, Mono, Dyad, Index, Effect, Keep, Store, StoreAt, Call, ReadText, ReadNums, Show, Branch}
use Rattle.aplc_core.specs.CoreRuns.{told, PlainCore}
use Rattle.aplc_core.specs.Lowering.{Cut, CutArgument, kept_term, before, call_steps, cut, cut_argument}
use Rattle.aplc_gen.proofs.SoundCuts.{Suited, SuitedGiven, Numbered, NumberedGiven}

-- ---- Counts

-- no number stands there twice
abbrev pub Once : List ℕ → Type 0
Once xs = (q : ℕ) → cnt q xs ≤ 1

same_one : (q : ℕ) → one_at q q ≡ 1
unfolding one_at
same_one q = ap (λ b. cond b 1 0) (eq-eqb q q refl)

one_same : (q x : ℕ) → nat_eq q x ≡ true → one_at q x ≡ 1
unfolding one_at
one_same q x e = ap (λ b. cond b 1 0) e

none_other : (q x : ℕ) → nat_eq q x ≡ false → one_at q x ≡ 0
unfolding one_at
none_other q x e = ap (λ b. cond b 1 0) e

none_among : (k : ℕ) (ks : List ℕ) → AllByRecursion (λ y. nat_eq k y ≡ false) ks → cnt k ks ≡ 0
none_among k [] h = refl
none_among k (y ∷ ks) h = let e = none_among k ks h.1 in let d = none_other k y h.0 in omega (arith, e, d)

once_more : (q x : ℕ) (xs : List ℕ) → ((nat_eq q x ≡ true) × (q ≡ x)) ⊎ ((nat_eq q x ≡ false) × (q ≢ x)) → cnt x xs ≡ 0 → cnt q xs ≤ 1 → one_at q x + cnt q xs ≤ 1
once_more q x xs (inl p) z h =
    let e : cnt q xs ≡ 0 = subst (λ k. cnt k xs ≡ 0) (sym p.1) z in let d = one_same q x p.0 in omega (arith, e, d)
once_more q x xs (inr p) z h = let d = none_other q x p.0 in omega (arith, d, h)

pub once : (xs : List ℕ) → IsDistinct nat_eq xs → Once xs
once [] h q = omega arith
once (x ∷ xs) h q = once_more q x xs (eqb_tells q x) (none_among x xs (IsDistinct-head nat_eq x xs h)) (once xs (IsDistinct-tail nat_eq x xs h) q)

pub once_left : (xs ys : List ℕ) → Once (xs ++ ys) → Once xs
once_left xs ys h q = let a = h q in let e = cnt_append q xs ys in omega (arith, a, e)

pub once_right : (xs ys : List ℕ) → Once (xs ++ ys) → Once ys
once_right xs ys h q = let a = h q in let e = cnt_append q xs ys in omega (arith, a, e)

once_behind : (i : ℕ) (xs : List ℕ) → Once (i ∷ xs) → Once xs
once_behind i xs h q = let a = h q in omega (arith, a)

none_there : (q : ℕ) (xs : List ℕ) → cnt q xs ≡ 0 → is_among q xs ≡ false
unfolding one_at
none_there q [] h = refl
none_there q (x ∷ xs) h = by_test (nat_eq q x) h (none_there q xs)
  where
    by_test : (b : Bool) → cond b 1 0 + cnt q xs ≡ 0 → (cnt q xs ≡ 0 → is_among q xs ≡ false) → b || is_among q xs ≡ false
    by_test true e later = absurd (omega (arith, e))
    by_test false e later = later (omega (arith, e))

some_there : (q : ℕ) (xs : List ℕ) → 1 ≤ cnt q xs → is_among q xs ≡ true
unfolding one_at
some_there q [] h = absurd (omega (arith, h))
some_there q (x ∷ xs) h = by_test (nat_eq q x) h (some_there q xs)
  where
    by_test : (b : Bool) → 1 ≤ cond b 1 0 + cnt q xs → (1 ≤ cnt q xs → is_among q xs ≡ true) → b || is_among q xs ≡ true
    by_test true e later = refl
    by_test false e later = later (omega (arith, e))

-- ---- Of steps

-- how many assignments of number q a line tells
abbrev pub tally : ℕ → List Effect → ℕ
tally q xs = cnt q (told xs).assigned

abbrev of_step : ℕ → Effect → ℕ
of_step q (Store i n x) = one_at q i
of_step q _ = 0

tally_cons : (q : ℕ) (x : Effect) (xs : List Effect) → tally q (x ∷ xs) ≡ of_step q x + tally q xs
tally_cons q (Store i n x) xs = refl
tally_cons q (Show i x) xs = omega arith
tally_cons q (Keep k x) xs = omega arith
tally_cons q (StoreAt i n ts x) xs = omega arith
tally_cons q (Call i n a b r) xs = omega arith
tally_cons q (ReadText i k) xs = omega arith
tally_cons q (ReadNums i k) xs = omega arith
tally_cons q (Branch x) xs = omega arith

tally_append : (q : ℕ) (xs ys : List Effect) → tally q (xs ++ ys) ≡ tally q xs + tally q ys
tally_append q [] ys = omega arith
tally_append q (x ∷ xs) ys =
    let h = tally_append q xs ys in
    let a = tally_cons q x (xs ++ ys) in
    let b = tally_cons q x xs in
    omega (arith, h, a, b)

tally_one : (q : ℕ) (xs : List Effect) (y : Effect) → tally q (xs ++ y ∷ []) ≡ tally q xs + of_step q y
tally_one q xs y =
    let h = tally_append q xs (y ∷ []) in
    let a = tally_cons q y [] in
    omega (arith, h, a)

kept_tally : (q : ℕ) (xs : List Effect) (x : Term) (n : ℕ) → tally q (kept_term xs x n).steps ≡ tally q xs
kept_tally q xs (Slot i k) n = refl
kept_tally q xs (Literal i k zs) n = let h = tally_one q xs (Keep n (Literal i k zs)) in omega (arith, h)
kept_tally q xs (Read i k) n = let h = tally_one q xs (Keep n (Read i k)) in omega (arith, h)
kept_tally q xs (Mono i f b) n = let h = tally_one q xs (Keep n (Mono i f b)) in omega (arith, h)
kept_tally q xs (Dyad i f a b) n = let h = tally_one q xs (Keep n (Dyad i f a b)) in omega (arith, h)
kept_tally q xs (Index i a js) n = let h = tally_one q xs (Keep n (Index i a js)) in omega (arith, h)

before_tally : (q : ℕ) (x : Cut) (ys : List Effect) → tally q (before x ys).steps ≡ tally q x.steps
before_tally q x [] = refl
before_tally q x (y ∷ ys) = kept_tally q x.steps x.term x.next

-- ---- Of trees

abbrev mutual
  -- how many assignments in a tree have number q
  pub marks : ℕ → Tree → ℕ
  marks q (t.Mono i o f b) = marks q b
  marks q (t.Dyad i o f a b) = marks q a + marks q b
  marks q (t.Assign i o n a) = one_at q i + marks q a
  marks q (t.Call i o n a b) = marks_given q a + marks_given q b
  marks q _ = 0

  pub marks_given : ℕ → Argument → ℕ
  marks_given q absent = 0
  marks_given q (given x) = marks q x

mutual
  few : (q : ℕ) (x : Tree) → marks q x ≤ cnt q (ids x)
  few q (t.Numbers i o zs) = omega arith
  few q (t.Text i o cs) = omega arith
  few q (t.Name i o n) = omega arith
  few q (t.TextInput i o) = omega arith
  few q (t.NumsInput i o) = omega arith
  few q (t.Mono i o f b) = let h = few q b in omega (arith, h)
  few q (t.Dyad i o f a b) = let h = few q a in let g = few q b in let e = cnt_append q (ids a) (ids b) in omega (arith, h, g, e)
  few q (t.Index i o a xs) = omega arith
  few q (t.Assign i o n a) = let h = few q a in omega (arith, h)
  few q (t.AssignAt i o n xs a) = omega arith
  few q (t.Show i o a) = omega arith
  few q (t.Call i o n a b) = let h = few_given q a in let g = few_given q b in let e = cnt_append q (argument_ids a) (argument_ids b) in omega (arith, h, g, e)

  few_given : (q : ℕ) (a : Argument) → marks_given q a ≤ cnt q (argument_ids a)
  few_given q absent = omega arith
  few_given q (given x) = few q x

module _ (p : PlainCore) (sc : ℕ → Scope) where
  call_tally : (q i n : ℕ) (y x : CutArgument) (r : Option ℕ) (a b : ℕ) → tally q y.steps ≡ b → tally q x.steps ≡ a → tally q (call_steps i n y x r) ≡ a + b
  call_tally q i n y x r a b h g =
      let s = tally_one q (y.steps ++ x.steps) (Call i n x.slot y.slot r) in
      let d = tally_append q y.steps x.steps in
      omega (arith, h, g, s, d)

  mutual
    cut_tally : (q : ℕ) (x : Tree) → Suited p sc x → (k : ℕ) → tally q (cut x k).steps ≡ marks q x
    cut_tally q (t.Numbers i o zs) h k = refl
    cut_tally q (t.Text i o cs) h k = absurd h
    cut_tally q (t.Name i o n) h k = refl
    cut_tally q (t.TextInput i o) h k = absurd h
    cut_tally q (t.NumsInput i o) h k = absurd h
    cut_tally q (t.Mono i o f b) h k = cut_tally q b h.1 k
    cut_tally q (t.Dyad i o f a b) h k =
        let y : Cut = cut b k in
        let z : Cut = before y (cut a y.next).steps in
        let e = before_tally q y (cut a y.next).steps in
        let d = cut_tally q a h.1 z.next in
        let c = cut_tally q b h.2 k in
        let s = tally_append q z.steps (cut a z.next).steps in
        omega (arith, e, d, c, s)
    cut_tally q (t.Index i o a xs) h k = absurd h
    cut_tally q (t.Assign i o n a) h k = let e = cut_tally q a h.1 k in let s = tally_one q (cut a k).steps (Store i n (cut a k).term) in omega (arith, e, s)
    cut_tally q (t.AssignAt i o n xs a) h k = absurd h
    cut_tally q (t.Show i o a) h k = absurd h
    cut_tally q (t.Call i o n a b) h k =
        let y : CutArgument = cut_argument b k in
        call_tally q i n y (cut_argument a y.next) (Some (cut_argument a y.next).next) (marks_given q a) (marks_given q b) (given_tally q b h.2 k) (given_tally q a h.1 y.next)

    given_tally : (q : ℕ) (a : Argument) → SuitedGiven p sc a → (k : ℕ) → tally q (cut_argument a k).steps ≡ marks_given q a
    given_tally q absent h k = refl
    given_tally q (given x) h k = kept_tally q (cut x k).steps (cut x k).term (cut x k).next ∙ cut_tally q x h k

-- ---- Trees whose nodes have their own numbers

-- of each node in the tree, these numbers have what the tree says
abbrev Agrees : List ℕ → List ℕ → (ℕ → ℕ) → Type 0
Agrees ms is f = (q : ℕ) → 1 ≤ cnt q is → cnt q ms ≡ f q

left_agrees : (ms xs ys : List ℕ) (f g : ℕ → ℕ) → ((q : ℕ) → g q ≤ cnt q ys) → Once (xs ++ ys) → Agrees ms (xs ++ ys) (λ q. f q + g q) → Agrees ms xs f
left_agrees ms xs ys f g le o h q there =
    let e = cnt_append q xs ys in let a = o q in let b = le q in let c = h q (omega (arith, there, e)) in omega (arith, a, b, c, e, there)

right_agrees : (ms xs ys : List ℕ) (f g : ℕ → ℕ) → ((q : ℕ) → f q ≤ cnt q xs) → Once (xs ++ ys) → Agrees ms (xs ++ ys) (λ q. f q + g q) → Agrees ms ys g
right_agrees ms xs ys f g le o h q there =
    let e = cnt_append q xs ys in let a = o q in let b = le q in let c = h q (omega (arith, there, e)) in omega (arith, a, b, c, e, there)

inner_agrees : (ms : List ℕ) (i : ℕ) (is : List ℕ) (f : ℕ → ℕ) → Agrees ms (i ∷ is) f → Agrees ms is f
inner_agrees ms i is f h q there = h q (omega (arith, there))

assigned_told : (ms : List ℕ) (i : ℕ) (is : List ℕ) (f : ℕ → ℕ) → Agrees ms (i ∷ is) (λ q. one_at q i + f q) → is_among i ms ≡ true
assigned_told ms i is f h = let e = same_one i in let c = h i (omega (arith, e)) in some_there i ms (omega (arith, c, e))

stored_agrees : (ms : List ℕ) (i q : ℕ) (is : List ℕ) (f : ℕ → ℕ) → Agrees ms (i ∷ is) (λ r. one_at r i + f r) → Once (i ∷ is) → 1 ≤ cnt q is → cnt q ms ≡ f q
stored_agrees ms i q is f h own there = let a = own q in let c = h q (omega (arith, there)) in omega (arith, a, c, there)

mutual
  pub tree_numbered : (ms : List ℕ) (x : Tree) → Agrees ms (ids x) (λ q. marks q x) → Once (ids x) → Numbered ms x
  tree_numbered ms (t.Numbers i o zs) h own = tt
  tree_numbered ms (t.Text i o cs) h own = tt
  tree_numbered ms (t.Name i o n) h own = let e = same_one i in none_there i ms (h i (omega (arith, e)))
  tree_numbered ms (t.TextInput i o) h own = tt
  tree_numbered ms (t.NumsInput i o) h own = tt
  tree_numbered ms (t.Mono i o f b) h own = tree_numbered ms b (inner_agrees ms i (ids b) (λ q. marks q b) h) (once_behind i (ids b) own)
  tree_numbered ms (t.Dyad i o f a b) h own =
      let g : Agrees ms (ids a ++ ids b) (λ q. marks q a + marks q b) = inner_agrees ms i (ids a ++ ids b) (λ q. marks q a + marks q b) h in
      let u = once_behind i (ids a ++ ids b) own in (
        tree_numbered ms a (left_agrees ms (ids a) (ids b) (λ q. marks q a) (λ q. marks q b) (λ q. few q b) u g) (once_left (ids a) (ids b) u),
        tree_numbered ms b (right_agrees ms (ids a) (ids b) (λ q. marks q a) (λ q. marks q b) (λ q. few q a) u g) (once_right (ids a) (ids b) u),
      )
  tree_numbered ms (t.Index i o a xs) h own = tt
  tree_numbered ms (t.Assign i o n a) h own = (assigned_told ms i (ids a) (λ q. marks q a) h, tree_numbered ms a (λ q there. stored_agrees ms i q (ids a) (λ r. marks r a) h own there) (once_behind i (ids a) own))
  tree_numbered ms (t.AssignAt i o n xs a) h own = tt
  tree_numbered ms (t.Show i o a) h own = tt
  tree_numbered ms (t.Call i o n a b) h own =
      let g : Agrees ms (argument_ids a ++ argument_ids b) (λ q. marks_given q a + marks_given q b) = inner_agrees ms i (argument_ids a ++ argument_ids b) (λ q. marks_given q a + marks_given q b) h in
      let u = once_behind i (argument_ids a ++ argument_ids b) own in (
        given_numbered ms a (left_agrees ms (argument_ids a) (argument_ids b) (λ q. marks_given q a) (λ q. marks_given q b) (λ q. few_given q b) u g) (once_left (argument_ids a) (argument_ids b) u),
        given_numbered ms b (right_agrees ms (argument_ids a) (argument_ids b) (λ q. marks_given q a) (λ q. marks_given q b) (λ q. few_given q a) u g) (once_right (argument_ids a) (argument_ids b) u),
      )

  given_numbered : (ms : List ℕ) (a : Argument) → Agrees ms (argument_ids a) (λ q. marks_given q a) → Once (argument_ids a) → NumberedGiven ms a
  given_numbered ms absent h own = tt
  given_numbered ms (given x) h own = tree_numbered ms x h own

-- ---- Statements

module _ (p : PlainCore) (sc : ℕ → Scope) where
  -- an assignment at the root
  pub cut_numbered : (x : Tree) → Suited p sc x → Once (ids x) → Numbered (told (cut x 0).steps).assigned x
  cut_numbered x h own = tree_numbered (told (cut x 0).steps).assigned x (λ q there. cut_tally p sc q x h 0) own

  -- one more step that is no assignment
  pub behind_numbered : (x : Tree) (y : Effect) → Suited p sc x → Once (ids x) → ((q : ℕ) → of_step q y ≡ 0) → Numbered (told ((cut x 0).steps ++ y ∷ [])).assigned x
  behind_numbered x y h own none =
      tree_numbered (told ((cut x 0).steps ++ y ∷ [])).assigned x (λ q there. let a = tally_one q (cut x 0).steps y in let b = cut_tally p sc q x h 0 in let c = none q in omega (arith, a, b, c)) own

  pub call_numbered : (i n : ℕ) (a b : Argument) → SuitedGiven p sc a → SuitedGiven p sc b → Once (i ∷ (argument_ids a ++ argument_ids b))
      → NumberedGiven (told (call_steps i n (cut_argument b 0) (cut_argument a (cut_argument b 0).next) None)).assigned a × NumberedGiven (told (call_steps i n (cut_argument b 0) (cut_argument a (cut_argument b 0).next) None)).assigned b
  call_numbered i n a b h g own =
      let y : CutArgument = cut_argument b 0 in
      let x : CutArgument = cut_argument a y.next in
      tree_numbered (told (call_steps i n y x None)).assigned (t.Call i 0 n a b)
      (λ q there. call_tally p sc q i n y x None (marks_given q a) (marks_given q b) (given_tally p sc q b g 0) (given_tally p sc q a h y.next)) own
