-- The steps of a statement come to what the statement comes to, where each of its nodes has its own number.
use Rattle.std.proofs.Common.{◌≡◌, ◌∙◌, refl, sym, ap, subst, ℕ, ◌+◌, ◌≤◌, List, [], ◌∷◌, ◌++◌, append-nil, Option, Some, None, Bool, true, false, nat_eq, cond, arith, inl, inr, ◌⊎◌}
use Rattle.std.specs.Prelude.{◌≢◌}
use Rattle.std.specs.List.{AllByRecursion, IsDistinct}
use Rattle.std.proofs.lemmas.Bool.Decides.{eqb_tells}
use Rattle.std.proofs.lemmas.Map.Keys.{IsDistinct-head, IsDistinct-tail}
use Rattle.aplc_arr.specs.Arrays.{product}
use Rattle.aplc_syntax.specs.PlainTrees.{Tree, Trees, Argument, id_of, ids, argument_ids}
use Rattle.aplc_syntax.specs.PlainTrees as t
use Rattle.aplc_syntax.proofs.Own.{one_at, cnt}
use Rattle.aplc_names.specs.PlainPrograms.{Action, nothing, quiet, perform, display, branch}
use Rattle.aplc_names.specs.Runs.{marks_of}
use Rattle.aplc_names.specs.States.{Place, State, Outcome, Gives, and_then, on_world, on_account, worked, ended}
use Rattle.aplc_names.specs.Eager.{Context, passed, stored, displayed, ready, assigned, put, value_of_name, change_there, value, values, argument, branch_to, branched, statement}
use Rattle.aplc_core.specs.PlainSteps.{Term, Literal, Read, Slot, Mono, Dyad, Index, Effect, Keep, Store, StoreAt, Call, ReadText, ReadNums, Show, Branch}
use Rattle.aplc_core.specs.CoreRuns.{Slots, no_slots, Told, told, use_in, kept_in, called_with, term_value, term_values, step_done, steps_done, line_done, marks_of_steps}
use Rattle.aplc_core.specs.Lowering.{Cut, CutList, CutArgument, kept_term, kept, before, cut, cut_list, cut_argument, quiet_steps, lowered}
use Rattle.aplc_core.specs.CoreLaws.{IsNumbered, LineIsStatement}
use Rattle.aplc_core.proofs.Carried.{then_then, then_same, carried, carried_same}
use Rattle.aplc_core.proofs.Cuts.{HasNoBranch, none_more, cut_fits, list_fits, given_fits, kept_fits, before_fits, cut_node}
use Rattle.aplc_core.proofs.Comes.{ComesTo, does_come}
use Rattle.aplc_core.proofs.Effects.{call_comes, called_eagerly}
use Rattle.aplc_core.proofs.Forms.{kept_does, two_of_tree}
use Rattle.aplc_core.proofs.Tells.{Tells, tree_does, list_does, given_does}
use Rattle.aplc_core.proofs.Marks.{tally_one, kept_tally, before_tally, marks, marks_all, marks_given, assign_tally, show_tally, change_tally, call_tally, cut_tally, list_tally, given_tally}
use Rattle.aplc_core.proofs.Numbered.{Agrees, Once, once_inside, as_passed, show_displays, tells, both_given}

-- ---- Lines

-- the line is not empty
abbrev pub HasSteps : List Effect → Type 0
HasSteps [] = ⊥
HasSteps (x ∷ xs) = Unit {0}

pub steps_behind : (xs : List Effect) (y : Effect) → HasSteps (xs ++ y ∷ [])
steps_behind [] y = tt
steps_behind (x ∷ xs) y = tt

line_runs : (c : Context) (xs : List Effect) (s : State) → HasSteps xs → line_done c xs s ≡ steps_done c (told xs) xs no_slots s
line_runs c [] s h = absurd h
line_runs c (x ∷ xs) s h = refl

-- steps without a branch, and those behind them
steps_carried : (c : Context) (l : Told) (xs ys : List Effect) (slots : Slots) (s : State) → HasNoBranch xs → steps_done c l (xs ++ ys) slots s ≡ carried c l xs slots s (λ a u. steps_done c l ys a u)
steps_carried c l [] ys slots s p = refl
steps_carried c l (Branch x ∷ xs) ys slots s p = absurd p
steps_carried c l (Keep k x ∷ xs) ys slots s p = then_same (step_done c l (Keep k x) slots s) _ _ (λ a u. steps_carried c l xs ys a u p)
steps_carried c l (Store i n x ∷ xs) ys slots s p = then_same (step_done c l (Store i n x) slots s) _ _ (λ a u. steps_carried c l xs ys a u p)
steps_carried c l (StoreAt i n ts x ∷ xs) ys slots s p =
    then_same (step_done c l (StoreAt i n ts x) slots s) _ _ (λ a u. steps_carried c l xs ys a u p)
steps_carried c l (Call i n a b r ∷ xs) ys slots s p = then_same (step_done c l (Call i n a b r) slots s) _ _ (λ d u. steps_carried c l xs ys d u p)
steps_carried c l (ReadText i k ∷ xs) ys slots s p = then_same (step_done c l (ReadText i k) slots s) _ _ (λ a u. steps_carried c l xs ys a u p)
steps_carried c l (ReadNums i k ∷ xs) ys slots s p = then_same (step_done c l (ReadNums i k) slots s) _ _ (λ a u. steps_carried c l xs ys a u p)
steps_carried c l (Show i x ∷ xs) ys slots s p = then_same (step_done c l (Show i x) slots s) _ _ (λ a u. steps_carried c l xs ys a u p)

-- a last step, which evaluates e and then goes on without slots
last_step : {A : Type 0} (c : Context) (xs : List Effect) (y : Effect) (e : Slots → State → Outcome A) (r : State → Outcome A) (next : A → State → Outcome (Option ℕ)) → HasNoBranch xs → ComesTo c (told (xs ++ y ∷ [])) 0 xs e r → ((a : Slots) (u : State) → steps_done c (told (xs ++ y ∷ [])) (y ∷ []) a u ≡ and_then (e a u) next) → (s : State) → line_done c (xs ++ y ∷ []) s ≡ and_then (r s) next
last_step c xs y e r next p h step s =
    line_runs c (xs ++ y ∷ []) s (steps_behind xs y)
    ∙ steps_carried c (told (xs ++ y ∷ [])) xs (y ∷ []) no_slots s p
    ∙ carried_same c (told (xs ++ y ∷ [])) xs no_slots s _ _ step
    ∙ h (λ a v u. next v u) (λ a b q v u. refl) no_slots s

abbrev over : State → Outcome (Option ℕ)
over s = Gives None (on_account ended s)

-- ---- Numbers

abbrev one_if : Bool → ℕ
one_if b = cond b 1 0

one_same : (q x : ℕ) → nat_eq q x ≡ true → one_at q x ≡ 1
unfolding one_at
one_same q x e = ap one_if e

none_other : (q x : ℕ) → nat_eq q x ≡ false → one_at q x ≡ 0
unfolding one_at
none_other q x e = ap one_if e

none_among : (k : ℕ) (ks : List ℕ) → AllByRecursion (λ y. nat_eq k y ≡ false) ks → cnt k ks ≡ 0
none_among k [] h = refl
none_among k (y ∷ ks) h = let e = none_among k ks h.1 in let d = none_other k y h.0 in omega (arith, e, d)

once_more : (q x : ℕ) (xs : List ℕ) → ((nat_eq q x ≡ true) × (q ≡ x)) ⊎ ((nat_eq q x ≡ false) × (q ≢ x)) → cnt x xs ≡ 0 → cnt q xs ≤ 1 → one_at q x + cnt q xs ≤ 1
once_more q x xs (inl p) z h =
    let e : cnt q xs ≡ 0 = subst (λ k. cnt k xs ≡ 0) (sym p.1) z in let d = one_same q x p.0 in omega (arith, e, d)
once_more q x xs (inr p) z h = let d = none_other q x p.0 in omega (arith, d, h)

pub once : (xs : List ℕ) → IsDistinct nat_eq xs → Once xs
once [] h q = omega arith
once (x ∷ xs) h q = once_more q x xs (eqb_tells q x) (none_among x xs (IsDistinct-head nat_eq x xs h)) (once xs (IsDistinct-tail nat_eq x xs h) q)

-- ---- Which lines are empty

abbrev IsNoSlot : Term → Type 0
IsNoSlot (Slot i k) = ⊥
IsNoSlot x = Unit {0}

kept_steps : (xs : List Effect) (x : Term) (n : ℕ) → IsNoSlot x → HasSteps (kept_term xs x n).steps
kept_steps xs (Slot i k) n h = absurd h
kept_steps xs (Literal i k zs) n h = steps_behind xs (Keep n (Literal i k zs))
kept_steps xs (Read i k) n h = steps_behind xs (Keep n (Read i k))
kept_steps xs (Mono i f b) n h = steps_behind xs (Keep n (Mono i f b))
kept_steps xs (Dyad i f a b) n h = steps_behind xs (Keep n (Dyad i f a b))
kept_steps xs (Index i a js) n h = steps_behind xs (Keep n (Index i a js))

kept_has : (x : Cut) → IsNoSlot x.term → HasSteps (kept x).steps
kept_has x h = kept_steps x.steps x.term x.next h

quiet_has : (x : Tree) → HasSteps (quiet_steps x)
quiet_has (t.Numbers i p zs) = kept_has (cut (t.Numbers i p zs) 0) tt
quiet_has (t.Text i p cs) = kept_has (cut (t.Text i p cs) 0) tt
quiet_has (t.Name i p n) = kept_has (cut (t.Name i p n) 0) tt
quiet_has (t.TextInput i p) = tt
quiet_has (t.NumsInput i p) = tt
quiet_has (t.Mono i p f b) = kept_has (cut (t.Mono i p f b) 0) tt
quiet_has (t.Dyad i p f a b) = kept_has (cut (t.Dyad i p f a b) 0) tt
quiet_has (t.Index i p a xs) = kept_has (cut (t.Index i p a xs) 0) tt
quiet_has (t.Assign i p n a) = steps_behind (cut a 0).steps (Store i n (cut a 0).term)
quiet_has (t.AssignAt i p n xs a) =
    let z : Cut = before (cut a 0) (cut_list xs (cut a 0).next).steps in
    let js : CutList = cut_list xs z.next in
    steps_behind (z.steps ++ js.steps) (StoreAt i n js.terms z.term)
quiet_has (t.Show i p a) = steps_behind (cut a 0).steps (Show (Some i) (cut a 0).term)
quiet_has (t.Call i p n a b) =
    let y : CutArgument = cut_argument b 0 in
    let x : CutArgument = cut_argument a y.next in
    steps_behind (y.steps ++ x.steps) (Call i n x.slot y.slot (Some x.next))

steps_mark : (xs : List Effect) (q : Place) → HasSteps xs → marks_of_steps xs q ≡ q ∷ []
steps_mark [] q h = absurd h
steps_mark (x ∷ xs) q h = refl

-- a line leaves a mark where its statement does
pub marks_same : (x : Action) (q : Place) → marks_of_steps (lowered x) q ≡ marks_of x q
marks_same nothing q = refl
marks_same (quiet x) q = steps_mark (quiet_steps x) q (quiet_has x)
marks_same (perform i p n a b) q =
    let y : CutArgument = cut_argument b 0 in
    let x : CutArgument = cut_argument a y.next in
    let e : Effect = Call i n x.slot y.slot None in
    steps_mark (y.steps ++ x.steps ++ e ∷ []) q (steps_behind (y.steps ++ x.steps) e)
marks_same (display x) q =
    let e : Effect = Show None (cut x 0).term in steps_mark ((cut x 0).steps ++ e ∷ []) q (steps_behind (cut x 0).steps e)
marks_same (branch p x) q =
    let e : Effect = Branch (cut x 0).term in steps_mark ((cut x 0).steps ++ e ∷ []) q (steps_behind (cut x 0).steps e)

-- ---- Each kind of statement

display_runs : (c : Context) (x : Tree) → Once (ids x) → (s : State) → line_done c (lowered (display x)) s ≡ statement c (display x) s
display_runs c x own s =
    let xs : List Effect = (cut x 0).steps in
    let y : Effect = Show None (cut x 0).term in
    let l : Told = told (xs ++ y ∷ []) in
    let agrees : Agrees l displayed x = λ m q le. show_tally m q xs None (cut x 0).term (marks m q x) (id_of x) (cut_tally m q x 0) (cut_node x 0) ∙ ap (λ n. n + marks m q x) (show_displays m q (id_of x)) in
    last_step c xs y (λ a u. term_value c l a (cut x 0).term u) (λ z. value c x displayed z) (λ v u. over (put v u)) (cut_fits x 0).plain (does_come c l 0 xs (cut x 0).term (λ z. value c x displayed z) (tree_does c l x displayed (tells l displayed x agrees own) 0)) (λ a u. then_then (term_value c l a (cut x 0).term u) _ _) s

branch_runs : (c : Context) (p : ℕ) (x : Tree) → Once (ids x) → (s : State) → line_done c (lowered (branch p x)) s ≡ statement c (branch p x) s
branch_runs c p x own s =
    let xs : List Effect = (cut x 0).steps in
    let y : Effect = Branch (cut x 0).term in
    let l : Told = told (xs ++ y ∷ []) in
    let agrees : Agrees l passed x = as_passed l x (λ m q le. (let a = tally_one m q xs y in let b = cut_tally m q x 0 in omega (arith, a, b))) in
    last_step c xs y (λ a u. term_value c l a (cut x 0).term u) (λ z. value c x passed z) (λ v u. branched (branch_to v) u) (cut_fits x 0).plain (does_come c l 0 xs (cut x 0).term (λ z. value c x passed z) (tree_does c l x passed (tells l passed x agrees own) 0)) (λ a u. refl) s

assign_runs : (c : Context) (i p n : ℕ) (a : Tree) → Once (ids (t.Assign i p n a)) → (s : State) → line_done c (lowered (quiet (t.Assign i p n a))) s ≡ statement c (quiet (t.Assign i p n a)) s
assign_runs c i p n a own s =
    let xs : List Effect = (cut a 0).steps in
    let y : Effect = Store i n (cut a 0).term in
    let l : Told = told (xs ++ y ∷ []) in
    let x : Tree = t.Assign i p n a in
    let agrees : Agrees l passed x = as_passed l x (λ m q le. assign_tally m q i n (cut a 0) (marks m q a) (id_of a) (cut_tally m q a 0) (cut_node a 0)) in
    let h : Tells l passed x = tells l passed x agrees own in
    last_step c xs y (λ b u. term_value c l b (cut a 0).term u) (λ z. value c a stored z) (λ v u. and_then (ready c i (use_in l i) (product v.shape) v (assigned (c.scope n) n v u)) (λ w z. over z)) (cut_fits a 0).plain (does_come c l 0 xs (cut a 0).term (λ z. value c a stored z) (tree_does c l a stored h.2 0)) (λ b u. then_then (term_value c l b (cut a 0).term u) _ _) s
    ∙ ap (λ w. and_then (value c a stored s) (λ v u. and_then (ready c i w (product v.shape) v (assigned (c.scope n) n v u)) (λ d z. over z))) h.0
    ∙ sym (then_then (value c a stored s) _ _)

show_runs : (c : Context) (i p : ℕ) (a : Tree) → Once (ids (t.Show i p a)) → (s : State) → line_done c (lowered (quiet (t.Show i p a))) s ≡ statement c (quiet (t.Show i p a)) s
show_runs c i p a own s =
    let xs : List Effect = (cut a 0).steps in
    let y : Effect = Show (Some i) (cut a 0).term in
    let l : Told = told (xs ++ y ∷ []) in
    let x : Tree = t.Show i p a in
    let agrees : Agrees l passed x = as_passed l x (λ m q le. show_tally m q xs (Some i) (cut a 0).term (marks m q a) (id_of a) (cut_tally m q a 0) (cut_node a 0)) in
    let h : Tells l passed x = tells l passed x agrees own in
    last_step c xs y (λ b u. term_value c l b (cut a 0).term u) (λ z. value c a displayed z) (λ v u. and_then (ready c i (use_in l i) 0 v (put v u)) (λ w z. over z)) (cut_fits a 0).plain (does_come c l 0 xs (cut a 0).term (λ z. value c a displayed z) (tree_does c l a displayed h.1 0)) (λ b u. then_then (term_value c l b (cut a 0).term u) _ _) s
    ∙ ap (λ w. and_then (value c a displayed s) (λ v u. and_then (ready c i w 0 v (put v u)) (λ d z. over z))) h.0
    ∙ sym (then_then (value c a displayed s) _ _)

change_runs : (c : Context) (i p n : ℕ) (xs : Trees) (a : Tree) → Once (ids (t.AssignAt i p n xs a)) → (s : State) → line_done c (lowered (quiet (t.AssignAt i p n xs a))) s ≡ statement c (quiet (t.AssignAt i p n xs a)) s
change_runs c i p n xs a own s =
    let y0 : Cut = cut a 0 in
    let ys : List Effect = (cut_list xs y0.next).steps in
    let z : Cut = before y0 ys in
    let js : CutList = cut_list xs z.next in
    let y : Effect = StoreAt i n js.terms z.term in
    let l : Told = told (z.steps ++ js.steps ++ y ∷ []) in
    let x : Tree = t.AssignAt i p n xs a in
    let agrees : Agrees l passed x = as_passed l x (λ m q le. change_tally m q i n z.steps js.steps js.terms z.term (marks_all m q xs) (marks m q a) (before_tally m q y0 ys ∙ cut_tally m q a 0) (list_tally m q xs z.next)) in
    let h : Tells l passed x = tells l passed x agrees own in
    let both = two_of_tree c l 0 y0 (λ k. (cut_list xs k).steps) (λ k b u. term_values c l b (cut_list xs k).terms u) (λ w. value c a passed w) (λ w. values c xs w) (λ v vs u. change_there c i (use_in l i) n vs v (value_of_name (c.scope n) n u.world) u) (cut_fits a 0) (tree_does c l a passed h.1 0) (λ k. list_does c l xs h.2 k) ys refl in
    last_step c (z.steps ++ js.steps) y (λ b u. and_then (term_value c l b z.term u) (λ v u1. and_then (term_values c l b js.terms u1) (λ vs u2. change_there c i (use_in l i) n vs v (value_of_name (c.scope n) n u2.world) u2))) (λ u. and_then (value c a passed u) (λ v u1. and_then (values c xs u1) (λ vs u2. change_there c i (use_in l i) n vs v (value_of_name (c.scope n) n u2.world) u2))) (λ w u. over u) (none_more z.steps js.steps (before_fits 0 y0 ys (cut_fits a 0)).plain (list_fits xs z.next).plain) both (λ b u. (
    then_then (term_value c l b z.term u) _ _
    ∙ then_same (term_value c l b z.term u) _ _ (λ v u1. (
    then_then (term_values c l b js.terms u1) _ _
    ∙ then_same (term_values c l b js.terms u1) _ _ (λ vs u2. then_then (change_there c i (use_in l i) n vs v (value_of_name (c.scope n) n u2.world) u2) _ _)))
    ∙ sym (then_then (term_value c l b z.term u) _ _ ∙ then_same (term_value c l b z.term u) _ _ (λ v u1. then_then (term_values c l b js.terms u1) _ _)))) s
    ∙ ap (λ w. and_then (and_then (value c a passed s) (λ v u1. and_then (values c xs u1) (λ vs u2. change_there c i w n vs v (value_of_name (c.scope n) n u2.world) u2))) (λ d u. over u)) h.0

-- a value that nothing else uses is kept
other_runs : (c : Context) (x : Tree) → HasSteps (kept (cut x 0)).steps → Once (ids x) → (s : State) → line_done c (kept (cut x 0)).steps s ≡ statement c (quiet x) s
other_runs c x has own s =
    let xs : List Effect = (kept (cut x 0)).steps in
    let l : Told = told xs in
    let agrees : Agrees l passed x = as_passed l x (λ m q le. kept_tally m q (cut x 0).steps (cut x 0).term (cut x 0).next ∙ cut_tally m q x 0) in
    let h : Tells l passed x = tells l passed x agrees own in
    line_runs c xs s has
    ∙ ap (λ z. steps_done c l z no_slots s) (sym (append-nil xs))
    ∙ steps_carried c l xs [] no_slots s (kept_fits 0 (cut x 0) (cut_fits x 0)).plain
    ∙ kept_does c l 0 (cut x 0) (λ z. value c x passed z) (cut_fits x 0) (tree_does c l x passed h 0) (λ a g u. over u) (λ a b q g u. refl) no_slots s

perform_runs : (c : Context) (i p n : ℕ) (a b : Argument) → Once (i ∷ (argument_ids a ++ argument_ids b)) → (s : State) → line_done c (lowered (perform i p n a b)) s ≡ statement c (perform i p n a b) s
perform_runs c i p n a b own s =
    let y : CutArgument = cut_argument b 0 in
    let x : CutArgument = cut_argument a y.next in
    let e : Effect = Call i n x.slot y.slot None in
    let l : Told = told (y.steps ++ x.steps ++ e ∷ []) in
    let fy = given_fits b 0 in
    let h = both_given l a b (λ m q le. call_tally m q i n y x None (marks_given m q a) (marks_given m q b) (given_tally m q b 0) (given_tally m q a y.next)) (once_inside i (argument_ids a ++ argument_ids b) own) in
    last_step c (y.steps ++ x.steps) e (λ d u. called_with c n (kept_in d x.slot) (kept_in d y.slot) u) (λ z. called_eagerly c n a b z) (λ r u. over (on_world (worked 1) u)) (none_more y.steps x.steps fy.plain (given_fits a y.next).plain) (call_comes c l 0 n y x a b fy.next fy.slot (given_does c l b h.1 0) (given_does c l a h.0 y.next)) (λ d u. then_then (called_with c n (kept_in d x.slot) (kept_in d y.slot) u) _ _) s
    ∙ then_then (argument c b s) _ _
    ∙ then_same (argument c b s) _ _ (λ v u. then_then (argument c a u) _ _)

quiet_runs : (c : Context) (x : Tree) → Once (ids x) → (s : State) → line_done c (lowered (quiet x)) s ≡ statement c (quiet x) s
quiet_runs c (t.Numbers i p zs) own s = other_runs c (t.Numbers i p zs) (quiet_has (t.Numbers i p zs)) own s
quiet_runs c (t.Text i p cs) own s = other_runs c (t.Text i p cs) (quiet_has (t.Text i p cs)) own s
quiet_runs c (t.Name i p n) own s = other_runs c (t.Name i p n) (quiet_has (t.Name i p n)) own s
quiet_runs c (t.TextInput i p) own s = other_runs c (t.TextInput i p) (quiet_has (t.TextInput i p)) own s
quiet_runs c (t.NumsInput i p) own s = other_runs c (t.NumsInput i p) (quiet_has (t.NumsInput i p)) own s
quiet_runs c (t.Mono i p f b) own s = other_runs c (t.Mono i p f b) (quiet_has (t.Mono i p f b)) own s
quiet_runs c (t.Dyad i p f a b) own s = other_runs c (t.Dyad i p f a b) (quiet_has (t.Dyad i p f a b)) own s
quiet_runs c (t.Index i p a xs) own s = other_runs c (t.Index i p a xs) (quiet_has (t.Index i p a xs)) own s
quiet_runs c (t.Assign i p n a) own s = assign_runs c i p n a own s
quiet_runs c (t.AssignAt i p n xs a) own s = change_runs c i p n xs a own s
quiet_runs c (t.Show i p a) own s = show_runs c i p a own s
quiet_runs c (t.Call i p n a b) own s = other_runs c (t.Call i p n a b) (quiet_has (t.Call i p n a b)) own s

pub line_is_statement : (x : Action) → IsNumbered x → LineIsStatement x
line_is_statement nothing h c s = refl
line_is_statement (quiet x) h c s = quiet_runs c x (once (ids x) h) s
line_is_statement (perform i p n a b) h c s = perform_runs c i p n a b (once (i ∷ (argument_ids a ++ argument_ids b)) h) s
line_is_statement (display x) h c s = display_runs c x (once (ids x) h) s
line_is_statement (branch p x) h c s = branch_runs c p x (once (ids x) h) s
