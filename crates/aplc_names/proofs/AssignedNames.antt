-- In a program that nothing refuses each name that is assigned is listed once.
use Rattle.std.proofs.Common.{◌≡◌, ◌∙◌, sym, ap, refl, subst, ℕ, zero, suc, ◌+◌, ◌<◌, ◌≤◌, List, [], ◌∷◌, ◌++◌, length, Option, Some, None, Bool, true, false, ◌||◌, arith, inl, inr, ◌⊎◌}
use Rattle.std.specs.Prelude.{◌≢◌, map, option_map, nat_eq, if◌then◌else◌}
use Rattle.std.specs.List.{slice_get, AllByRecursion}
use Rattle.std.specs.Option.{option_to_list}
use Rattle.std.proofs.lemmas.Bool.{ne_eqb}
use Rattle.std.proofs.lemmas.Bool.Decides.{eqb_tells}
use Rattle.std.proofs.lemmas.List.Elements.{recursion_from_All}
use Rattle.aplc_lex.specs.Tokens.{refusal}
use Rattle.aplc_syntax.specs.declared.tree.Named.{Named}
use Rattle.aplc_syntax.specs.declared.tree.Line.{Line}
use Rattle.aplc_syntax.specs.declared.tree.Function.{Function}
use Rattle.aplc_syntax.specs.declared.tree.Program.{Program}
use Rattle.aplc_syntax.specs.declared.tree.Statement.{Statement}
use Rattle.aplc_syntax.specs.declared.tree.Statement.TheVariants as st
use Rattle.aplc_syntax.specs.PlainTrees.{Tree, Numbers, Text, Name, TextInput, NumsInput, Mono, Dyad, Index, Assign, AssignAt, Show, Call, Trees, no_more, left_out, and_tree, Argument, absent, given, tree_of}
use Rattle.aplc_names.specs.declared.outline.Mention.{Mention}
use Rattle.aplc_names.specs.declared.scope.Scope.{Scope}
use Rattle.aplc_names.specs.Outlines.{tree_mentions, trees_mentions, argument_mentions, statement_mentions, label_mention, line_mentions, lines_mentions, header_names, labels_in, local_names_of, outline, outlines}
use Rattle.aplc_names.specs.Tables.{is_named, stands_in}
use Rattle.aplc_names.specs.Scopes.{function_names, function_number, is_label, label_line, local_or_global, label_or, function_or, scope_in}
use Rattle.aplc_names.specs.Clashes.{twice, assigned, in_function, local_again, name_assigned}
use Rattle.aplc_names.specs.Programs.{IsClean, IsGrammatical, IsOutlineBelow}
use Rattle.aplc_names.specs.PlainPrograms.{Action, quiet_of, action_of, line_action, name_number, Routine, routine_of, names_of_header}
use Rattle.aplc_names.specs.Balance.{times, numbers_below, IsListed, AssignsListed, EntriesListed, ArgumentListed, ActionListed, AssignsItsNames}
use Rattle.aplc_names.proofs.Lists.{Has, none_some, some_same, get_left, has_left, has_right, has_flat}

-- ---- Lists

mapped : {X Y : Type 0} (g : X → Y) (xs : List X) (i : ℕ) (y : Y) → slice_get (map g xs) i ≡ Some y → (x : X) × (slice_get xs i ≡ Some x) × (y ≡ g x)
mapped g [] i y e = absurd (none_some y e)
mapped g (x ∷ xs) zero y e = (x, refl, sym (some_same (g x) y e))
mapped g (x ∷ xs) (suc i) y e = mapped g xs i y e

get_map : {X Y : Type 0} (g : X → Y) (xs : List X) (i : ℕ) (x : X) → slice_get xs i ≡ Some x → slice_get (map g xs) i ≡ Some (g x)
get_map g [] i x e = absurd (none_some x e)
get_map g (y ∷ xs) zero x e = ap (λ z. Some (g z)) (some_same y x e)
get_map g (y ∷ xs) (suc i) x e = get_map g xs i x e

at_place : {X : Type 0} (P : X → Type 0) (xs : List X) (i : ℕ) (x : X) → AllByRecursion P xs → slice_get xs i ≡ Some x → P x
at_place P [] i x h e = absurd (none_some x e)
at_place P (y ∷ xs) zero x h e = subst P (some_same y x e) h.0
at_place P (y ∷ xs) (suc i) x h e = at_place P xs i x h.1 e

clash : true ≡ false → ⊥
clash e = cc

or_left : (a b : Bool) → a ≡ true → a || b ≡ true
or_left true b e = refl
or_left false b e = absurd (clash (sym e))

or_right : (a b : Bool) → b ≡ true → a || b ≡ true
or_right true b e = refl
or_right false b e = e

same_number : (a b : ℕ) → nat_eq a b ≡ true → a ≡ b
same_number a b e = told (eqb_tells a b)
  where
    told : ((nat_eq a b ≡ true) × (a ≡ b)) ⊎ ((nat_eq a b ≡ false) × (a ≢ b)) → a ≡ b
    told (inl q) = q.1
    told (inr q) = absurd (clash (sym e ∙ q.0))

other_number : (a b : ℕ) → nat_eq a b ≡ false → a ≢ b
other_number a b e = told (eqb_tells a b)
  where
    told : ((nat_eq a b ≡ true) × (a ≡ b)) ⊎ ((nat_eq a b ≡ false) × (a ≢ b)) → a ≢ b
    told (inl q) = absurd (clash (sym q.0 ∙ e))
    told (inr q) = q.1

-- ---- How often a name stands in a list

-- no two names of the list are one
abbrev IsOnce : List Named → Type 0
IsOnce xs = (i k : ℕ) (y x : Named) → slice_get xs i ≡ Some y → slice_get xs k ≡ Some x → i < k → y.name.0 ≡ x.name.0 → ⊥

times_none : (n : ℕ) (xs : List Named) → ((k : ℕ) (x : Named) → slice_get xs k ≡ Some x → x.name.0 ≡ n → ⊥) → times n (map name_number xs) ≡ 0
times_none n [] h = refl
times_none n (x ∷ xs) h = by_test (nat_eq x.name.0 n) refl (times_none n xs (λ k y g e. h (suc k) y g e))
  where
    by_test : (b : Bool) → nat_eq x.name.0 n ≡ b → times n (map name_number xs) ≡ 0 → (if b then 1 else 0) + times n (map name_number xs) ≡ 0
    by_test true e rest = absurd (h 0 x refl (same_number x.name.0 n e))
    by_test false e rest = omega (arith, rest)

times_once : (n : ℕ) (xs : List Named) → IsOnce xs → stands_in n xs ≡ true → times n (map name_number xs) ≡ 1
times_once n [] once h = absurd cc
times_once n (x ∷ xs) once h = by_test (nat_eq x.name.0 n) refl h (times_once n xs (λ i k y z a b l e. once (suc i) (suc k) y z a b (omega (arith, l)) e))
  where
    by_test : (b : Bool) → nat_eq x.name.0 n ≡ b → b || stands_in n xs ≡ true → (stands_in n xs ≡ true → times n (map name_number xs) ≡ 1) → (if b then 1 else 0) + times n (map name_number xs) ≡ 1
    by_test true e h later =
        ap (λ k. 1 + k) (times_none n xs (λ k y g q. once 0 (suc k) x y refl g (omega arith) (same_number x.name.0 n e ∙ sym q)))
    by_test false e h later = let rest = later h in omega (arith, rest)

times_above : (n k : ℕ) → k ≤ n → times n (numbers_below k) ≡ 0
times_above n zero h = refl
times_above n (suc k) h = by_test (nat_eq k n) (ne_eqb k n (λ (q : k ≡ n). omega (arith, q, h))) (times_above n k (omega (arith, h)))
  where
    by_test : (b : Bool) → b ≡ false → times n (numbers_below k) ≡ 0 → (if b then 1 else 0) + times n (numbers_below k) ≡ 0
    by_test true e rest = absurd (clash e)
    by_test false e rest = omega (arith, rest)

order : (n k : ℕ) → (n < k) ⊎ (k ≤ n)
order n k = grind arith

below_other : (n k : ℕ) → n < suc k → k ≢ n → n < k
below_other n k h other = told (order n k)
  where
    told : (n < k) ⊎ (k ≤ n) → n < k
    told (inl q) = q
    told (inr q) = absurd (other (omega (arith, q, h)))

times_below : (n k : ℕ) → n < k → times n (numbers_below k) ≡ 1
times_below n zero h = absurd (omega (arith, h))
times_below n (suc k) h = by_test (nat_eq k n) refl (times_below n k)
  where
    by_test : (b : Bool) → nat_eq k n ≡ b → (n < k → times n (numbers_below k) ≡ 1) → (if b then 1 else 0) + times n (numbers_below k) ≡ 1
    by_test true e later = let same = same_number k n e in ap (λ m. 1 + m) (times_above n k (omega (arith, same)))
    by_test false e later = let rest = later (below_other n k h (other_number k n e)) in omega (arith, rest)

header_is : (a b c : Option Named) (xs : List Named) → option_to_list (option_map name_number a) ++ option_to_list (option_map name_number b) ++ option_to_list (option_map name_number c) ++ map name_number xs ≡ map name_number (option_to_list a ++ option_to_list b ++ option_to_list c ++ xs)
header_is None None None xs = refl
header_is None None (Some z) xs = refl
header_is None (Some y) None xs = refl
header_is None (Some y) (Some z) xs = refl
header_is (Some x) None None xs = refl
header_is (Some x) None (Some z) xs = refl
header_is (Some x) (Some y) None xs = refl
header_is (Some x) (Some y) (Some z) xs = refl

-- ---- Trees

module _ (gs ns : List ℕ) (c : ℕ → Scope) where
  -- each name that is assigned there is listed
  abbrev Fine : List Mention → Type 0
  Fine ms = (m : Mention) → Has ms m → m.assigned ≡ true → IsListed gs ns (c m.name.0) m.name.0

  left_fine : (xs ys : List Mention) → Fine (xs ++ ys) → Fine xs
  left_fine xs ys f m h e = f m (has_left xs ys m h) e

  right_fine : (xs ys : List Mention) → Fine (xs ++ ys) → Fine ys
  right_fine xs ys f m h e = f m (has_right xs ys m h) e

  rest_fine : (x : Mention) (xs : List Mention) → Fine (x ∷ xs) → Fine xs
  rest_fine x xs f m h e = f m (suc h.0, h.1) e

  mutual
    tree_listed : (t : Tree) → Fine (tree_mentions t) → AssignsListed gs ns c t
    tree_listed (Numbers i p xs) f = tt
    tree_listed (Text i p cs) f = tt
    tree_listed (Name i p n) f = tt
    tree_listed (TextInput i p) f = tt
    tree_listed (NumsInput i p) f = tt
    tree_listed (Mono i p g a) f = tree_listed a f
    tree_listed (Dyad i p g a b) f =
        (tree_listed a (left_fine (tree_mentions a) (tree_mentions b) f), tree_listed b (right_fine (tree_mentions a) (tree_mentions b) f))
    tree_listed (Index i p a xs) f =
        (tree_listed a (left_fine (tree_mentions a) (trees_mentions xs) f), trees_listed xs (right_fine (tree_mentions a) (trees_mentions xs) f))
    tree_listed (Assign i p n a) f = (f _ (0, refl) refl, tree_listed a (rest_fine _ (tree_mentions a) f))
    tree_listed (AssignAt i p n xs a) f =
        let rest = rest_fine _ (trees_mentions xs ++ tree_mentions a) f in
        (f _ (0, refl) refl, trees_listed xs (left_fine (trees_mentions xs) (tree_mentions a) rest), tree_listed a (right_fine (trees_mentions xs) (tree_mentions a) rest))
    tree_listed (Show i p a) f = tree_listed a f
    tree_listed (Call i p n a b) f =
        let rest = rest_fine _ (argument_mentions a ++ argument_mentions b) f in
        (argument_listed a (left_fine (argument_mentions a) (argument_mentions b) rest), argument_listed b (right_fine (argument_mentions a) (argument_mentions b) rest))

    trees_listed : (xs : Trees) → Fine (trees_mentions xs) → EntriesListed gs ns c xs
    trees_listed no_more f = tt
    trees_listed (left_out xs) f = trees_listed xs f
    trees_listed (and_tree t xs) f =
        (tree_listed t (left_fine (tree_mentions t) (trees_mentions xs) f), trees_listed xs (right_fine (tree_mentions t) (trees_mentions xs) f))

    argument_listed : (a : Argument) → Fine (argument_mentions a) → ArgumentListed gs ns c a
    argument_listed absent f = tt
    argument_listed (given t) f = tree_listed t f

  quiet_listed : (t : Tree) → Fine (tree_mentions t) → ActionListed gs ns c (quiet_of t)
  quiet_listed (Call i p n a b) f = tree_listed (Call i p n a b) f
  quiet_listed (Numbers i p xs) f = tt
  quiet_listed (Text i p cs) f = tt
  quiet_listed (Name i p n) f = tt
  quiet_listed (TextInput i p) f = tt
  quiet_listed (NumsInput i p) f = tt
  quiet_listed (Mono i p g a) f = tree_listed (Mono i p g a) f
  quiet_listed (Dyad i p g a b) f = tree_listed (Dyad i p g a b) f
  quiet_listed (Index i p a xs) f = tree_listed (Index i p a xs) f
  quiet_listed (Assign i p n a) f = tree_listed (Assign i p n a) f
  quiet_listed (AssignAt i p n xs a) f = tree_listed (AssignAt i p n xs a) f
  quiet_listed (Show i p a) f = tree_listed (Show i p a) f

  action_listed : (q : Statement) → Fine (statement_mentions q) → ActionListed gs ns c (action_of q)
  action_listed st.Empty f = tt
  action_listed (st.Quiet n) f = quiet_listed (tree_of n) f
  action_listed (st.Display n) f = tree_listed (tree_of n) f
  action_listed (st.Branch p n) f = tree_listed (tree_of n) f

-- ---- What a name is

heads : (n i : ℕ) (fs : List Function) (j : ℕ) → function_number n i fs ≡ Some j → stands_in n (function_names (map outline fs)) ≡ true
heads n i [] j e = absurd (none_some j e)
heads n i (f ∷ fs) j e = by_test (is_named n f.name) e (heads n (i + 1) fs j)
  where
    by_test : (b : Bool) → (if b then Some i else function_number n (i + 1) fs) ≡ Some j → (function_number n (i + 1) fs ≡ Some j → stands_in n (function_names (map outline fs)) ≡ true) → b || stands_in n (function_names (map outline fs)) ≡ true
    by_test true q later = refl
    by_test false q later = later q

labelled : (n i : ℕ) (ls : List Line) (j : ℕ) → label_line n i ls ≡ Some j → stands_in n (labels_in ls) ≡ true
labelled n i [] j e = absurd (none_some j e)
labelled n i (l ∷ ls) j e = by_label l.label e (labelled n (i + 1) ls j)
  where
    by_label : (x : Option Named) → (if is_label n x then Some i else label_line n (i + 1) ls) ≡ Some j → (label_line n (i + 1) ls ≡ Some j → stands_in n (labels_in ls) ≡ true) → stands_in n (option_to_list x ++ labels_in ls) ≡ true
    by_label None q later = later q
    by_label (Some x) q later = by_test (is_named n x) q
      where
        by_test : (b : Bool) → (if b then Some i else label_line n (i + 1) ls) ≡ Some j → b || stands_in n (labels_in ls) ≡ true
        by_test true q = refl
        by_test false q = later q

-- ---- Programs

module _ (p : Program) (grammatical : IsGrammatical p) (clean : IsClean p) (i : ℕ) (f : Function) (found : slice_get p.functions i ≡ Some f) where
  here : slice_get (outlines p) i ≡ Some (outline f)
  here = get_map outline p.functions i f found

  locals_once : IsOnce (local_names_of f)
  locals_once a b y x first second before same =
      clean (refusal twice x.place) (in_function record {
        index = i;
        item = outline f;
        found = here;
        gives = local_again record { index = b; item = x; found = second; gives = record { index = a; item = y; found = first; before = before; same = same; is = refl } };
      })

  header_once : IsOnce (header_names f)
  header_once a b y x first second before same =
      locals_once a b y x (get_left (header_names f) (labels_in f.lines) y a first) (get_left (header_names f) (labels_in f.lines) x b second) before same

  not_fixed : (m : Mention) → Has (lines_mentions f.lines) m → m.assigned ≡ true → stands_in m.name.0 (labels_in f.lines) || stands_in m.name.0 (function_names (outlines p)) ≡ true → ⊥
  not_fixed m h changed fixed =
      clean (refusal assigned m.place) (in_function record {
        index = i;
        item = outline f;
        found = here;
        gives = name_assigned record { index = h.0; item = m; found = h.1; gives = record { changed = changed; fixed = fixed; is = refl } };
      })

  mention_below : (m : Mention) → Has (lines_mentions f.lines) m → m.name.0 < length p.names
  mention_below m h =
      let all = at_place (λ (g : Function). IsOutlineBelow (length p.names) (outline g)) p.functions i f (recursion_from_All (λ (g : Function). IsOutlineBelow (length p.names) (outline g)) p.functions grammatical.below.1) found in
      at_place (λ (m : Mention). m.name.0 < length p.names) (lines_mentions f.lines) h.0 m (recursion_from_All (λ (m : Mention). m.name.0 < length p.names) (lines_mentions f.lines) all.2) h.1

  abbrev globals : List ℕ
  globals = numbers_below (length p.names)

  abbrev headed : List ℕ
  headed = names_of_header (routine_of p f)

  name_listed : (m : Mention) → Has (lines_mentions f.lines) m → m.assigned ≡ true → IsListed globals headed (scope_in p.functions f m.name.0) m.name.0
  name_listed m h changed = by_scope (function_number n 0 p.functions) refl (label_line n 1 f.lines) refl (stands_in n (header_names f)) refl
    where
      n : ℕ
      n = m.name.0

      by_scope : (a : Option ℕ) → function_number n 0 p.functions ≡ a → (b : Option ℕ) → label_line n 1 f.lines ≡ b → (t : Bool) → stands_in n (header_names f) ≡ t → IsListed globals headed (function_or a (label_or b (local_or_global t))) n
      by_scope (Some j) q b r t s = absurd (not_fixed m h changed (or_right (stands_in n (labels_in f.lines)) (stands_in n (function_names (outlines p))) (heads n 0 p.functions j q)))
      by_scope None q (Some l) r t s = absurd (not_fixed m h changed (or_left (stands_in n (labels_in f.lines)) (stands_in n (function_names (outlines p))) (labelled n 1 f.lines l r)))
      by_scope None q None r true s = subst (λ (xs : List ℕ). times n xs ≡ 1) (sym (header_is f.result f.left f.right f.locals)) (times_once n (header_names f) header_once s)
      by_scope None q None r false s = times_below n (length p.names) (mention_below m h)

  line_listed : (j : ℕ) (x : Action) → slice_get (map line_action f.lines) j ≡ Some x → ActionListed globals headed (scope_in p.functions f) x
  line_listed j x e =
      let l = mapped line_action f.lines j x e in
      subst (λ (x : Action). ActionListed globals headed (scope_in p.functions f) x) (sym l.2)
      (action_listed globals headed (scope_in p.functions f) l.0.statement (λ m h changed.
      name_listed m (has_flat line_mentions f.lines j l.0 m l.1 (has_right (label_mention l.0.label) (statement_mentions l.0.statement) m h)) changed))

pub assigns_its_names : (p : Program) → AssignsItsNames p
assigns_its_names p grammatical clean i j f x is at =
    let g = mapped (routine_of p) p.functions i f is in
    subst (λ (f : Routine). slice_get f.lines j ≡ Some x → ActionListed (numbers_below (length p.names)) (names_of_header f) f.scope x) (sym g.2)
    (λ (e : slice_get (map line_action g.0.lines) j ≡ Some x). line_listed p grammatical clean i g.0 g.1 j x e) at
