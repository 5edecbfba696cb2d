-- An evaluation leaves the account at the sum of what names' values count and statements hold.
use Rattle.std.proofs.Common.{◌≡◌, ℕ, zero, suc, ◌+◌, ◌≤◌, List, [], ◌∷◌, length, Option, Some, None, refl, sym, ap, ◌∙◌, arith, Bool, true, false, ℤ, pos, inl, inr, ◌⊎◌}
use Rattle.std.specs.Prelude.{◌≢◌, chars, Result, Ok, Err, map, slice_get, nat_eq, nat_lt, if◌then◌else◌, ◌&&◌, ◌||◌}
use Rattle.std.proofs.lemmas.Bool.{eq-eqb, ne_eqb}
use Rattle.std.proofs.lemmas.Bool.Decides.{eqb_tells}
use Rattle.std.proofs.lemmas.List.Sums.{sum_by-cons}
use Rattle.aplc_scalar.specs.declared.kind.FaultKind.{FaultKind}
use Rattle.aplc_scalar.specs.declared.kind.FaultKind.TheVariants as fault
use Rattle.aplc_scalar.specs.declared.kind.Kind.{Kind}
use Rattle.aplc_scalar.specs.declared.kind.Kind.TheVariants.{Num, Char}
use Rattle.aplc_scalar.specs.Input.{InputLine, Line, Unread, input_line, number_line, line_text}
use Rattle.aplc_arr.specs.Arrays.{Array, product, kind_eq, shape_eq}
use Rattle.aplc_arr.specs.Delayed.{Delayed, Prepared, needs, cells_of}
use Rattle.aplc_arr.specs.Indexing.{indexed, changed, joined_shape, all_numbers, entries_suit, places_within, settings, set_all}
use Rattle.aplc_syntax.specs.PlainTrees.{Tree, Numbers, Text, Name, TextInput, NumsInput, Mono, Dyad, Index, Assign, AssignAt, Show, Call, Trees, no_more, left_out, and_tree, Argument, absent, given, id_of}
use Rattle.aplc_names.specs.declared.scope.Scope.{Scope}
use Rattle.aplc_names.specs.declared.scope.Scope.TheVariants as scope
use Rattle.aplc_names.specs.PlainPrograms.{Action, nothing, quiet, perform, display, branch, Routine, PlainProgram, names_of_header}
use Rattle.aplc_names.specs.Primitives.{mono_of, dyad_of}
use Rattle.aplc_names.specs.States.{Values, depth, World, State, Marking, Outcome, Gives, Faulted, Going, and_then, on_world, on_account, set_name, no_values, worked, weight, weight_of, released, ended}
use Rattle.aplc_names.specs.Eager.{Caller, Context, Use, passed, stored, displayed, held_for, stored_for, literal, vector, ready, filled, made, value_of_name, there, read_line, with_value, assigned, put, change, change_there, held_for_argument, function_of, called, value, values, argument, branch_to, branched, statement}
use Rattle.aplc_names.specs.Runs.{Runner, count_of, entered, back, call_routine, caller, line_at, started, from_line, context, run}
use Rattle.aplc_names.specs.Balance.{Waiting, count_of_waiting, times, IsListed, AssignsListed, EntriesListed, ArgumentListed, ActionListed, IsAssigningListed, EndsBalanced, StaysBalanced}

-- ---- A name is given a value

clash : true ≡ false → ⊥
clash e = cc

count-cons : (n : ℕ) (ns : List ℕ) (vs : Values) → count_of (n ∷ ns) vs ≡ weight_of (vs n) + count_of ns vs
count-cons n ns vs = sum_by-cons (λ x. x) (weight_of (vs n)) (map (λ n. weight_of (vs n)) ns)

-- a name that does not stand there
count-absent : (n : ℕ) (ns : List ℕ) (v : Option Array) (vs : Values) → times n ns ≡ 0 → count_of ns (set_name n v vs) ≡ count_of ns vs
count-absent n [] v vs h = refl
count-absent n (m ∷ ms) v vs h = by_test (nat_eq m n) refl h (count-absent n ms v vs)
  where
    by_test : (b : Bool) → nat_eq m n ≡ b → (if b then 1 else 0) + times n ms ≡ 0 → (times n ms ≡ 0 → count_of ms (set_name n v vs) ≡ count_of ms vs) → count_of (m ∷ ms) (set_name n v vs) ≡ count_of (m ∷ ms) vs
    by_test true e h later = absurd (omega (arith, h))
    by_test false e h later =
        let other : nat_eq n m ≡ false = ne_eqb n m (λ (q : n ≡ m). absurd (clash (sym (eq-eqb m n (sym q)) ∙ e))) in
        let same : weight_of (set_name n v vs m) ≡ weight_of (vs m) = ap (λ b. weight_of (if b then v else vs m)) other in
        let rest = later (omega (arith, h)) in
        omega (arith, count-cons m ms (set_name n v vs), count-cons m ms vs, same, rest)

-- a name that stands there once
count-set : (n : ℕ) (ns : List ℕ) (v : Option Array) (vs : Values) → times n ns ≡ 1 → count_of ns (set_name n v vs) + weight_of (vs n) ≡ count_of ns vs + weight_of v
count-set n [] v vs h = absurd (omega (arith, h))
count-set n (m ∷ ms) v vs h = by_test (nat_eq m n) refl h (count-set n ms v vs)
  where
    equal : ((nat_eq m n ≡ true) × (m ≡ n)) ⊎ ((nat_eq m n ≡ false) × (m ≢ n)) → nat_eq m n ≡ true → m ≡ n
    equal (inl q) e = q.1
    equal (inr q) e = absurd (clash (sym e ∙ q.0))

    by_test : (b : Bool) → nat_eq m n ≡ b → (if b then 1 else 0) + times n ms ≡ 1 → (times n ms ≡ 1 → count_of ms (set_name n v vs) + weight_of (vs n) ≡ count_of ms vs + weight_of v) → count_of (m ∷ ms) (set_name n v vs) + weight_of (vs n) ≡ count_of (m ∷ ms) vs + weight_of v
    by_test true e h later =
        let same : m ≡ n = equal (eqb_tells m n) e in
        let here : weight_of (set_name n v vs m) ≡ weight_of v = ap (λ b. weight_of (if b then v else vs m)) (eq-eqb n m (sym same)) in
        let old : weight_of (vs m) ≡ weight_of (vs n) = ap (λ k. weight_of (vs k)) same in
        let rest = count-absent n ms v vs (omega (arith, h)) in
        omega (arith, count-cons m ms (set_name n v vs), count-cons m ms vs, here, old, rest)
    by_test false e h later =
        let other : nat_eq n m ≡ false = ne_eqb n m (λ (q : n ≡ m). clash (sym (eq-eqb m n (sym q)) ∙ e)) in
        let same : weight_of (set_name n v vs m) ≡ weight_of (vs m) = ap (λ b. weight_of (if b then v else vs m)) other in
        let rest = later (omega (arith, h)) in
        omega (arith, count-cons m ms (set_name n v vs), count-cons m ms vs, same, rest)

count-none : (ns : List ℕ) → count_of ns no_values ≡ 0
count-none [] = refl
count-none (n ∷ ns) = let rest = count-none ns in omega (arith, count-cons n ns no_values, rest)

-- ---- An array that is changed keeps its shape

needs-ok : {A : Type 0} (b : Bool) (k : FaultKind) (r : Result A FaultKind) (x : A) → needs b k r ≡ Ok x → r ≡ Ok x
needs-ok true k r x e = e
needs-ok false k r x e = absurd cc

ok-shape : (a new : Array) (zs : List ℤ) (r : Result Array FaultKind) → r ≡ Ok (record a { cells = zs }) → r ≡ Ok new → new.shape ≡ a.shape
ok-shape a new zs r e q = ap (λ (x : Result Array FaultKind). shape-of x) (sym q ∙ e)
  where
    shape-of : Result Array FaultKind → List ℕ
    shape-of (Ok x) = x.shape
    shape-of (Err k) = []

changed-shape : (o : ℤ) (a : Array) (js : List (Option Array)) (v new : Array) → changed o a js v ≡ Ok new → new.shape ≡ a.shape
changed-shape o a js v new e =
    let cells = set_all (settings o a js v) a.cells in
    let r0 : Result Array FaultKind = Ok (record a { cells = cells }) in
    let r1 = needs (places_within o a.shape js) fault.Index r0 in
    let r2 = needs (nat_eq (product v.shape) 1 || shape_eq v.shape (joined_shape a.shape js)) fault.Length r1 in
    let r3 = needs (entries_suit a.shape js) fault.Rank r2 in
    ok-shape a new cells r0 refl
    (needs-ok (places_within o a.shape js) fault.Index r0 new
    (needs-ok (nat_eq (product v.shape) 1 || shape_eq v.shape (joined_shape a.shape js)) fault.Length r1 new
    (needs-ok (entries_suit a.shape js) fault.Rank r2 new
    (needs-ok (all_numbers js && kind_eq a.kind v.kind) fault.Domain r3 new e))))

module _ (gs : List ℕ) where
  -- what all names count where the innermost frame has the names ns
  abbrev pub total : List ℕ → World → ℕ
  total ns w = count_of gs w.globals + count_of ns w.locals

  -- besides b, so much, and the holds of the statement
  abbrev pub Amounts : List ℕ → ℕ → ℕ → State → Type 0
  Amounts ns b more s = s.account.now ≡ total ns s.world + s.account.held + b + more

  -- an evaluation that gives v leaves it so with as much more as `more v`, and with `held v` above h in holds
  abbrev pub Leaves : {A : Type 0} → List ℕ → ℕ → ℕ → (A → ℕ) → (A → ℕ) → Outcome A → Type 0
  Leaves ns b h more held (Gives v t) = Amounts ns b (more v) t × (h + held v ≤ t.account.held)
  Leaves ns b h more held (Faulted k t) = Unit {0}
  Leaves ns b h more held (Going t) = Unit {0}

  leaves-then : {A B : Type 0} (ns : List ℕ) (b h i : ℕ) (more held : A → ℕ) (extra keep : B → ℕ) (o : Outcome A) (next : A → State → Outcome B) → Leaves ns b h more held o → ((v : A) (t : State) → Amounts ns b (more v) t → h + held v ≤ t.account.held → Leaves ns b i extra keep (next v t)) → Leaves ns b i extra keep (and_then o next)
  leaves-then ns b h i more held extra keep (Gives v t) next q g = g v t q.0 q.1
  leaves-then ns b h i more held extra keep (Faulted k t) next q g = tt
  leaves-then ns b h i more held extra keep (Going t) next q g = tt

  abbrev stored_more : Use → Array → ℕ
  stored_more u v = stored_for u v.shape

  abbrev held_more : Context → ℕ → Array → ℕ
  held_more c i v = held_for c.marking i v.shape

  module _ (ns : List ℕ) (b : ℕ) where
    leaves-ready : (c : Context) (i : ℕ) (u : Use) (n h : ℕ) (v : Array) (s : State) → Amounts ns b 0 s → h ≤ s.account.held → Leaves ns b h (stored_more u) (held_more c i) (ready c i u n v s)
    leaves-ready c i u n h v s e le = (omega (arith, e), omega (arith, le))

    leaves-filled : (c : Context) (i : ℕ) (u : Use) (n h : ℕ) (d : Delayed) (r : Result (List ℤ) FaultKind) (s : State) → Amounts ns b (stored_for u d.shape) s → h + held_for c.marking i d.shape ≤ s.account.held → Leaves ns b h (stored_more u) (held_more c i) (filled c i n d r s)
    leaves-filled c i u n h d (Ok zs) s q le = (q, le)
    leaves-filled c i u n h d (Err k) s q le = tt

    leaves-made : (c : Context) (i : ℕ) (u : Use) (f g : List ℕ → ℕ) (h : ℕ) (r : Prepared) (s : State) → Amounts ns b 0 s → h ≤ s.account.held → Leaves ns b h (stored_more u) (held_more c i) (made c i u f g r s)
    leaves-made c i u f g h (Err k) s e le = tt
    leaves-made c i u f g h (Ok d) s e le = leaves-filled c i u _ h d (cells_of d) _ (omega (arith, e)) (omega (arith, le))

    leaves-there : (c : Context) (i : ℕ) (u : Use) (h : ℕ) (v : Option Array) (s : State) → Amounts ns b 0 s → h ≤ s.account.held → Leaves ns b h (stored_more u) (held_more c i) (there c i u v s)
    leaves-there c i u h None s e le = tt
    leaves-there c i u h (Some v) s e le = leaves-ready c i u (product v.shape) h v s e le

    leaves-read : (c : Context) (i : ℕ) (u : Use) (h : ℕ) (k : Kind) (x : InputLine) (s : State) → Amounts ns b 0 s → h ≤ s.account.held → Leaves ns b h (stored_more u) (held_more c i) (read_line c i u k x s)
    leaves-read c i u h k (Unread f) s e le = tt
    leaves-read c i u h k (Line zs rest) s e le = leaves-ready c i u (length zs + length (chars (line_text s.world.input))) h (vector k zs) (on_world (λ w. record w { input = rest }) s) e le

    assigned-amounts : (x : Scope) (n : ℕ) (v : Array) (s : State) → IsListed gs ns x n → Amounts ns b (weight v.shape) s → Amounts ns b 0 (assigned x n v s)
    assigned-amounts scope.Local n v s listed e = let q = count-set n ns (Some v) s.world.locals listed in omega (arith, e, q)
    assigned-amounts scope.Global n v s listed e = let q = count-set n gs (Some v) s.world.globals listed in omega (arith, e, q)
    assigned-amounts (scope.Label z) n v s listed e = absurd listed
    assigned-amounts (scope.Function j) n v s listed e = absurd listed

    assigned-held : (x : Scope) (n : ℕ) (v : Array) (s : State) → (assigned x n v s).account.held ≡ s.account.held
    assigned-held scope.Local n v s = refl
    assigned-held scope.Global n v s = refl
    assigned-held (scope.Label z) n v s = refl
    assigned-held (scope.Function j) n v s = refl

    -- a value of the same shape in its name
    changed-total : (x : Scope) (n : ℕ) (old new : Array) (w : World) → IsListed gs ns x n → value_of_name x n w ≡ Some old → new.shape ≡ old.shape → total ns (with_value x n new w) ≡ total ns w
    changed-total scope.Local n old new w listed is same =
        let q = count-set n ns (Some new) w.locals listed in
        let e : weight_of (w.locals n) ≡ weight old.shape = ap weight_of is in
        let g : weight new.shape ≡ weight old.shape = ap weight same in
        omega (arith, q, e, g)
    changed-total scope.Global n old new w listed is same =
        let q = count-set n gs (Some new) w.globals listed in
        let e : weight_of (w.globals n) ≡ weight old.shape = ap weight_of is in
        let g : weight new.shape ≡ weight old.shape = ap weight same in
        omega (arith, q, e, g)
    changed-total (scope.Label z) n old new w listed is same = absurd listed
    changed-total (scope.Function j) n old new w listed is same = absurd listed

    leaves-change : (c : Context) (i : ℕ) (u : Use) (n h : ℕ) (js : List (Option Array)) (v : Array) (o : Option Array) (s : State) → value_of_name (c.scope n) n s.world ≡ o → IsListed gs ns (c.scope n) n → Amounts ns b 0 s → h ≤ s.account.held → Leaves ns b h (stored_more u) (held_more c i) (change_there c i u n js v o s)
    leaves-change c i u n h js v None s is listed e le = tt
    leaves-change c i u n h js v (Some old) s is listed e le = by_result (changed c.origin old js v) refl
      where
        by_result : (r : Result Array FaultKind) → changed c.origin old js v ≡ r → Leaves ns b h (stored_more u) (held_more c i) (change c i u n js v old r s)
        by_result (Err k) q = tt
        by_result (Ok new) q =
            let same = changed-total (c.scope n) n old new s.world listed is (changed-shape c.origin old js v new q) in
            leaves-ready c i u (product (joined_shape old.shape js)) h v (on_world (with_value (c.scope n) n new) s) (omega (arith, e, same)) le

    -- a call leaves what is held as it is
    abbrev pub CallLeaves : ℕ → Outcome (Option Array) → Type 0
    CallLeaves k (Gives r t) = Amounts ns b 0 t × (t.account.held ≡ k)
    CallLeaves k (Faulted e t) = Unit {0}
    CallLeaves k (Going t) = Unit {0}

    abbrev pub CallsLeave : Caller → Type 0
    CallsLeave g = (j : ℕ) (x y : Option Array) (s : State) → Amounts ns b 0 s → CallLeaves s.account.held (g j x y s)

    from-call : (h k : ℕ) (o : Outcome (Option Array)) → h ≤ k → CallLeaves k o → Leaves ns b h (λ r. 0) (λ r. 0) o
    from-call h k (Gives r t) le q = let held = q.1 in (q.0, omega (arith, held, le))
    from-call h k (Faulted e t) le q = tt
    from-call h k (Going t) le q = tt

    leaves-called : (c : Context) → CallsLeave c.call → (n h : ℕ) (a d : Argument) (x y : Option Array) (s : State) → Amounts ns b 0 s → h + held_for_argument c.marking d y + held_for_argument c.marking a x ≤ s.account.held → Leaves ns b h (λ r. 0) (λ r. 0) (called c n a d x y s)
    leaves-called c calls n h a d x y s e le =
        let t : State = on_account (released (held_for_argument c.marking a x + held_for_argument c.marking d y)) s in
        from-call h t.account.held _ (omega (arith, le)) (calls (function_of (c.scope n)) x y t (omega (arith, e, le)))

    abbrev none-more : {A : Type 0} → A → ℕ
    none-more v = 0

    mutual
      leaves-value : (c : Context) → CallsLeave c.call → (t : Tree) → AssignsListed gs ns c.scope t → (u : Use) (h : ℕ) (s : State) → Amounts ns b 0 s → h ≤ s.account.held → Leaves ns b h (stored_more u) (held_more c (id_of t)) (value c t u s)
      leaves-value c calls (Numbers i p xs) listed u h s e le = leaves-ready c i u (length xs) h (literal Num xs) s e le
      leaves-value c calls (Text i p cs) listed u h s e le = leaves-ready c i u (length cs) h (literal Char (map pos cs)) s e le
      leaves-value c calls (Name i p n) listed u h s e le = leaves-there c i u h (value_of_name (c.scope n) n s.world) s e le
      leaves-value c calls (TextInput i p) listed u h s e le = leaves-read c i u h Char (input_line s.world.input) s e le
      leaves-value c calls (NumsInput i p) listed u h s e le = leaves-read c i u h Num (number_line s.world.input) s e le
      leaves-value c calls (Mono i p f a) listed u h s e le =
          leaves-then ns b h h (stored_more passed) (held_more c (id_of a)) (stored_more u) (held_more c i) (value c a passed s) _ (leaves-value c calls a listed passed h s e le) (λ y t q l. leaves-made c i u _ _ h (mono_of c.origin f y) t q (omega (arith, l)))
      leaves-value c calls (Dyad i p f a d) listed u h s e le =
          leaves-then ns b h h (stored_more passed) (held_more c (id_of d)) (stored_more u) (held_more c i) (value c d passed s) _ (leaves-value c calls d listed.1 passed h s e le) (λ y t q l.
          leaves-then ns b h h (stored_more passed) (held_more c (id_of a)) (stored_more u) (held_more c i) (value c a passed t) _ (leaves-value c calls a listed.0 passed h t q (omega (arith, l))) (λ x z r k. leaves-made c i u _ _ h (dyad_of c.origin f x y) z r (omega (arith, k))))
      leaves-value c calls (Index i p a xs) listed u h s e le =
          leaves-then ns b h h none-more none-more (stored_more u) (held_more c i) (values c xs s) _ (leaves-values c calls xs listed.1 h s e le) (λ js t q l.
          leaves-then ns b h h (stored_more passed) (held_more c (id_of a)) (stored_more u) (held_more c i) (value c a passed t) _ (leaves-value c calls a listed.0 passed h t q (omega (arith, l))) (λ x z r k. leaves-made c i u _ _ h (indexed c.origin x js) z r (omega (arith, k))))
      leaves-value c calls (Assign i p n a) listed u h s e le =
          leaves-then ns b h h (stored_more stored) (held_more c (id_of a)) (stored_more u) (held_more c i) (value c a stored s) _ (leaves-value c calls a listed.1 stored h s e le) (λ v t q l.
          let held = assigned-held (c.scope n) n v t in
          leaves-ready c i u (product v.shape) h v (assigned (c.scope n) n v t) (assigned-amounts (c.scope n) n v t listed.0 q) (omega (arith, l, held)))
      leaves-value c calls (AssignAt i p n xs a) listed u h s e le =
          leaves-then ns b h h (stored_more passed) (held_more c (id_of a)) (stored_more u) (held_more c i) (value c a passed s) _ (leaves-value c calls a listed.2 passed h s e le) (λ v t q l.
          leaves-then ns b h h none-more none-more (stored_more u) (held_more c i) (values c xs t) _ (leaves-values c calls xs listed.1 h t q (omega (arith, l))) (λ js z r k. leaves-change c i u n h js v (value_of_name (c.scope n) n z.world) z refl listed.0 r (omega (arith, k))))
      leaves-value c calls (Show i p a) listed u h s e le =
          leaves-then ns b h h (stored_more displayed) (held_more c (id_of a)) (stored_more u) (held_more c i) (value c a displayed s) _ (leaves-value c calls a listed displayed h s e le) (λ v t q l. leaves-ready c i u 0 h v (put v t) q (omega (arith, l)))
      leaves-value c calls (Call i p n a d) listed u h s e le =
          leaves-then ns b h h none-more (held_for_argument c.marking d) (stored_more u) (held_more c i) (argument c d s) _ (leaves-argument c calls d listed.1 h s e le) (λ y t q l.
          leaves-then ns b (h + held_for_argument c.marking d y) h none-more (held_for_argument c.marking a) (stored_more u) (held_more c i) (argument c a t) _ (leaves-argument c calls a listed.0 (h + held_for_argument c.marking d y) t q l) (λ x z r k.
          leaves-then ns b h h none-more none-more (stored_more u) (held_more c i) (called c n a d x y z) _ (leaves-called c calls n h a d x y z r k) (λ v w g m. leaves-there c i u h v w g (omega (arith, m)))))

      leaves-values : (c : Context) → CallsLeave c.call → (xs : Trees) → EntriesListed gs ns c.scope xs → (h : ℕ) (s : State) → Amounts ns b 0 s → h ≤ s.account.held → Leaves ns b h none-more none-more (values c xs s)
      leaves-values c calls no_more listed h s e le = (e, omega (arith, le))
      leaves-values c calls (left_out xs) listed h s e le = leaves-then ns b h h none-more none-more none-more none-more (values c xs s) _ (leaves-values c calls xs listed h s e le) (λ vs t q l. (q, l))
      leaves-values c calls (and_tree x xs) listed h s e le =
          leaves-then ns b h h none-more none-more none-more none-more (values c xs s) _ (leaves-values c calls xs listed.1 h s e le) (λ vs t q l.
          leaves-then ns b h h (stored_more passed) (held_more c (id_of x)) none-more none-more (value c x passed t) _ (leaves-value c calls x listed.0 passed h t q (omega (arith, l))) (λ v z r k. (r, omega (arith, k))))

      leaves-argument : (c : Context) → CallsLeave c.call → (a : Argument) → ArgumentListed gs ns c.scope a → (h : ℕ) (s : State) → Amounts ns b 0 s → h ≤ s.account.held → Leaves ns b h none-more (held_for_argument c.marking a) (argument c a s)
      leaves-argument c calls absent listed h s e le = (e, omega (arith, le))
      leaves-argument c calls (given t) listed h s e le =
          leaves-then ns b h h (stored_more passed) (held_more c (id_of t)) none-more (held_for_argument c.marking (given t)) (value c t passed s) _ (leaves-value c calls t listed passed h s e le) (λ v z q l. (q, l))

    -- ---- Statements

    abbrev pub Ends : {A : Type 0} → Outcome A → Type 0
    Ends (Gives to t) = Amounts ns b 0 t × (t.account.held ≡ 0)
    Ends (Faulted k t) = Unit {0}
    Ends (Going t) = Unit {0}

    ends-then : {A B : Type 0} (h : ℕ) (more held : A → ℕ) (o : Outcome A) (next : A → State → Outcome B) → Leaves ns b h more held o → ((v : A) (t : State) → Amounts ns b (more v) t → h + held v ≤ t.account.held → Ends (next v t)) → Ends (and_then o next)
    ends-then h more held (Gives v t) next q g = g v t q.0 q.1
    ends-then h more held (Faulted k t) next q g = tt
    ends-then h more held (Going t) next q g = tt

    ended-amounts : (s : State) → Amounts ns b 0 s → Amounts ns b 0 (on_account ended s)
    ended-amounts s e = omega (arith, e)

    ends-branched : (r : Result (Option ℕ) FaultKind) (s : State) → Amounts ns b 0 s → Ends (branched r s)
    ends-branched (Ok to) s e = (ended-amounts s e, refl)
    ends-branched (Err k) s e = tt

    ends-statement : (c : Context) → CallsLeave c.call → (x : Action) → ActionListed gs ns c.scope x → (s : State) → Amounts ns b 0 s → s.account.held ≡ 0 → Ends (statement c x s)
    ends-statement c calls nothing listed s e none = (e, none)
    ends-statement c calls (quiet t) listed s e none =
        ends-then 0 (stored_more passed) (held_more c (id_of t)) (value c t passed s) _ (leaves-value c calls t listed passed 0 s e (omega arith)) (λ v z q l. (ended-amounts z q, refl))
    ends-statement c calls (perform i p n a d) listed s e none =
        ends-then 0 none-more (held_for_argument c.marking d) (argument c d s) _ (leaves-argument c calls d listed.1 0 s e (omega arith)) (λ y t q l.
        ends-then (held_for_argument c.marking d y) none-more (held_for_argument c.marking a) (argument c a t) _ (leaves-argument c calls a listed.0 (held_for_argument c.marking d y) t q (omega (arith, l))) (λ x z r k.
        ends-then 0 none-more none-more (called c n a d x y z) _ (leaves-called c calls n 0 a d x y z r (omega (arith, k))) (λ v w g m. (ended-amounts (on_world (worked 1) w) g, refl))))
    ends-statement c calls (display t) listed s e none =
        ends-then 0 (stored_more displayed) (held_more c (id_of t)) (value c t displayed s) _ (leaves-value c calls t listed displayed 0 s e (omega arith)) (λ v z q l. (ended-amounts (put v z) q, refl))
    ends-statement c calls (branch p t) listed s e none =
        ends-then 0 (stored_more passed) (held_more c (id_of t)) (value c t passed s) _ (leaves-value c calls t listed passed 0 s e (omega arith)) (λ v z q l. ends-branched (branch_to v) z q)

  -- ---- Runs

  -- what a run that is left leaves
  abbrev RunsEnd : PlainProgram → Runner → Type 0
  RunsEnd p r = (i : ℕ) (f : Routine) (l b : ℕ) (s : State) → slice_get p.routines i ≡ Some f → Amounts (names_of_header f) b 0 s → s.account.held ≡ 0 → Ends (names_of_header f) b (r f l s)

  calls-end : (p : PlainProgram) (r : Runner) → RunsEnd p r → (ns : List ℕ) (b : ℕ) → CallsLeave ns b (caller p r)
  calls-end p r runs ns b j x y s e = by_function (slice_get p.routines j) refl
    where
      returned : (f : Routine) (o : Outcome (Option Array)) → Ends (names_of_header f) (count_of ns s.world.locals + s.account.held + b) o → CallLeaves ns b s.account.held (and_then o (λ v t. Gives v (back f s t)))
      returned f (Gives v t) q = let amounts = q.0 in let none = q.1 in (omega (arith, amounts, none), refl)
      returned f (Faulted k t) q = tt
      returned f (Going t) q = tt

      by_depth : (f : Routine) → slice_get p.routines j ≡ Some f → (t : Bool) → CallLeaves ns b s.account.held (if t then and_then (r f 1 (entered f x y s)) (λ v t. Gives v (back f s t)) else Faulted fault.Limit s)
      by_depth f is true = returned f (r f 1 (entered f x y s)) (runs j f 1 (count_of ns s.world.locals + s.account.held + b) (entered f x y s) is (omega (arith, e)) refl)
      by_depth f is false = tt

      by_function : (o : Option Routine) → slice_get p.routines j ≡ o → CallLeaves ns b s.account.held (call_routine r o x y s)
      by_function None is = tt
      by_function (Some f) is = by_depth f is (nat_lt (depth s.world.places) 4096)

  ends-line : (p : PlainProgram) → IsAssigningListed gs p → (m : Marking) (r : Runner) → RunsEnd p r → (i : ℕ) (f : Routine) → slice_get p.routines i ≡ Some f → (l : ℕ) (x : Option Action) → line_at f.lines l ≡ x → (k b : ℕ) (s : State) → Amounts (names_of_header f) b 0 s → s.account.held ≡ 0 → Ends (names_of_header f) b (from_line (context p m r f) f (r f) l x k s)
  ends-line p listed m r runs i f is l None at k b s e none = (e, none)
  ends-line p listed m r runs i f is l (Some x) at zero b s e none = tt
  ends-line p listed m r runs i f is zero (Some x) at (suc k) b s e none = absurd cc
  ends-line p listed m r runs i f is (suc l) (Some x) at (suc k) b s e none =
      let ns = names_of_header f in
      let t : State = on_world (started (suc l) x k) s in
      ends-on ns b (statement (context p m r f) x t) _ (ends-statement ns b (context p m r f) (calls-end p r runs ns b) x (listed i l f x is at) t e none) (λ to u q held. runs i f _ b u is q held)
    where
      ends-on : {A B : Type 0} (ns : List ℕ) (b : ℕ) (o : Outcome A) (next : A → State → Outcome B) → Ends ns b o → ((v : A) (t : State) → Amounts ns b 0 t → t.account.held ≡ 0 → Ends ns b (next v t)) → Ends ns b (and_then o next)
      ends-on ns b (Gives v t) next q g = g v t q.0 q.1
      ends-on ns b (Faulted k t) next q g = tt
      ends-on ns b (Going t) next q g = tt

  ends-run : (p : PlainProgram) → IsAssigningListed gs p → (m : Marking) (k : ℕ) → RunsEnd p (run p m k)
  ends-run p listed m zero i f l b s is e none = tt
  ends-run p listed m (suc k) i f l b s is e none = ends-line p listed m (run p m k) (ends-run p listed m k) i f is l (line_at f.lines l) refl s.world.left b s e none

  ends-balanced : (ns : List ℕ) (callers : List Waiting) (o : Outcome (Option ℕ)) → Ends ns (count_of_waiting callers) o → EndsBalanced gs ns callers o
  ends-balanced ns callers (Gives to t) q = let amounts = q.0 in (omega (arith, amounts), q.1)
  ends-balanced ns callers (Faulted k t) q = tt
  ends-balanced ns callers (Going t) q = tt

  pub stays : (p : PlainProgram) → IsAssigningListed gs p → StaysBalanced gs p
  stays p listed = record {
    begins = λ f input n. (let none = count-none gs in let unset = count-none (names_of_header f) in omega (arith, none, unset));
    enters = λ f x y s ns callers e. omega (arith, e);
    ends = λ m k i j f x s callers is at e none. ends-balanced (names_of_header f) callers _ (ends-statement (names_of_header f) (count_of_waiting callers) (context p m (run p m k) f) (calls-end p (run p m k) (ends-run p listed m k) (names_of_header f) (count_of_waiting callers)) x (listed i j f x is at) s (omega (arith, e)) none);
  }

pub stays_balanced : (gs : List ℕ) (p : PlainProgram) → IsAssigningListed gs p → StaysBalanced gs p
stays_balanced gs p listed = stays gs p listed
