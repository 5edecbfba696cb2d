-- A function that was called stands before its first line.
use Rattle.std.proofs.Common.{◌≡◌, ℕ, suc, ◌+◌, ◌*◌, ◌<◌, List, [], ◌∷◌, ◌++◌, ◌⊎◌, inl, inr, refl, sym, ap, ◌∙◌, subst, arith, Bool, true, false, cond, length}
use Rattle.std.specs.Prelude.{Option, Some, None, ◌||◌, map, nat_eq}
use Rattle.std.specs.Option.{option_to_list}
use Rattle.std.proofs.lemmas.Bool.Decides.{eqb_tells}
use Rattle.std.proofs.lemmas.Bool.{eq-eqb}
use Rattle.aplc_arr.specs.Arrays.{Array}
use Rattle.aplc_cprof.specs.declared.syntax.Int.TheVariants as int
use Rattle.aplc_cprof.specs.declared.syntax.CStmt.TheVariants as stmt
use Rattle.aplc_cprof.specs.Machine.{Todo, Code, Caller, State, read_int, all_places, deeper, settled}
use Rattle.aplc_cprof.specs.Machine as machine
use Rattle.aplc_cprof.proofs.Rules.{Any, Runs, runs_less, runs_then}
use Rattle.aplc_cprof.proofs.Singles.{runs_Enter}
use Rattle.aplc_names.specs.PlainPrograms.{Routine, header_count}
use Rattle.aplc_names.specs.States.{World, Values, is_among, depth, set_name, no_values, in_front, worked}
use Rattle.aplc_names.specs.Eager.{value_of_name}
use Rattle.aplc_names.specs.Runs.{set_some, frame, place_of}
use Rattle.aplc_gen.specs.Shown.{place_shown}
use Rattle.aplc_gen.specs.Layouts.{Site, the_frame, the_routine, global_base}
use Rattle.aplc_gen.specs.Layouts as layouts
use Rattle.aplc_gen.specs.Emitted.{count_up, clear_code, take_code, enter_by, first_known}
use Rattle.aplc_gen.specs.Laid.{is_laid_name}
use Rattle.aplc_gen.specs.Relation.{Passed, Bounds, Common, Between, owe, pay}
use Rattle.aplc_gen.proofs.Writes.{globals_kept, counted_same, counted_other, held_kept}
use Rattle.aplc_gen.proofs.Entries.{Sinking, OnlyLocals, only_trans, Cleared, clear_does, Enters, take_does, none_set, count_up_does}

length_map : {A B : Type 0} (f : A → B) (xs : List A) → length (map f xs) ≡ length xs
length_map f [] = refl
length_map f (x ∷ xs) = ap suc (length_map f xs)

passed_kept : (k : ℕ) (r : Option ℕ) (o : Option Array) (s t : State) → read_int (int.Global k) t ≡ read_int (int.Global k) s → Passed r (int.Global k) o s → Passed r (int.Global k) o t
passed_kept k None o s t same h = tt
passed_kept k (Some n) None s t same h = h
passed_kept k (Some n) (Some v) s t same h = held_kept (int.Global k) v s t same h

-- the world in which a function stands that was called with these arguments
abbrev pub entered_world : Routine → Option Array → Option Array → World → World
entered_world f x y S = worked (header_count f) (record S { locals = frame f x y; places = in_front (place_of f) S.places })

-- after the place of the frame is there
record Deeper (u v : State) : Type 0 where
  pub globals : (k : ℕ) → read_int (int.Global k) v ≡ read_int (int.Global k) u
  pub depth_same : read_int layouts.depth v ≡ read_int layouts.depth u
  pub output : v.output ≡ u.output
  pub marks : v.marks ≡ u.marks
  pub places : v.places ≡ deeper u.places
  pub callers : v.callers ≡ u.callers
  pub input : v.input ≡ u.input
  pub steps : v.steps ≡ u.steps + 1

-- ---- The arguments have values

is_set : (n : ℕ) (v : Array) (names : Values) → set_name n (Some v) names n ≡ Some v
is_set n v names = ap (λ b. cond b (Some v) (names n)) (eq-eqb n n refl)

-- what is set stays set
still_set : (m n : ℕ) (v w : Array) (names : Values) → names n ≡ Some w → (u : Array) × (set_name m (Some v) names n ≡ Some u)
still_set m n v w names h = by (nat_eq m n)
  where
    by : (b : Bool) → (u : Array) × (cond b (Some v) (names n) ≡ Some u)
    by true = (v, refl)
    by false = (w, h)

among_one : (n m : ℕ) → (nat_eq n m || false) ≡ true → n ≡ m
among_one n m h = by (eqb_tells n m)
  where
    by : ((nat_eq n m ≡ true) × (n ≡ m)) ⊎ ((nat_eq n m ≡ false) × (n ≡ m → ⊥)) → n ≡ m
    by (inl e) = e.1
    by (inr ne) = let f = ne.0 in absurd (cc)

module _ (x y : Option Array) (s : State) where
  right_set : (r : Option ℕ) (n : ℕ) → Passed r (int.Global 1) y s → is_among n (option_to_list r) ≡ true → (v : Array) × (set_some r y no_values n ≡ Some v)
  right_set None n p h = absurd (cc)
  right_set (Some m) n p h = by y p
    where
      by : (o : Option Array) → Passed (Some m) (int.Global 1) o s → (v : Array) × (set_name m o no_values n ≡ Some v)
      by None p = absurd p
      by (Some v) p = (v, ap (λ (k : ℕ). set_name m (Some v) no_values k) (among_one n m h) ∙ is_set m v no_values)

  args_set : (l r : Option ℕ) (n : ℕ) → Passed l (int.Global 2) x s → Passed r (int.Global 1) y s → is_among n (option_to_list l ++ option_to_list r) ≡ true → (v : Array) × (set_some l x (set_some r y no_values) n ≡ Some v)
  args_set None r n p q h = right_set r n q h
  args_set (Some m) r n p q h = by x p (eqb_tells n m)
    where
      names : Values
      names = set_some r y no_values

      by : (o : Option Array) → Passed (Some m) (int.Global 2) o s → ((nat_eq n m ≡ true) × (n ≡ m)) ⊎ ((nat_eq n m ≡ false) × (n ≡ m → ⊥)) → (v : Array) × (set_name m o names n ≡ Some v)
      by None p t = absurd p
      by (Some v) p (inl e) = (v, ap (λ (k : ℕ). set_name m (Some v) names k) e.1 ∙ is_set m v names)
      by (Some v) p (inr ne) =
          let w = right_set r n q (sym (ap (λ b. b || is_among n (option_to_list r)) ne.0) ∙ h) in
          still_set m n v w.0 names w.1

module _ (c : Code) (g : Site) (calls : global_base g.layout ≡ 5) (called : g.first ≡ false) where
  abbrev f : Routine
  f = (the_routine g).header

  -- the code before the first line
  pub enter_does : (x y : Option Array) (b : Bounds) (cs : List Caller) (S : World) (s : State) (Stop : State → Type 0) →
      is_laid_name g f.left ≡ true → is_laid_name g f.right ≡ true → ((n : ℕ) → is_among n (option_to_list f.left ++ option_to_list f.right) ≡ true → (v : Array) × (frame f x y n ≡ Some v) → (v : Array) × (value_of_name (f.scope n) n (entered_world f x y S) ≡ Some v)) →
      depth S.places < 4096 → Common g.layout b S s → s.places.here ≡ place_shown S.places.here → s.callers ≡ cs → Passed f.left layouts.left_passed x s → Passed f.right layouts.right_passed y s →
      Runs c Any (enter_by g false) s (Between g (owe (7 + length (the_frame g).unsure) (pay (4096 * header_count f) b)) (first_known g) (place_of f) (S.places.here ∷ S.places.behind) cs (entered_world f x y S)) Stop
  enter_does x y b cs S s Stop laid_left laid_right reads few h here callers left right =
      runs_then c Any (count_up g.layout.counted) (stmt.Enter ∷ (clear_code g m ++ (take_code g layouts.right_passed f.right ++ take_code g layouts.left_passed f.left))) s (Sinking g.layout 2 W s) Post Stop
      (count_up_does c g g.layout.counted (place_of f) S s Stop refl few h.counted)
      (λ u sink.
      runs_then c Any (stmt.Enter ∷ []) (clear_code g m ++ (take_code g layouts.right_passed f.right ++ take_code g layouts.left_passed f.left)) u (Deeper u) Post Stop
      (runs_Enter c Any u (Deeper u) Stop (room u sink) (λ rest. tt) (λ rest. record { globals = λ k. refl; depth_same = refl; output = refl; marks = refl; places = refl; callers = refl; input = refl; steps = refl }))
      (λ v deep.
      runs_then c Any (clear_code g m) (take_code g layouts.right_passed f.right ++ take_code g layouts.left_passed f.left) v (Cleared c g m v) Post Stop
      (clear_does c g m v Stop)
      (λ w clear.
      let at_w : (k : ℕ) → 0 < k → read_int (int.Global k) w ≡ read_int (int.Global k) s = λ k lt. clear.only.globals k ∙ deep.globals k ∙ sink.globals k lt in
      runs_then c Any (take_code g layouts.right_passed f.right) (take_code g layouts.left_passed f.left) w (λ t. Enters c g cs S (set_some f.right y no_values) t × OnlyLocals 2 w t) Post Stop
      (take_does c g cs S 1 f.right y no_values w Stop laid_right (passed_kept 1 f.right y s w (at_w 1 (omega arith)) right) (none_set c g cs S v w clear))
      (λ t first. runs_less c Any (take_code g layouts.left_passed f.left) t (λ r. Enters c g cs S (frame f x y) r × OnlyLocals 2 t r) Post Stop Stop
      (λ r last. whole u v r sink deep (only_trans (m + 2) 2 v t r (only_trans m 2 v w t clear.only first.1) last.1) last.0)
      (λ r q. q)
      (take_does c g cs S 2 f.left x (set_some f.right y no_values) t Stop laid_left (passed_kept 2 f.left x s t (first.1.globals 2 ∙ at_w 2 (omega arith)) left) first.0)))))
    where
      m : ℕ
      m = length (the_frame g).unsure

      W : World
      W = record S { places = in_front (place_of f) S.places }

      Post : State → Type 0
      Post = Between g (owe (7 + m) (pay (4096 * header_count f) b)) (first_known g) (place_of f) (S.places.here ∷ S.places.behind) cs (entered_world f x y S)

      room : (u : State) → Sinking g.layout 2 W s u → length (all_places u.places) < 4096
      room u sink =
          let a : length u.places.behind ≡ length S.places.behind = ap (λ (ps : machine.Places). length ps.behind) sink.places ∙ ap (λ (ps : List machine.Place). length ps) h.behind ∙ length_map place_shown S.places.behind in
          omega (arith, a, few)

      whole : (u v t : State) → Sinking g.layout 2 W s u → Deeper u v → OnlyLocals (m + 2 + 2) v t → Enters c g cs S (frame f x y) t → Post t
      whole u v t sink deep only e =
          let more = sink.more in
          let cost = sink.cost in
          let step = deep.steps in
          let more' = only.quiet.more in
          let cost' = only.quiet.cost in
          let count = h.count in
          let taken = h.taken in
          record {
            common = record {
              globals = globals_kept g.layout S s t (λ k le. only.globals k ∙ deep.globals k ∙ sink.globals k (omega (arith, le, calls))) h.globals;
              counted = counted_other g.layout.counted W (entered_world f x y S) t refl (counted_same g.layout.counted W u t (only.globals 0 ∙ deep.depth_same) sink.counted);
              output = only.quiet.output ∙ deep.output ∙ sink.output ∙ h.output;
              marks = only.quiet.marks ∙ deep.marks ∙ sink.marks ∙ h.marks;
              behind = ap (λ (ps : machine.Places). ps.behind) (only.quiet.places ∙ deep.places ∙ ap deeper sink.places) ∙ ap (λ (q : machine.Place). q ∷ s.places.behind) here ∙ ap (λ (qs : List machine.Place). place_shown S.places.here ∷ qs) h.behind;
              input = only.quiet.input ∙ deep.input ∙ sink.input ∙ h.input;
              below = h.below;
              count = omega (arith, count, more, step, more');
              taken = omega (arith, taken, cost, step, cost');
              set = h.set;
            };
            locals = e.locals;
            knows = λ n among. let one = subst (λ (first : Bool). is_among n (cond first [] (option_to_list f.left ++ option_to_list f.right)) ≡ true) called among in reads n one (args_set x y s f.left f.right n left right one);
            function = refl;
            around = refl;
            callers = only.quiet.callers ∙ deep.callers ∙ sink.callers ∙ callers;
          }
