-- Under the least facts each node has just what is known of it where it is evaluated.
use Rattle.std.proofs.Common.{◌≡◌, ◌∙◌, sym, ap, refl, subst, ℕ, zero, suc, ◌≤◌, List, [], ◌∷◌, ◌++◌, Option, Some, None, Err, Bool, true, false, arith}
use Rattle.std.specs.Prelude.{nat_eq, slice_get, if◌then◌else◌}
use Rattle.aplc_syntax.specs.PlainTrees.{Tree, Numbers, Text, Name, TextInput, NumsInput, Mono, Dyad, Index, Assign, AssignAt, Show, Call, Trees, no_more, left_out, and_tree, Argument, absent, given}
use Rattle.aplc_names.specs.PlainPrograms.{Action, nothing, quiet, perform, display, branch, Routine, PlainProgram}
use Rattle.aplc_names.specs.Runs.{line_at}
use Rattle.aplc_infer.specs.declared.fact.Inferred.{Inferred}
use Rattle.aplc_infer.specs.declared.fact.Inferred.TheVariants.{Unset}
use Rattle.aplc_infer.specs.declared.rule_break.RuleBreak.TheVariants as breaks
use Rattle.aplc_infer.specs.declared.cell.Cell.{Cell}
use Rattle.aplc_infer.specs.declared.cell.Cell.TheVariants as cell
use Rattle.aplc_infer.specs.declared.cell.Demand.{Demand}
use Rattle.aplc_infer.specs.declared.cell.Binding.{Binding}
use Rattle.aplc_infer.specs.declared.cell.Binding.TheVariants as binds
use Rattle.aplc_infer.specs.Facts.{below, settled}
use Rattle.aplc_infer.specs.Rules.{Ruled, fact_of, literal_of, monadic_fact, dyadic_fact, index_fact, change_fact, left_fact, branch_fact}
use Rattle.aplc_infer.specs.Seeing.{Family, Declarations, Context, context_of, Progress, Seen, fresh, demand, asked, denied_by, denied_read, with_name, settles, name_fact, assign_declared, assign_global, assign_to, function_of, call_fact, passed, see, see_all, see_argument}
use Rattle.aplc_infer.specs.Families.{AreMet, Reaches, at_start, at_entry, seen_line, IsLine, MeetsRules, IsLeast}
use Rattle.aplc_soundness.specs.Exact.{AreExact, EntriesExact, ArgumentExact, StatementExact, LinesExact}
use Rattle.aplc_infer.proofs.Trials.{equal_of, equal_test}
use Rattle.aplc_infer.proofs.Order.{below_refl}
use Rattle.aplc_infer.proofs.Monotone.{met_right}
use Rattle.aplc_soundness.proofs.Held.{no, same_some}
use Rattle.aplc_soundness.proofs.Stays.{Stays, stays, stays_then, asked_stays, denied_stays, read_stays, ruled_stays, assigned_stays, passed_stays, see_stays, see_all_stays, see_argument_stays}
use Rattle.aplc_soundness.proofs.Lowered.{below_same, lowered, statement_same, reaches_same}
use Rattle.aplc_soundness.proofs.Counted.{one_if, tally, at_node, count, count_more, statement_count, action_ids, routine_ids, plain_ids, one_place, two_places}

-- ---- Demands for one node

-- what is asked for node i is x
abbrev OnlyAt : ℕ → Inferred → Cell → Inferred → Type 0
OnlyAt i x (cell.Node k) y = nat_eq k i ≡ true → y ≡ x
OnlyAt i x c y = Unit {0}

abbrev Only : ℕ → Inferred → List Demand → Type 0
Only i x [] = Unit {0}
Only i x (d ∷ ds) = OnlyAt i x d.cell d.fact × Only i x ds

only_none_at : (i : ℕ) (x : Inferred) (c : Cell) (y : Inferred) → at_node i c ≡ 0 → OnlyAt i x c y
only_none_at i x (cell.Node k) y e = λ q. absurd (one (nat_eq k i) q e)
  where
    one : (b : Bool) → b ≡ true → one_if b ≡ 0 → ⊥
    one true q e = omega (arith, e)
    one false q e = no q
only_none_at i x (cell.Global n) y e = tt
only_none_at i x (cell.Left n) y e = tt
only_none_at i x (cell.Right n) y e = tt
only_none_at i x (cell.Answer n) y e = tt
only_none_at i x (cell.Start j l n) y e = tt

only_none : (i : ℕ) (x : Inferred) (ds : List Demand) → count i ds ≡ 0 → Only i x ds
only_none i x [] e = tt
only_none i x (d ∷ ds) e = (only_none_at i x d.cell d.fact (omega (arith, e)), only_none i x ds (omega (arith, e)))

only_more : (i : ℕ) (x : Inferred) (xs ys : List Demand) → Only i x xs → Only i x ys → Only i x (xs ++ ys)
only_more i x [] ys p q = q
only_more i x (d ∷ xs) ys p q = (p.0, only_more i x xs ys p.1 q)

-- where one is asked for at most, and x is
only_here : (i : ℕ) (x : Inferred) (before more : List Demand) → count i ((before ++ demand (cell.Node i) x ∷ []) ++ more) ≤ 1 → Only i x ((before ++ demand (cell.Node i) x ∷ []) ++ more)
only_here i x before more few =
    let a = count_more i (before ++ demand (cell.Node i) x ∷ []) more in
    let b = count_more i before (demand (cell.Node i) x ∷ []) in
    let c : one_if (nat_eq i i) ≡ 1 = ap one_if (equal_test i i refl) in
    only_more i x (before ++ demand (cell.Node i) x ∷ []) more (only_more i x before (demand (cell.Node i) x ∷ []) (only_none i x before (omega (arith, a, b, c, few))) (λ e. refl, tt)) (only_none i x more (omega (arith, a, b, c, few)))

-- with x at node i what was met is met
lowered_met_at : (g : Family) (i : ℕ) (x : Inferred) (c : Cell) (y : Inferred) → below y (g c) ≡ true → OnlyAt i x c y → below y (lowered i x g c) ≡ true
lowered_met_at g i x (cell.Node k) y m o = by_test (nat_eq k i) refl
  where
    by_test : (b : Bool) → nat_eq k i ≡ b → below y (if b then x else g (cell.Node k)) ≡ true
    by_test true e = subst (λ z. below y z ≡ true) (o e) (below_refl y)
    by_test false e = m
lowered_met_at g i x (cell.Global n) y m o = m
lowered_met_at g i x (cell.Left n) y m o = m
lowered_met_at g i x (cell.Right n) y m o = m
lowered_met_at g i x (cell.Answer n) y m o = m
lowered_met_at g i x (cell.Start j l n) y m o = m

lowered_met : (g : Family) (i : ℕ) (x : Inferred) (ds : List Demand) → AreMet g ds → Only i x ds → AreMet (lowered i x g) ds
lowered_met g i x [] m o = tt
lowered_met g i x (d ∷ ds) m o = (lowered_met_at g i x d.cell d.fact m.0 o.0, lowered_met g i x ds m.1 o.1)

-- ---- The least facts

module _ (d : Declarations) (p : PlainProgram) (g : Family) (least : IsLeast d p g) (few : (i : ℕ) → tally i (plain_ids p) ≤ 1) where
  line_count : (i j l : ℕ) (f : Routine) (x : Action) → count i (seen_line d p g j f l x).demands ≡ tally i (action_ids x)
  line_count i j l f x = let e = statement_count i (context_of d p f) g x (fresh (at_start g j f l)) in omega (arith, e)

  line_few : (i j l : ℕ) (f : Routine) (x : Action) → IsLine p j l f x → tally i (action_ids x) ≤ tally i (routine_ids f)
  line_few i j zero f x h = let q = h.here in cc
  line_few i j (suc l) f x h = one_place i action_ids f.lines l x h.here

  -- a node stands in one line
  only_line : (i j l k m : ℕ) (f h : Routine) (x y : Action) → IsLine p j l f x → IsLine p k m h y → 1 ≤ tally i (action_ids x) → 1 ≤ tally i (action_ids y) → (P : ℕ → ℕ → Routine → Action → Type 0) → P j l f x → P k m h y
  only_line i j l k m f h x y a b one two P held = by_routine (nat_eq j k) refl
    where
      not_equal : (m n : ℕ) → nat_eq m n ≡ false → m ≡ n → ⊥
      not_equal m n e q = no (sym e ∙ equal_test m n q)

      by_line : (l m : ℕ) (f : Routine) → line_at f.lines l ≡ Some x → line_at f.lines m ≡ Some y → tally i (routine_ids f) ≤ 1 → P j l f x → P j m f y
      by_line zero m f e q t h = cc
      by_line (suc l) zero f e q t h = cc
      by_line (suc l) (suc m) f e q t h = by_place (nat_eq l m) refl
        where
          by_place : (b : Bool) → nat_eq l m ≡ b → P j (suc m) f y
          by_place true r =
              let same : l ≡ m = equal_of l m r in
              let here : x ≡ y = same_some x y (sym e ∙ (ap (λ n. slice_get f.lines n) same ∙ q)) in
              subst (λ z. P j (suc m) f z) here (subst (λ n. P j (suc n) f x) same h)
          by_place false r = let s = two_places i action_ids f.lines l m x y e q (not_equal l m r) in absurd (omega (arith, s, t, one, two))

      by_routine : (b : Bool) → nat_eq j k ≡ b → P k m h y
      by_routine true r =
          let same : j ≡ k = equal_of j k r in
          let here : f ≡ h = same_some f h (sym a.routine ∙ (ap (λ n. slice_get p.routines n) same ∙ b.routine)) in
          let t = one_place i routine_ids p.routines j f a.routine in
          let u = few i in
          subst (λ n. P n m h y) same (subst (λ z. P j m z y) here (by_line l m f a.here (subst (λ z. line_at z.lines m ≡ Some y) (sym here) b.here) (omega (arith, t, u)) held))
      by_routine false r =
          let s = two_places i routine_ids p.routines j k f h a.routine b.routine (not_equal j k r) in
          let t = line_few i j l f x a in
          let v = line_few i k m h y b in
          let u = few i in
          absurd (omega (arith, s, t, v, u, one, two))

  -- node i, which stands in this line, is asked for x alone
  module _ (i : ℕ) (x : Inferred) (j l : ℕ) (f : Routine) (s : Action) (line : IsLine p j l f s) (stands : 1 ≤ tally i (action_ids s)) (only : Only i x (seen_line d p g j f l s).demands) where
    only_in : (k m : ℕ) (h : Routine) (y : Action) → IsLine p k m h y → Only i x (seen_line d p g k h m y).demands
    only_in k m h y there = by_tally (tally i (action_ids y)) refl
      where
        by_tally : (n : ℕ) → tally i (action_ids y) ≡ n → Only i x (seen_line d p g k h m y).demands
        by_tally zero e = only_none i x (seen_line d p g k h m y).demands (line_count i k m h y ∙ e)
        by_tally (suc n) e = only_line i j l k m f h s y line there stands (omega (arith, e)) (λ k m h y. Only i x (seen_line d p g k h m y).demands) only

    lowered_meets : MeetsRules d p (lowered i x g)
    lowered_meets = record {
      entries = λ k h e. reaches_same g i x k h (at_entry g k h) 1 (line_at h.lines 1) (least.rules.entries k h e);
      lines = λ k m h y there.
          let met = least.rules.lines k m h y there in
          let same = statement_same (context_of d p h) g i x y (fresh (at_start g k h m)) in
          record {
            demands = subst (λ (v : Progress). AreMet (lowered i x g) v.demands) (sym same) (lowered_met g i x (seen_line d p g k h m y).demands met.demands (only_in k m h y there));
            flows = λ n q. subst (λ (v : Progress). Reaches (lowered i x g) k h v.names n) (sym same) (reaches_same g i x k h (seen_line d p g k h m y).names n (line_at h.lines n) (met.flows n q));
          };
    }

    below_here : below (g (cell.Node i)) x ≡ true
    below_here = subst (λ b. below (g (cell.Node i)) (if b then x else g (cell.Node i)) ≡ true) (equal_test i i refl) (least.least (lowered i x g) lowered_meets (cell.Node i))

  -- ---- The nodes of a line

  module _ (j l : ℕ) (f : Routine) (s : Action) (line : IsLine p j l f s) where
    abbrev end : Progress
    end = seen_line d p g j f l s

    abbrev c : Context
    c = context_of d p f

    -- a node that is asked for
    asked_exact : (i : ℕ) (x : Inferred) (u : Progress) → Stays g (settles i x u).progress end → g (cell.Node i) ≡ x
    asked_exact i x u h =
        let a = line_count i j l f s in
        let b = count_more i (u.demands ++ demand (cell.Node i) x ∷ []) h.more in
        let e = count_more i u.demands (demand (cell.Node i) x ∷ []) in
        let o : one_if (nat_eq i i) ≡ 1 = ap one_if (equal_test i i refl) in
        let q : count i end.demands ≡ count i ((u.demands ++ demand (cell.Node i) x ∷ []) ++ h.more) = ap (count i) h.parts in
        let t = line_few i j l f s line in
        let v = one_place i routine_ids p.routines j f line.routine in
        let k = few i in
        let stands : 1 ≤ tally i (action_ids s) = omega (arith, a, b, e, o, q) in
        let only = subst (Only i x) (sym h.parts) (only_here i x u.demands h.more (omega (arith, a, q, t, v, k))) in
        below_same (g (cell.Node i)) x (below_here i x j l f s line stands only) (met_right g u.demands (demand (cell.Node i) x ∷ []) (h.met (least.rules.lines j l f s line).demands)).0

    settled_exact : (i : ℕ) (x : Inferred) (u : Progress) (y : Seen) → y ≡ settles i x u → Stays g y.progress end → g (cell.Node i) ≡ y.fact
    settled_exact i x u y e h = subst (λ (z : Seen). Stays g z.progress end → g (cell.Node i) ≡ z.fact) (sym e) (asked_exact i x u) h

    declared_exact : (b : Bool) (i q : ℕ) (x : Inferred) (w : Progress) → Stays g (assign_declared b i q x w).progress end → g (cell.Node i) ≡ (assign_declared b i q x w).fact
    declared_exact true i q x w h = asked_exact i x w h
    declared_exact false i q x w h = asked_exact i (fact_of (Err breaks.Declared)) (denied_by q (Err breaks.Declared) w) h

    global_exact : (o : Option Inferred) (i q n : ℕ) (new x : Inferred) (w : Progress) → Stays g (assign_global o i q n new x w).progress end → g (cell.Node i) ≡ (assign_global o i q n new x w).fact
    global_exact None i q n new x w h = asked_exact i x (asked (cell.Global n) new w) h
    global_exact (Some y) i q n new x w h = declared_exact (below new y) i q x w h

    assigned_exact : (b : Binding) (i q n : ℕ) (new x : Inferred) (w : Progress) → Stays g (assign_to c b i q n new x w).progress end → g (cell.Node i) ≡ (assign_to c b i q n new x w).fact
    assigned_exact (binds.Local k) i q n new x w h = asked_exact i x (with_name k new w) h
    assigned_exact (binds.Label z) i q n new x w h = global_exact (d n) i q n new x w h
    assigned_exact (binds.Function k) i q n new x w h = global_exact (d n) i q n new x w h
    assigned_exact binds.Global i q n new x w h = global_exact (d n) i q n new x w h

    ruled_exact : (i q : ℕ) (r : Ruled) (w : Progress) → Stays g (settles i (fact_of r) (denied_by q r w)).progress end → g (cell.Node i) ≡ fact_of r
    ruled_exact i q r w h = asked_exact i (fact_of r) (denied_by q r w) h

    mutual
      tree_exact : (t : Tree) (w : Progress) → Stays g (see c g t w).progress end → AreExact c g t w
      tree_exact (Numbers i q zs) w h = asked_exact i (see c g (Numbers i q zs) w).fact w h
      tree_exact (Text i q cs) w h = asked_exact i (see c g (Text i q cs) w).fact w h
      tree_exact (TextInput i q) w h = asked_exact i (see c g (TextInput i q) w).fact w h
      tree_exact (NumsInput i q) w h = asked_exact i (see c g (NumsInput i q) w).fact w h
      tree_exact (Name i q n) w h =
          let x = name_fact c g (c.binding n) n w.names in
          asked_exact i x (denied_read q x w) h
      tree_exact (Mono i q o b) w h =
          let y = see c g b w in
          let r = monadic_fact c.origin o (literal_of b) y.fact in
          let e = see c g (Mono i q o b) w in
          (ruled_exact i q r y.progress h, tree_exact b w (stays_then g y.progress e.progress end (ruled_stays g i q r y.progress y.progress (stays g y.progress)) h))
      tree_exact (Dyad i q o a b) w h =
          let y = see c g b w in
          let x = see c g a y.progress in
          let r = dyadic_fact c.origin o (literal_of a) x.fact y.fact in
          let e = see c g (Dyad i q o a b) w in
          let hx = stays_then g x.progress e.progress end (ruled_stays g i q r x.progress x.progress (stays g x.progress)) h in
          let hy = stays_then g y.progress x.progress end (see_stays g c a y.progress) hx in
          (ruled_exact i q r x.progress h, tree_exact b w hy, tree_exact a y.progress hx)
      tree_exact (Index i q a xs) w h =
          let y = see_all c g xs w in
          let x = see c g a y.progress in
          let r = index_fact x.fact y.facts in
          let e = see c g (Index i q a xs) w in
          let hx = stays_then g x.progress e.progress end (ruled_stays g i q r x.progress x.progress (stays g x.progress)) h in
          let hy = stays_then g y.progress x.progress end (see_stays g c a y.progress) hx in
          (ruled_exact i q r x.progress h, entries_exact xs w hy, tree_exact a y.progress hx)
      tree_exact (Assign i q n a) w h =
          let y = see c g a w in
          let e = see c g (Assign i q n a) w in
          let hy = stays_then g y.progress e.progress end (assigned_stays g c (c.binding n) i q n (settled y.fact) (settled y.fact) y.progress) h in
          (assigned_exact (c.binding n) i q n (settled y.fact) (settled y.fact) y.progress h, tree_exact a w hy)
      tree_exact (AssignAt i q n xs a) w h =
          let y = see c g a w in
          let x = see_all c g xs y.progress in
          let old = name_fact c g (c.binding n) n x.progress.names in
          let r = change_fact old x.facts y.fact in
          let u = denied_read q old x.progress in
          let v = denied_by q r u in
          let e = see c g (AssignAt i q n xs a) w in
          let hv = stays_then g v e.progress end (assigned_stays g c (c.binding n) i q n (left_fact old y.fact) (fact_of r) v) h in
          let hu = stays_then g u v end (denied_stays g q r u) hv in
          let hx = stays_then g x.progress u end (read_stays g q old x.progress) hu in
          let hy = stays_then g y.progress x.progress end (see_all_stays g c xs y.progress) hx in
          (assigned_exact (c.binding n) i q n (left_fact old y.fact) (fact_of r) v h, tree_exact a w hy, entries_exact xs y.progress hx)
      tree_exact (Show i q a) w h =
          let y = see c g a w in
          let e = see c g (Show i q a) w in
          let hy = stays_then g y.progress e.progress end (asked_stays g (cell.Node i) (settled y.fact) y.progress) h in
          (asked_exact i (settled y.fact) y.progress h, tree_exact a w hy)
      tree_exact (Call i q n a b) w h =
          let y = see_argument c g b w in
          let x = see_argument c g a y.progress in
          let k = function_of (c.binding n) in
          let z = call_fact x.fact y.fact (g (cell.Answer k)) in
          let u = passed k x.fact y.fact x.progress in
          let v = denied_read q z u in
          let e = see c g (Call i q n a b) w in
          let hv = stays_then g v e.progress end (asked_stays g (cell.Node i) z v) h in
          let hu = stays_then g u v end (read_stays g q z u) hv in
          let hx = stays_then g x.progress u end (passed_stays g k x.fact y.fact x.progress) hu in
          let hy = stays_then g y.progress x.progress end (see_argument_stays g c a y.progress) hx in
          (asked_exact i z v h, argument_exact b w hy, argument_exact a y.progress hx)

      entries_exact : (ts : Trees) (w : Progress) → Stays g (see_all c g ts w).progress end → EntriesExact c g ts w
      entries_exact no_more w h = tt
      entries_exact (left_out ts) w h = entries_exact ts w h
      entries_exact (and_tree t ts) w h =
          let y = see_all c g ts w in
          let x = see c g t y.progress in
          (entries_exact ts w (stays_then g y.progress x.progress end (see_stays g c t y.progress) h), tree_exact t y.progress h)

      argument_exact : (a : Argument) (w : Progress) → Stays g (see_argument c g a w).progress end → ArgumentExact c g a w
      argument_exact absent w h = tt
      argument_exact (given t) w h = tree_exact t w h

  line_exact : (j l : ℕ) (f : Routine) (x : Action) → IsLine p j l f x → StatementExact (context_of d p f) g x (fresh (at_start g j f l))
  line_exact j l f nothing h = tt
  line_exact j l f (quiet t) h = tree_exact j l f (quiet t) h t (fresh (at_start g j f l)) (stays g (seen_line d p g j f l (quiet t)))
  line_exact j l f (display t) h = tree_exact j l f (display t) h t (fresh (at_start g j f l)) (stays g (seen_line d p g j f l (display t)))
  line_exact j l f (branch q t) h =
      let w = fresh (at_start g j f l) in
      let y = see (context_of d p f) g t w in
      tree_exact j l f (branch q t) h t w (denied_stays g q (branch_fact y.fact) y.progress)
  line_exact j l f (perform i q n a b) h =
      let w = fresh (at_start g j f l) in
      let c = context_of d p f in
      let s = perform i q n a b in
      let y = see_argument c g b w in
      let x = see_argument c g a y.progress in
      let k = function_of (c.binding n) in
      let u = passed k x.fact y.fact x.progress in
      let end = seen_line d p g j f l s in
      let hu : Stays g u end = asked_stays g (cell.Node i) (call_fact x.fact y.fact Unset) u in
      let hx = stays_then g x.progress u end (passed_stays g k x.fact y.fact x.progress) hu in
      let hy = stays_then g y.progress x.progress end (see_argument_stays g c a y.progress) hx in
      (argument_exact j l f s h b w hy, argument_exact j l f s h a y.progress hx)

  pub lines_exact : LinesExact d p g
  lines_exact j l f x h = line_exact j l f x h
