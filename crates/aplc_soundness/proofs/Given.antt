-- Under the least facts no function is given a wrong kind.
use Rattle.std.proofs.Common.{◌≡◌, ap, subst, ℕ, zero, suc, List, [], ◌∷◌, Option, Some, None, Bool, true, false, ℤ}
use Rattle.std.specs.Prelude.{slice_get}
use Rattle.std.specs.List.{AllByRecursion, list_all}
use Rattle.aplc_syntax.specs.PlainTrees.{Tree, Numbers, Text, Name, TextInput, NumsInput, Mono, Dyad, Index, Assign, AssignAt, Show, Call, Trees, no_more, left_out, and_tree, Argument, absent, given, id_of}
use Rattle.aplc_names.specs.PlainPrograms.{Action, nothing, quiet, perform, display, branch}
use Rattle.aplc_names.specs.States.{Giving}
use Rattle.aplc_arr.specs.Arrays.{Array}
use Rattle.aplc_infer.specs.declared.cell.Cell.TheVariants as cell
use Rattle.aplc_infer.specs.Facts.{settled}
use Rattle.aplc_infer.specs.Rules.{fact_of, literal_of, literal_kind, is_bit, numbers_fact, monadic_fact, dyadic_fact, index_fact, change_fact, left_fact, branch_fact}
use Rattle.aplc_infer.specs.Seeing.{Family, Context, Progress, denied_by, denied_read, name_fact, function_of, call_fact, passed, see, see_all, see_argument, see_statement}
use Rattle.aplc_soundness.specs.Holding.{HoldsKind, Holds, HoldsAll}
use Rattle.aplc_infer.specs.RulesRise.{RulesRise}
use Rattle.aplc_soundness.specs.Exact.{IsExact, AreExact, EntriesExact, ArgumentExact, StatementExact}
use Rattle.aplc_soundness.specs.Taking.{is_num, IsGiven, AreEntries, TakesGiven, EntriesGiven, ArgumentGiven, ActionGiven}
use Rattle.aplc_soundness.proofs.Held.{same_some}
use Rattle.aplc_soundness.proofs.HeldNames.{AreGiven, rule_ok}
use Rattle.aplc_soundness.proofs.HeldNodes.{tree_clear, entries_clear}
use Rattle.aplc_soundness.proofs.Stays.{stays, denied_stays, read_stays, ruled_stays, assigned_stays, passed_stays, see_stays, see_all_stays, see_argument_stays}
use Rattle.aplc_soundness.proofs.Takes.{NumbersIf, monadic_taken, dyadic_taken, index_taken, branch_taken}

-- ---- What nodes were given

given_at : (P : Giving → Type 0) (xs : List Giving) (i : ℕ) (x : Giving) → AllByRecursion P xs → slice_get xs i ≡ Some x → P x
given_at P [] i x h e = cc
given_at P (y ∷ xs) zero x h e = subst P (same_some y x e) h.0
given_at P (y ∷ xs) (suc i) x h e = given_at P xs i x h.1 e

-- the node itself is exact
pub exact_here : (c : Context) (g : Family) (t : Tree) (w : Progress) → AreExact c g t w → IsExact c g t w
exact_here c g (Numbers i p zs) w h = h
exact_here c g (Text i p cs) w h = h
exact_here c g (TextInput i p) w h = h
exact_here c g (NumsInput i p) w h = h
exact_here c g (Name i p n) w h = h
exact_here c g (Mono i p f b) w h = h.0
exact_here c g (Dyad i p f a b) w h = h.0
exact_here c g (Index i p a xs) w h = h.0
exact_here c g (Assign i p n a) w h = h.0
exact_here c g (AssignAt i p n xs a) w h = h.0
exact_here c g (Show i p a) w h = h.0
exact_here c g (Call i p n a b) w h = h.0

module _ (c : Context) (g : Family) (rise : RulesRise c.origin) (xs : List Giving) (held : AreGiven g xs) where
  -- what is known of a node holds of what it was given
  pub holds_here : (t : Tree) (w : Progress) (v : Array) → AreExact c g t w → IsGiven xs (id_of t) v → Holds (see c g t w).fact v
  holds_here t w v e h = subst (λ x. Holds x v) (exact_here c g t w e) (given_at (λ (x : Giving). Holds (g (cell.Node x.node)) x.value) xs h.index record { node = id_of t; value = v } held h.here)

  numbers_here : (zs : List ℤ) (v : Array) → Holds (numbers_fact zs) v → is_num v.kind ≡ true
  numbers_here zs v h = by_kind (list_all is_bit zs) h.0
    where
      by_kind : (b : Bool) → HoldsKind (literal_kind b) v → is_num v.kind ≡ true
      by_kind true q = ap is_num q.0
      by_kind false q = ap is_num q

  literal_here : (t : Tree) (w : Progress) (v : Array) → Holds (see c g t w).fact v → NumbersIf (literal_of t) v
  literal_here (Numbers i p zs) w v h = numbers_here zs v h
  literal_here (Text i p cs) w v h = tt
  literal_here (TextInput i p) w v h = tt
  literal_here (NumsInput i p) w v h = tt
  literal_here (Name i p n) w v h = tt
  literal_here (Mono i p f b) w v h = tt
  literal_here (Dyad i p f a b) w v h = tt
  literal_here (Index i p a ts) w v h = tt
  literal_here (Assign i p n a) w v h = tt
  literal_here (AssignAt i p n ts a) w v h = tt
  literal_here (Show i p a) w v h = tt
  literal_here (Call i p n a b) w v h = tt

  pub entries_here : (ts : Trees) (w : Progress) (vs : List (Option Array)) → EntriesExact c g ts w → AreEntries xs ts vs → HoldsAll (see_all c g ts w).facts vs
  entries_here no_more w [] e h = tt
  entries_here no_more w (v ∷ vs) e h = absurd h
  entries_here (left_out ts) w [] e h = absurd h
  entries_here (left_out ts) w (None ∷ vs) e h = entries_here ts w vs e h
  entries_here (left_out ts) w (Some v ∷ vs) e h = absurd h
  entries_here (and_tree t ts) w [] e h = absurd h
  entries_here (and_tree t ts) w (None ∷ vs) e h = absurd h
  entries_here (and_tree t ts) w (Some v ∷ vs) e h = (holds_here t (see_all c g ts w).progress v e.1 h.0, entries_here ts w vs e.0 h.1)

  mutual
    pub tree_given : (t : Tree) (w : Progress) → AreExact c g t w → (see c g t w).progress.refused ≡ [] → TakesGiven xs t
    tree_given (Numbers i p zs) w e fine = tt
    tree_given (Text i p cs) w e fine = tt
    tree_given (TextInput i p) w e fine = tt
    tree_given (NumsInput i p) w e fine = tt
    tree_given (Name i p n) w e fine = tt
    tree_given (Mono i p f b) w e fine =
        let y = see c g b w in
        let r = monadic_fact c.origin f (literal_of b) y.fact in
        let fy = (ruled_stays g i p r y.progress y.progress (stays g y.progress)).fine fine in
        (λ v h. monadic_taken c.origin f (literal_of b) y.fact (fact_of r) v (holds_here b w v e.1 h) (tree_clear g c rise b w fy) (rule_ok p r y.progress fine), tree_given b w e.1 fy)
    tree_given (Dyad i p f a b) w e fine =
        let y = see c g b w in
        let x = see c g a y.progress in
        let r = dyadic_fact c.origin f (literal_of a) x.fact y.fact in
        let fx = (ruled_stays g i p r x.progress x.progress (stays g x.progress)).fine fine in
        let fy = (see_stays g c a y.progress).fine fx in (
          λ v u h q.
              let hv = holds_here a y.progress v e.2 h in
              dyadic_taken c.origin f (literal_of a) x.fact y.fact (fact_of r) v u hv (holds_here b w u e.1 q) (tree_clear g c rise a y.progress fx) (tree_clear g c rise b w fy) (literal_here a y.progress v hv) (rule_ok p r x.progress fine),
          tree_given a y.progress e.2 fx,
          tree_given b w e.1 fy,
        )
    tree_given (Index i p a ts) w e fine =
        let y = see_all c g ts w in
        let x = see c g a y.progress in
        let r = index_fact x.fact y.facts in
        let fx = (ruled_stays g i p r x.progress x.progress (stays g x.progress)).fine fine in
        let fy = (see_stays g c a y.progress).fine fx in
        (λ v vs h q. index_taken x.fact (fact_of r) y.facts v vs (holds_here a y.progress v e.2 h) (entries_here ts w vs e.1 q) (tree_clear g c rise a y.progress fx) (entries_clear g c rise ts w fy) (rule_ok p r x.progress fine), tree_given a y.progress e.2 fx, entries_given ts w e.1 fy)
    tree_given (Assign i p n a) w e fine =
        let y = see c g a w in
        tree_given a w e.1 ((assigned_stays g c (c.binding n) i p n (settled y.fact) (settled y.fact) y.progress).fine fine)
    tree_given (AssignAt i p n ts a) w e fine =
        let y = see c g a w in
        let x = see_all c g ts y.progress in
        let old = name_fact c g (c.binding n) n x.progress.names in
        let r = change_fact old x.facts y.fact in
        let u = denied_read p old x.progress in
        let f0 = (assigned_stays g c (c.binding n) i p n (left_fact old y.fact) (fact_of r) (denied_by p r u)).fine fine in
        let f1 = (denied_stays g p r u).fine f0 in
        let f2 = (read_stays g p old x.progress).fine f1 in
        (entries_given ts y.progress e.2 f2, tree_given a w e.1 ((see_all_stays g c ts y.progress).fine f2))
    tree_given (Show i p a) w e fine = tree_given a w e.1 fine
    tree_given (Call i p n a b) w e fine =
        let y = see_argument c g b w in
        let x = see_argument c g a y.progress in
        let k = function_of (c.binding n) in
        let z = call_fact x.fact y.fact (g (cell.Answer k)) in
        let u = passed k x.fact y.fact x.progress in
        let f0 = (read_stays g p z u).fine fine in
        let f1 = (passed_stays g k x.fact y.fact x.progress).fine f0 in
        (argument_given a y.progress e.2 f1, argument_given b w e.1 ((see_argument_stays g c a y.progress).fine f1))

    pub entries_given : (ts : Trees) (w : Progress) → EntriesExact c g ts w → (see_all c g ts w).progress.refused ≡ [] → EntriesGiven xs ts
    entries_given no_more w e fine = tt
    entries_given (left_out ts) w e fine = entries_given ts w e fine
    entries_given (and_tree t ts) w e fine =
        let y = see_all c g ts w in
        (tree_given t y.progress e.1 fine, entries_given ts w e.0 ((see_stays g c t y.progress).fine fine))

    pub argument_given : (a : Argument) (w : Progress) → ArgumentExact c g a w → (see_argument c g a w).progress.refused ≡ [] → ArgumentGiven xs a
    argument_given absent w e fine = tt
    argument_given (given t) w e fine = tree_given t w e fine

  pub statement_given : (x : Action) (w : Progress) → StatementExact c g x w → (see_statement c g x w).refused ≡ [] → ActionGiven xs x
  statement_given nothing w e fine = tt
  statement_given (quiet t) w e fine = tree_given t w e fine
  statement_given (display t) w e fine = tree_given t w e fine
  statement_given (branch p t) w e fine =
      let y = see c g t w in
      let r = branch_fact y.fact in
      let fy = (denied_stays g p r y.progress).fine fine in
      (λ v h. branch_taken y.fact (fact_of r) v (holds_here t w v e h) (tree_clear g c rise t w fy) (rule_ok p r y.progress fine), tree_given t w e fy)
  statement_given (perform i p n a b) w e fine =
      let y = see_argument c g b w in
      let x = see_argument c g a y.progress in
      let k = function_of (c.binding n) in
      let f1 = (passed_stays g k x.fact y.fact x.progress).fine fine in
      (argument_given a y.progress e.1 f1, argument_given b w e.0 ((see_argument_stays g c a y.progress).fine f1))
