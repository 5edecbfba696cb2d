-- Under the least facts names, arguments and results are given what their facts hold of.
use Rattle.std.proofs.Common.{◌≡◌, sym, ℕ, List, [], ◌∷◌, Bool, true, false}
use Rattle.aplc_syntax.specs.PlainTrees.{Tree, Numbers, Text, Name, TextInput, NumsInput, Mono, Dyad, Index, Assign, AssignAt, Show, Call, Trees, no_more, left_out, and_tree, Argument, absent, given}
use Rattle.aplc_arr.specs.Arrays.{Array}
use Rattle.aplc_names.specs.PlainPrograms.{Action, nothing, quiet, perform, display, branch}
use Rattle.aplc_names.specs.States.{Giving}
use Rattle.aplc_infer.specs.declared.fact.Inferred.{Inferred}
use Rattle.aplc_infer.specs.declared.cell.Cell.{Cell}
use Rattle.aplc_infer.specs.declared.cell.Cell.TheVariants as cell
use Rattle.aplc_infer.specs.declared.cell.Binding.{Binding}
use Rattle.aplc_infer.specs.declared.cell.Binding.TheVariants as binds
use Rattle.aplc_infer.specs.Facts.{is_unset, is_mixed, settled}
use Rattle.aplc_infer.specs.Rules.{fact_of, any_fact, literal_of, monadic_fact, dyadic_fact, index_fact, change_fact, left_fact, branch_fact}
use Rattle.aplc_infer.specs.Seeing.{Family, Context, Progress, demand, asked_for, denied_by, denied_read, name_fact, function_of, call_by, call_fact, passed, see, see_all, see_argument, see_statement}
use Rattle.aplc_infer.specs.Families.{AreMet}
use Rattle.aplc_soundness.specs.Holding.{Holds}
use Rattle.aplc_infer.specs.RulesRise.{RulesRise}
use Rattle.aplc_soundness.specs.Exact.{AreExact, EntriesExact, ArgumentExact, StatementExact}
use Rattle.aplc_soundness.specs.Passing.{HoldsGiven, NameGiven, ParameterGiven, PassesGiven, EntriesPass, ArgumentPasses, ActionPasses}
use Rattle.aplc_infer.proofs.Monotone.{met_left, met_right}
use Rattle.aplc_soundness.proofs.Held.{no, holds_above}
use Rattle.aplc_soundness.proofs.HeldNames.{AreGiven, read_clear}
use Rattle.aplc_soundness.proofs.Stays.{stays, asked_stays, asked_for_stays, denied_stays, read_stays, ruled_stays, assigned_stays, see_stays, see_all_stays, see_argument_stays}
use Rattle.aplc_soundness.proofs.Given.{holds_here}

call_result : (u m : Bool) (x : Inferred) (v : Array) → is_mixed (call_by u m x) ≡ false → Holds (call_by u m x) v → Holds x v
call_result true m x v e h = absurd h
call_result false true x v e h = absurd (no (sym e))
call_result false false x v e h = h

module _ (c : Context) (g : Family) (rise : RulesRise c.origin) (xs : List Giving) (held : AreGiven g xs) where
  name_given : (b : Binding) (i n : ℕ) (ns : List Inferred) → HoldsGiven xs i (name_fact c g b n ns) → NameGiven c g xs b i n
  name_given (binds.Local k) i n ns h = tt
  name_given (binds.Label z) i n ns h = h
  name_given (binds.Function j) i n ns h = tt
  name_given binds.Global i n ns h = h

  -- what is asked for a parameter is above the argument's fact
  parameter_given : (o : Argument) (w : Progress) (j : Cell) (u : Progress) → ArgumentExact c g o w → AreMet g (asked_for j (see_argument c g o w).fact u).demands → ParameterGiven xs o (g j)
  parameter_given absent w j u e met = tt
  parameter_given (given t) w j u e met = λ v h.
      let x = see c g t w in
      holds_above x.fact (g j) v (met_right g u.demands (demand j x.fact ∷ []) met).0 (holds_here c g rise xs held t w v e h)

  mutual
    pub tree_passes : (t : Tree) (w : Progress) → AreExact c g t w → AreMet g (see c g t w).progress.demands → (see c g t w).progress.refused ≡ [] → PassesGiven c g xs t
    tree_passes (Numbers i p zs) w e met fine = tt
    tree_passes (Text i p cs) w e met fine = tt
    tree_passes (TextInput i p) w e met fine = tt
    tree_passes (NumsInput i p) w e met fine = tt
    tree_passes (Name i p n) w e met fine = name_given (c.binding n) i n w.names (λ v h. holds_here c g rise xs held (Name i p n) w v e h)
    tree_passes (Mono i p f b) w e met fine =
        let y = see c g b w in
        let q = ruled_stays g i p (monadic_fact c.origin f (literal_of b) y.fact) y.progress y.progress (stays g y.progress) in
        tree_passes b w e.1 (q.met met) (q.fine fine)
    tree_passes (Dyad i p f a b) w e met fine =
        let y = see c g b w in
        let x = see c g a y.progress in
        let q = ruled_stays g i p (dyadic_fact c.origin f (literal_of a) x.fact y.fact) x.progress x.progress (stays g x.progress) in
        let r = see_stays g c a y.progress in
        (tree_passes a y.progress e.2 (q.met met) (q.fine fine), tree_passes b w e.1 (r.met (q.met met)) (r.fine (q.fine fine)))
    tree_passes (Index i p a ts) w e met fine =
        let y = see_all c g ts w in
        let x = see c g a y.progress in
        let q = ruled_stays g i p (index_fact x.fact y.facts) x.progress x.progress (stays g x.progress) in
        let r = see_stays g c a y.progress in
        (tree_passes a y.progress e.2 (q.met met) (q.fine fine), entries_pass ts w e.1 (r.met (q.met met)) (r.fine (q.fine fine)))
    tree_passes (Assign i p n a) w e met fine =
        let y = see c g a w in
        let q = assigned_stays g c (c.binding n) i p n (settled y.fact) (settled y.fact) y.progress in
        tree_passes a w e.1 (q.met met) (q.fine fine)
    tree_passes (AssignAt i p n ts a) w e met fine =
        let y = see c g a w in
        let x = see_all c g ts y.progress in
        let old = name_fact c g (c.binding n) n x.progress.names in
        let r = change_fact old x.facts y.fact in
        let u = denied_read p old x.progress in
        let q0 = assigned_stays g c (c.binding n) i p n (left_fact old y.fact) (fact_of r) (denied_by p r u) in
        let q1 = denied_stays g p r u in
        let q2 = read_stays g p old x.progress in
        let q3 = see_all_stays g c ts y.progress in
        let m = q2.met (q1.met (q0.met met)) in
        let f = q2.fine (q1.fine (q0.fine fine)) in
        (entries_pass ts y.progress e.2 m f, tree_passes a w e.1 (q3.met m) (q3.fine f))
    tree_passes (Show i p a) w e met fine =
        let y = see c g a w in
        tree_passes a w e.1 ((asked_stays g (cell.Node i) (settled y.fact) y.progress).met met) fine
    tree_passes (Call i p n a b) w e met fine =
        let y = see_argument c g b w in
        let x = see_argument c g a y.progress in
        let k = function_of (c.binding n) in
        let z = call_fact x.fact y.fact (g (cell.Answer k)) in
        let left = asked_for (cell.Left k) x.fact x.progress in
        let u = passed k x.fact y.fact x.progress in
        let q0 = read_stays g p z u in
        let q1 = asked_for_stays g (cell.Right k) y.fact left in
        let q2 = asked_for_stays g (cell.Left k) x.fact x.progress in
        let q3 = see_argument_stays g c a y.progress in
        let mu = q0.met ((asked_stays g (cell.Node i) z (denied_read p z u)).met met) in
        let ml = q1.met mu in
        let mx = q2.met ml in
        let fx = q2.fine (q1.fine (q0.fine fine)) in (
          λ v h. call_result (any_fact is_unset (x.fact ∷ y.fact ∷ [])) (any_fact is_mixed (x.fact ∷ y.fact ∷ [])) (g (cell.Answer k)) v (read_clear p z u fine) (holds_here c g rise xs held (Call i p n a b) w v e h),
          parameter_given a y.progress (cell.Left k) x.progress e.2 ml,
          parameter_given b w (cell.Right k) left e.1 mu,
          argument_passes a y.progress e.2 mx fx,
          argument_passes b w e.1 (q3.met mx) (q3.fine fx),
        )

    pub entries_pass : (ts : Trees) (w : Progress) → EntriesExact c g ts w → AreMet g (see_all c g ts w).progress.demands → (see_all c g ts w).progress.refused ≡ [] → EntriesPass c g xs ts
    entries_pass no_more w e met fine = tt
    entries_pass (left_out ts) w e met fine = entries_pass ts w e met fine
    entries_pass (and_tree t ts) w e met fine =
        let y = see_all c g ts w in
        let q = see_stays g c t y.progress in
        (tree_passes t y.progress e.1 met fine, entries_pass ts w e.0 (q.met met) (q.fine fine))

    pub argument_passes : (a : Argument) (w : Progress) → ArgumentExact c g a w → AreMet g (see_argument c g a w).progress.demands → (see_argument c g a w).progress.refused ≡ [] → ArgumentPasses c g xs a
    argument_passes absent w e met fine = tt
    argument_passes (given t) w e met fine = tree_passes t w e met fine

  pub statement_passes : (x : Action) (w : Progress) → StatementExact c g x w → AreMet g (see_statement c g x w).demands → (see_statement c g x w).refused ≡ [] → ActionPasses c g xs x
  statement_passes nothing w e met fine = tt
  statement_passes (quiet t) w e met fine = tree_passes t w e met fine
  statement_passes (display t) w e met fine = tree_passes t w e met fine
  statement_passes (branch p t) w e met fine =
      let y = see c g t w in
      let q = denied_stays g p (branch_fact y.fact) y.progress in
      tree_passes t w e (q.met met) (q.fine fine)
  statement_passes (perform i p n a b) w e met fine =
      let y = see_argument c g b w in
      let x = see_argument c g a y.progress in
      let k = function_of (c.binding n) in
      let left = asked_for (cell.Left k) x.fact x.progress in
      let u = passed k x.fact y.fact x.progress in
      let q1 = asked_for_stays g (cell.Right k) y.fact left in
      let q2 = asked_for_stays g (cell.Left k) x.fact x.progress in
      let q3 = see_argument_stays g c a y.progress in
      let mu = met_left g u.demands _ met in
      let ml = q1.met mu in
      let mx = q2.met ml in
      let fx = q2.fine (q1.fine fine) in
      (parameter_given a y.progress (cell.Left k) x.progress e.1 ml, parameter_given b w (cell.Right k) left e.0 mu, argument_passes a y.progress e.1 mx fx, argument_passes b w e.0 (q3.met mx) (q3.fine fx))
