-- Under the least facts an indexed assignment is given a value of the kind of its name.
use Rattle.std.proofs.Common.{◌≡◌, List, []}
use Rattle.aplc_syntax.specs.PlainTrees.{Tree, Numbers, Text, Name, TextInput, NumsInput, Mono, Dyad, Index, Assign, AssignAt, Show, Call, Trees, no_more, left_out, and_tree, Argument, absent, given}
use Rattle.aplc_names.specs.PlainPrograms.{Action, nothing, quiet, perform, display, branch}
use Rattle.aplc_names.specs.States.{Giving}
use Rattle.aplc_infer.specs.declared.cell.Cell.TheVariants as cell
use Rattle.aplc_infer.specs.Facts.{settled}
use Rattle.aplc_infer.specs.Rules.{fact_of, literal_of, monadic_fact, dyadic_fact, index_fact, change_fact, left_fact, branch_fact}
use Rattle.aplc_infer.specs.Seeing.{Family, Context, Progress, denied_by, denied_read, name_fact, function_of, call_fact, passed, see, see_all, see_argument, see_statement}
use Rattle.aplc_infer.specs.RulesRise.{RulesRise}
use Rattle.aplc_soundness.specs.Exact.{AreExact, EntriesExact, ArgumentExact, StatementExact}
use Rattle.aplc_soundness.specs.Changing.{TakesChanges, EntriesChange, ArgumentChanges, ActionChanges}
use Rattle.aplc_soundness.proofs.HeldNames.{AreGiven, rule_ok, read_clear}
use Rattle.aplc_soundness.proofs.HeldNodes.{tree_clear, entries_clear}
use Rattle.aplc_soundness.proofs.Stays.{stays, denied_stays, read_stays, ruled_stays, assigned_stays, passed_stays, see_stays, see_all_stays, see_argument_stays}
use Rattle.aplc_soundness.proofs.Takes.{change_taken}
use Rattle.aplc_soundness.proofs.Given.{holds_here, entries_here}

module _ (c : Context) (g : Family) (rise : RulesRise c.origin) (xs : List Giving) (held : AreGiven g xs) where
  mutual
    pub tree_changes : (t : Tree) (w : Progress) → AreExact c g t w → (see c g t w).progress.refused ≡ [] → TakesChanges c g xs t w
    tree_changes (Numbers i p zs) w e fine = tt
    tree_changes (Text i p cs) w e fine = tt
    tree_changes (TextInput i p) w e fine = tt
    tree_changes (NumsInput i p) w e fine = tt
    tree_changes (Name i p n) w e fine = tt
    tree_changes (Mono i p f b) w e fine =
        let y = see c g b w in
        tree_changes b w e.1 ((ruled_stays g i p (monadic_fact c.origin f (literal_of b) y.fact) y.progress y.progress (stays g y.progress)).fine fine)
    tree_changes (Dyad i p f a b) w e fine =
        let y = see c g b w in
        let x = see c g a y.progress in
        let fx = (ruled_stays g i p (dyadic_fact c.origin f (literal_of a) x.fact y.fact) x.progress x.progress (stays g x.progress)).fine fine in
        (tree_changes b w e.1 ((see_stays g c a y.progress).fine fx), tree_changes a y.progress e.2 fx)
    tree_changes (Index i p a ts) w e fine =
        let y = see_all c g ts w in
        let x = see c g a y.progress in
        let fx = (ruled_stays g i p (index_fact x.fact y.facts) x.progress x.progress (stays g x.progress)).fine fine in
        (entries_change ts w e.1 ((see_stays g c a y.progress).fine fx), tree_changes a y.progress e.2 fx)
    tree_changes (Assign i p n a) w e fine =
        let y = see c g a w in
        tree_changes a w e.1 ((assigned_stays g c (c.binding n) i p n (settled y.fact) (settled y.fact) y.progress).fine fine)
    tree_changes (AssignAt i p n ts a) w e fine =
        let y = see c g a w in
        let x = see_all c g ts y.progress in
        let old = name_fact c g (c.binding n) n x.progress.names in
        let r = change_fact old x.facts y.fact in
        let u = denied_read p old x.progress in
        let f0 = (assigned_stays g c (c.binding n) i p n (left_fact old y.fact) (fact_of r) (denied_by p r u)).fine fine in
        let f1 = (denied_stays g p r u).fine f0 in
        let f2 = (read_stays g p old x.progress).fine f1 in
        let f3 = (see_all_stays g c ts y.progress).fine f2 in
        (λ k v vs h q o. change_taken old y.fact (fact_of r) x.facts k v vs h (entries_here c g rise xs held ts y.progress vs e.2 o) (holds_here c g rise xs held a w v e.1 q) (read_clear p old x.progress f1) (entries_clear g c rise ts y.progress f2) (tree_clear g c rise a w f3) (rule_ok p r u f0), tree_changes a w e.1 f3, entries_change ts y.progress e.2 f2)
    tree_changes (Show i p a) w e fine = tree_changes a w e.1 fine
    tree_changes (Call i p n a b) w e fine =
        let y = see_argument c g b w in
        let x = see_argument c g a y.progress in
        let k = function_of (c.binding n) in
        let z = call_fact x.fact y.fact (g (cell.Answer k)) in
        let f1 = (passed_stays g k x.fact y.fact x.progress).fine ((read_stays g p z (passed k x.fact y.fact x.progress)).fine fine) in
        (argument_changes b w e.1 ((see_argument_stays g c a y.progress).fine f1), argument_changes a y.progress e.2 f1)

    pub entries_change : (ts : Trees) (w : Progress) → EntriesExact c g ts w → (see_all c g ts w).progress.refused ≡ [] → EntriesChange c g xs ts w
    entries_change no_more w e fine = tt
    entries_change (left_out ts) w e fine = entries_change ts w e fine
    entries_change (and_tree t ts) w e fine =
        let y = see_all c g ts w in
        (entries_change ts w e.0 ((see_stays g c t y.progress).fine fine), tree_changes t y.progress e.1 fine)

    pub argument_changes : (a : Argument) (w : Progress) → ArgumentExact c g a w → (see_argument c g a w).progress.refused ≡ [] → ArgumentChanges c g xs a w
    argument_changes absent w e fine = tt
    argument_changes (given t) w e fine = tree_changes t w e fine

  pub statement_changes : (x : Action) (w : Progress) → StatementExact c g x w → (see_statement c g x w).refused ≡ [] → ActionChanges c g xs x w
  statement_changes nothing w e fine = tt
  statement_changes (quiet t) w e fine = tree_changes t w e fine
  statement_changes (display t) w e fine = tree_changes t w e fine
  statement_changes (branch p t) w e fine =
      let y = see c g t w in
      tree_changes t w e ((denied_stays g p (branch_fact y.fact) y.progress).fine fine)
  statement_changes (perform i p n a b) w e fine =
      let y = see_argument c g b w in
      let x = see_argument c g a y.progress in
      let f1 = (passed_stays g (function_of (c.binding n)) x.fact y.fact x.progress).fine fine in
      (argument_changes b w e.0 ((see_argument_stays g c a y.progress).fine f1), argument_changes a y.progress e.1 f1)
