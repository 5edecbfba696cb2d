-- Each value that the evaluation of a tree gives to a node is one of which the fact of the node holds.
use Rattle.std.proofs.Common.{◌≡◌, ◌∙◌, sym, ap, refl, subst, ℕ, List, [], ◌∷◌, Option, Some, None, Ok, Err, Bool, true, false, pos}
use Rattle.std.specs.Prelude.{Result, map}
use Rattle.aplc_scalar.specs.declared.kind.FaultKind.{FaultKind}
use Rattle.aplc_scalar.specs.declared.kind.FaultKind.TheVariants as fault
use Rattle.aplc_scalar.specs.declared.kind.Kind.TheVariants as k
use Rattle.aplc_scalar.specs.Input.{input_line, number_line}
use Rattle.aplc_syntax.specs.PlainTrees.{Tree, Numbers, Text, Name, TextInput, NumsInput, Mono, Dyad, Index, Assign, AssignAt, Show, Call, Trees, no_more, left_out, and_tree, Argument, absent, given}
use Rattle.aplc_arr.specs.Arrays.{Array, product}
use Rattle.aplc_arr.specs.Indexing.{indexed, joined_shape, changed}
use Rattle.aplc_names.specs.declared.scope.Scope.{Scope}
use Rattle.aplc_names.specs.declared.scope.Scope.TheVariants as scope
use Rattle.aplc_names.specs.Outlines.{tree_mentions, trees_mentions, argument_mentions}
use Rattle.aplc_names.specs.Primitives.{mono_of, dyad_of}
use Rattle.aplc_names.specs.States.{Values, World, State, Outcome, and_then, on_world}
use Rattle.aplc_names.specs.Eager.{Use, passed, stored, displayed, literal, assigned, with_value, put, change, change_there, called, value, values, argument, value_of_name}
use Rattle.aplc_names.specs.Eager as eager
use Rattle.aplc_infer.specs.declared.fact.Inferred.{Inferred}
use Rattle.aplc_infer.specs.declared.cell.Cell.{Cell}
use Rattle.aplc_infer.specs.declared.cell.Cell.TheVariants as cell
use Rattle.aplc_infer.specs.Facts.{below, is_mixed, settled}
use Rattle.aplc_infer.specs.Rules.{fact_of, any_fact, literal_of, numbers_fact, text_fact, input_text_fact, input_numbers_fact, monadic_fact, dyadic_fact, index_fact, change_fact, left_fact}
use Rattle.aplc_infer.specs.Seeing.{Family, Progress, demand, asked_for, denied_by, denied_read, ruled, local_names, number_in, binding_of, name_fact, assign_to, change_name, function_of, call_by, call_fact, SeenArgument, see, see_all, see_argument}
use Rattle.aplc_infer.specs.Seeing as seeing
use Rattle.aplc_infer.specs.Families.{AreMet}
use Rattle.aplc_soundness.specs.Holding.{Holds, HoldsOf, HoldsAll}
use Rattle.aplc_soundness.specs.RulesHold.{IsLiteral, HoldsOfChanged}
use Rattle.aplc_infer.proofs.Monotone.{met_left, met_right}
use Rattle.aplc_soundness.proofs.Held.{not_rank, holds_above, whole_of, settled_holds, all_set}
use Rattle.aplc_soundness.proofs.HeldLiterals.{vector_whole, numbers_hold, text_holds}
use Rattle.aplc_soundness.proofs.LocalNames.{HasNumber, AreNumbered, mention_parts}
use Rattle.aplc_soundness.proofs.Stays.{stays, asked_for_stays, denied_stays, read_stays, ruled_stays, assigned_stays, passed_stays, see_stays, see_all_stays, see_argument_stays}
use Rattle.aplc_soundness.proofs.HeldNames.{outside, AgreesOutside, name_holds, rule_ok, ruled_same, read_clear, read_same, assigns}
use Rattle.aplc_soundness.proofs.Comes.{Comes, comes_then, comes_and, fair_input_line, fair_number_line}
use Rattle.aplc_soundness.proofs.HeldNodes.{Setting, running, typing, Outside, Agreeing, Fitting, FittingAll, HoldsArgument, FittingArgument, fits_ready, fits_there, fits_line, same_names, fits_ruled, literal_value, see_clear, see_all_clear}

-- ---- Indexed assignment

fits_change : (c : Setting) (i n : ℕ) (u : Use) (vs : List (Option Array)) (v old : Array) (r : Result Array FaultKind) (s : State) (new x : Inferred) (ns ms : List Inferred) → Agreeing c ns s.world → ((z : Array) → Holds new z → Agreeing c ms (with_value (c.routine.scope n) n z s.world)) → HoldsOfChanged new r → Holds x v → below x (c.family (cell.Node i)) ≡ true → Comes (Outside c) (Fitting c x ms) (change (running c) i u n vs v old r s)
fits_change c i n u vs v old (Err e) s new x ns ms a named h p up = (outside c.declared c.routine c.family ns s.world a, h)
fits_change c i n u vs v old (Ok z) s new x ns ms a named h p up =
    fits_ready c i u (product (joined_shape old.shape vs)) v (on_world (with_value (c.routine.scope n) n z) s) x ms (named z h) p up

-- with the name's old value, if it has one
fits_change_there : (c : Setting) (i n : ℕ) (u : Use) (vs : List (Option Array)) (v : Array) (o : Option Array) (s : State) (old y x : Inferred) (fs : List (Option Inferred)) (ns ms : List Inferred) → Agreeing c ns s.world → ((z : Array) → Holds (left_fact old y) z → Agreeing c ms (with_value (c.routine.scope n) n z s.world)) → HoldsOf old o → HoldsAll fs vs → Holds y v → is_mixed old ≡ false → any_fact is_mixed fs ≡ false → is_mixed y ≡ false → change_fact old fs y ≡ Ok x → below x (c.family (cell.Node i)) ≡ true → Comes (Outside c) (Fitting c x ms) (change_there (running c) i u n vs v o s)
fits_change_there c i n u vs v None s old y x fs ns ms a named ho hs hv mo mf my rule up = (outside c.declared c.routine c.family ns s.world a, not_rank fault.Value refl)
fits_change_there c i n u vs v (Some w) s old y x fs ns ms a named ho hs hv mo mf my rule up =
    let h = c.hold.change w v vs old y x fs ho hs hv mo mf my rule in
    fits_change c i n u vs v w (changed c.origin w vs v) s (left_fact old y) x ns ms a named h.0 h.1 up

-- ---- Calls

argument_above : (g : Family) (j : Cell) (o : Option Inferred) (v : Option Array) (w : Progress) → AreMet g (asked_for j o w).demands → HoldsArgument o v → HoldsOf (g j) v
argument_above g j None None w met h = tt
argument_above g j None (Some v) w met h = absurd h
argument_above g j (Some x) None w met h = absurd h
argument_above g j (Some x) (Some v) w met h = holds_above x (g j) v (met_right g w.demands (demand j x ∷ []) met).0 h

asked_names : (j : Cell) (o : Option Inferred) (w : Progress) → (asked_for j o w).names ≡ w.names
asked_names j None w = refl
asked_names j (Some x) w = refl

pub passed_names : (j : ℕ) (a b : Option Inferred) (w : Progress) → (seeing.passed j a b w).names ≡ w.names
passed_names j a b w = asked_names (cell.Right j) b (asked_for (cell.Left j) a w) ∙ asked_names (cell.Left j) a w

with_argument : (o : Option Inferred) (v : Option Array) (fs : List (Option Inferred)) (vs : List (Option Array)) → HoldsArgument o v → HoldsAll fs vs → HoldsAll (o ∷ fs) (v ∷ vs)
with_argument None None fs vs h q = q
with_argument None (Some v) fs vs h q = absurd h
with_argument (Some x) None fs vs h q = absurd h
with_argument (Some x) (Some v) fs vs h q = (h, q)

-- what a call gives, of arguments that have values
call_holds : (a b : Option Inferred) (x y : Option Array) (f : Inferred) (v : Option Array) → HoldsArgument a x → HoldsArgument b y → HoldsOf f v → HoldsOf (call_fact a b f) v
call_holds a b x y f None p q h = tt
call_holds a b x y f (Some v) p q h =
    let set = all_set (a ∷ b ∷ []) (x ∷ y ∷ []) (with_argument a x (b ∷ []) (y ∷ []) p (with_argument b y [] [] q tt)) in
    subst (λ t. Holds (call_by t (any_fact is_mixed (a ∷ b ∷ [])) f) v) (sym set) (by_mixed (any_fact is_mixed (a ∷ b ∷ [])))
  where
    by_mixed : (m : Bool) → Holds (call_by false m f) v
    by_mixed true = (tt, tt, whole_of f v h)
    by_mixed false = h

-- the function that a name means to typing is the one that is called
fits_called : (c : Setting) (x : Scope) (k : ℕ) (l r : Option Array) (s : State) → HoldsOf (c.family (cell.Left (function_of (binding_of x k)))) l → HoldsOf (c.family (cell.Right (function_of (binding_of x k)))) r → AgreesOutside c.declared c.family s.world → Comes (Outside c) (λ z w. HoldsOf (c.family (cell.Answer (function_of (binding_of x k)))) z × AgreesOutside c.declared c.family w × (w.locals ≡ s.world.locals)) (c.call (eager.function_of x) l r s)
fits_called c (scope.Function j) k l r s hl hr a = c.calls j l r s hl hr a
fits_called c scope.Local k l r s hl hr a = c.calls 0 l r s hl hr a
fits_called c scope.Global k l r s hl hr a = c.calls 0 l r s hl hr a
fits_called c (scope.Label z) k l r s hl hr a = c.calls 0 l r s hl hr a

-- a call whose arguments fit, and what follows it
pub fits_call : {B : Type 0} (c : Setting) (n : ℕ) (a b : Argument) (x y : SeenArgument) (s : State) (Q : B → World → Type 0) (next : Option Array → State → Outcome B) → Comes (Outside c) (FittingArgument c y.fact y.progress.names) (argument (running c) b s) → ((t : State) → Agreeing c y.progress.names t.world → Comes (Outside c) (FittingArgument c x.fact x.progress.names) (argument (running c) a t)) → AreMet c.family (seeing.passed (function_of ((typing c).binding n)) x.fact y.fact x.progress).demands → ((z : Option Array) (t : State) → HoldsOf (call_fact x.fact y.fact (c.family (cell.Answer (function_of ((typing c).binding n))))) z → Agreeing c x.progress.names t.world → Comes (Outside c) Q (next z t)) → Comes (Outside c) Q (and_then (argument (running c) b s) (λ r s1. and_then (argument (running c) a s1) (λ l s2. and_then (called (running c) n a b l r s2) next)))
fits_call c n a b x y s Q next right left met rest =
    let g = c.family in
    let j = function_of ((typing c).binding n) in
    let between = asked_for (cell.Left j) x.fact x.progress in
    comes_then (Outside c) (FittingArgument c y.fact y.progress.names) Q (argument (running c) b s) _ right (λ r s1 p.
    comes_then (Outside c) (FittingArgument c x.fact x.progress.names) Q (argument (running c) a s1) _ (left s1 p.1) (λ l s2 q.
    let hr = argument_above g (cell.Right j) y.fact r between met p.0 in
    let hl = argument_above g (cell.Left j) x.fact l x.progress ((asked_for_stays g (cell.Right j) y.fact between).met met) q.0 in
    comes_then (Outside c) (λ z v. HoldsOf (g (cell.Answer j)) z × AgreesOutside c.declared g v × (v.locals ≡ s2.world.locals)) Q (called (running c) n a b l r s2) next (fits_called c (c.routine.scope n) (number_in n (local_names c.routine)) l r _ hl hr (record { globals = q.1.globals; given = q.1.given })) (λ z s3 t.
    rest z s3 (call_holds x.fact y.fact l r (g (cell.Answer j)) z q.0 p.0 t.0) (record {
      size = q.1.size;
      globals = t.1.globals;
      locals = subst (λ (vs : Values). (m : ℕ) → HoldsOf (seeing.at x.progress.names (number_in m (local_names c.routine))) (vs m)) (sym t.2) q.1.locals;
      given = t.1.given;
    }))))

-- ---- Trees

mutual
  pub fits_value : (c : Setting) (t : Tree) (u : Use) (w : Progress) (s : State) → AreNumbered c.routine (tree_mentions t) → Agreeing c w.names s.world → AreMet c.family (see (typing c) c.family t w).progress.demands → (see (typing c) c.family t w).progress.refused ≡ [] → Comes (Outside c) (Fitting c (see (typing c) c.family t w).fact (see (typing c) c.family t w).progress.names) (value (running c) t u s)
  fits_value c (Numbers i p zs) u w s nb a met fine =
      fits_ready c i u _ (literal k.Num zs) s (numbers_fact zs) w.names a (numbers_hold zs) (met_right c.family w.demands _ met).0
  fits_value c (Text i p cs) u w s nb a met fine =
      fits_ready c i u _ (literal k.Char (map pos cs)) s (text_fact cs) w.names a (text_holds cs) (met_right c.family w.demands _ met).0
  fits_value c (TextInput i p) u w s nb a met fine =
      fits_line c i u k.Char (input_line s.world.input) s input_text_fact w.names a (fair_input_line s.world.input) (λ zs. (refl, (tt, tt), vector_whole zs)) (met_right c.family w.demands _ met).0
  fits_value c (NumsInput i p) u w s nb a met fine =
      fits_line c i u k.Num (number_line s.world.input) s input_numbers_fact w.names a (fair_number_line s.world.input) (λ zs. (refl, (tt, tt), vector_whole zs)) (met_right c.family w.demands _ met).0
  fits_value c (Name i p n) u w s nb a met fine =
      let x = name_fact (typing c) c.family ((typing c).binding n) n w.names in
      fits_there c i u (value_of_name (c.routine.scope n) n s.world) s x (denied_read p x w).names (same_names c w (denied_read p x w) s.world (read_same p x w fine) a) (name_holds (typing c) c.routine c.family (c.routine.scope n) n w.names s.world a) (met_right c.family (denied_read p x w).demands _ met).0
  fits_value c (Mono i p f b) u w s nb a met fine =
      let g = c.family in
      let y = see (typing c) g b w in
      let r = monadic_fact c.origin f (literal_of b) y.fact in
      let q = ruled_stays g i p r y.progress y.progress (stays g y.progress) in
      comes_then (Outside c) (λ v x. IsLiteral (literal_of b) v × Fitting c y.fact y.progress.names v x) (Fitting c (fact_of r) (ruled i p r y.progress).progress.names) (value (running c) b passed s) _
      (comes_and (Outside c) (Fitting c y.fact y.progress.names) (IsLiteral (literal_of b)) _ (fits_value c b passed w s nb a (q.met met) (q.fine fine)) (literal_value (running c) b passed s)) (λ v s1 h.
      fits_ruled c i p r y.progress u _ _ (mono_of c.origin f v) s1 h.1.1 met fine
      (c.hold.monadic f (literal_of b) v y.fact (fact_of r) h.1.0 (see_clear c b w (q.fine fine)) h.0 (rule_ok p r y.progress fine)))
  fits_value c (Dyad i p f l b) u w s nb a met fine =
      let g = c.family in
      let y = see (typing c) g b w in
      let x = see (typing c) g l y.progress in
      let r = dyadic_fact c.origin f (literal_of l) x.fact y.fact in
      let parts = mention_parts (HasNumber c.routine) (tree_mentions l) (tree_mentions b) nb in
      let q = ruled_stays g i p r x.progress x.progress (stays g x.progress) in
      let back = see_stays g (typing c) l y.progress in
      let fx = q.fine fine in
      let fy = back.fine fx in
      comes_then (Outside c) (Fitting c y.fact y.progress.names) (Fitting c (fact_of r) (ruled i p r x.progress).progress.names) (value (running c) b passed s) _ (fits_value c b passed w s parts.1 a (back.met (q.met met)) fy) (λ v s1 h.
      comes_then (Outside c) (λ z t. IsLiteral (literal_of l) z × Fitting c x.fact x.progress.names z t) (Fitting c (fact_of r) (ruled i p r x.progress).progress.names) (value (running c) l passed s1) _
      (comes_and (Outside c) (Fitting c x.fact x.progress.names) (IsLiteral (literal_of l)) _ (fits_value c l passed y.progress s1 parts.0 h.1 (q.met met) fx) (literal_value (running c) l passed s1)) (λ z s2 e.
      fits_ruled c i p r x.progress u _ _ (dyad_of c.origin f z v) s2 e.1.1 met fine
      (c.hold.dyadic f (literal_of l) z v x.fact y.fact (fact_of r) e.1.0 h.0 (see_clear c l y.progress fx) (see_clear c b w fy) e.0 (rule_ok p r x.progress fine))))
  fits_value c (Index i p l xs) u w s nb a met fine =
      let g = c.family in
      let y = see_all (typing c) g xs w in
      let x = see (typing c) g l y.progress in
      let r = index_fact x.fact y.facts in
      let parts = mention_parts (HasNumber c.routine) (tree_mentions l) (trees_mentions xs) nb in
      let q = ruled_stays g i p r x.progress x.progress (stays g x.progress) in
      let back = see_stays g (typing c) l y.progress in
      let fx = q.fine fine in
      let fy = back.fine fx in
      comes_then (Outside c) (FittingAll c y.facts y.progress.names) (Fitting c (fact_of r) (ruled i p r x.progress).progress.names) (values (running c) xs s) _ (fits_values c xs w s parts.1 a (back.met (q.met met)) fy) (λ vs s1 h.
      comes_then (Outside c) (Fitting c x.fact x.progress.names) (Fitting c (fact_of r) (ruled i p r x.progress).progress.names) (value (running c) l passed s1) _ (fits_value c l passed y.progress s1 parts.0 h.1 (q.met met) fx) (λ z s2 e.
      fits_ruled c i p r x.progress u _ _ (indexed c.origin z vs) s2 e.1 met fine
      (c.hold.index z vs x.fact (fact_of r) y.facts e.0 h.0 (see_clear c l y.progress fx) (see_all_clear c xs w fy) (rule_ok p r x.progress fine))))
  fits_value c (Assign i p n b) u w s nb a met fine =
      let g = c.family in
      let y = see (typing c) g b w in
      let x = settled y.fact in
      let end = assign_to (typing c) ((typing c).binding n) i p n x x y.progress in
      let q = assigned_stays g (typing c) ((typing c).binding n) i p n x x y.progress in
      let e = assigns (typing c) c.routine g (c.routine.scope n) i p n x x y.progress nb.0 met fine in
      comes_then (Outside c) (Fitting c y.fact y.progress.names) (Fitting c end.fact end.progress.names) (value (running c) b stored s) _ (fits_value c b stored w s nb.1 a (q.met met) (q.fine fine)) (λ v s1 h.
      let held = settled_holds y.fact v h.0 in
      fits_ready c i u _ v (assigned (c.routine.scope n) n v s1) end.fact end.progress.names (e.named v s1.world h.1 held) (subst (λ z. Holds z v) (sym e.fact) held) (subst (λ z. below z (g (cell.Node i)) ≡ true) (sym e.fact) e.node))
  fits_value c (AssignAt i p n xs b) u w s nb a met fine =
      let g = c.family in
      let y = see (typing c) g b w in
      let x = see_all (typing c) g xs y.progress in
      let old = name_fact (typing c) g ((typing c).binding n) n x.progress.names in
      let r = change_fact old x.facts y.fact in
      let new = left_fact old y.fact in
      let read = denied_read p old x.progress in
      let last = denied_by p r read in
      let end = assign_to (typing c) ((typing c).binding n) i p n new (fact_of r) last in
      let parts = mention_parts (HasNumber c.routine) (trees_mentions xs) (tree_mentions b) nb.1 in
      let q0 = assigned_stays g (typing c) ((typing c).binding n) i p n new (fact_of r) last in
      let q1 = denied_stays g p r read in
      let q2 = read_stays g p old x.progress in
      let q3 = see_all_stays g (typing c) xs y.progress in
      let f0 = q0.fine fine in
      let f1 = q1.fine f0 in
      let f2 = q2.fine f1 in
      let m2 = q2.met (q1.met (q0.met met)) in
      let same : last ≡ x.progress = ruled_same p r read f0 ∙ read_same p old x.progress f1 in
      let e = assigns (typing c) c.routine g (c.routine.scope n) i p n new (fact_of r) last nb.0 met fine in
      comes_then (Outside c) (Fitting c y.fact y.progress.names) (Fitting c end.fact end.progress.names) (value (running c) b passed s) _ (fits_value c b passed w s parts.1 a (q3.met m2) (q3.fine f2)) (λ v s1 h.
      comes_then (Outside c) (FittingAll c x.facts x.progress.names) (Fitting c end.fact end.progress.names) (values (running c) xs s1) _ (fits_values c xs y.progress s1 parts.0 h.1 m2 f2) (λ vs s2 l.
      fits_change_there c i n u vs v (value_of_name (c.routine.scope n) n s2.world) s2 old y.fact end.fact x.facts x.progress.names end.progress.names l.1 (λ z t. e.named z s2.world (same_names c x.progress last s2.world same l.1) t) (name_holds (typing c) c.routine g (c.routine.scope n) n x.progress.names s2.world l.1) l.0 h.0 (read_clear p old x.progress f1) (see_all_clear c xs y.progress f2) (see_clear c b w (q3.fine f2)) (rule_ok p r read f0 ∙ ap (λ (z : Inferred). Ok z) (sym e.fact)) (subst (λ z. below z (g (cell.Node i)) ≡ true) (sym e.fact) e.node)))
  fits_value c (Show i p b) u w s nb a met fine =
      let g = c.family in
      let y = see (typing c) g b w in
      comes_then (Outside c) (Fitting c y.fact y.progress.names) (Fitting c (settled y.fact) y.progress.names) (value (running c) b displayed s) _ (fits_value c b displayed w s nb a (met_left g y.progress.demands _ met) fine) (λ v s1 h.
      fits_ready c i u 0 v (put v s1) (settled y.fact) y.progress.names (record { size = h.1.size; globals = h.1.globals; locals = h.1.locals; given = h.1.given }) (settled_holds y.fact v h.0) (met_right g y.progress.demands _ met).0)
  fits_value c (Call i p n l b) u w s nb a met fine =
      let g = c.family in
      let y = see_argument (typing c) g b w in
      let x = see_argument (typing c) g l y.progress in
      let j = function_of ((typing c).binding n) in
      let z = call_fact x.fact y.fact (g (cell.Answer j)) in
      let given = seeing.passed j x.fact y.fact x.progress in
      let read = denied_read p z given in
      let parts = mention_parts (HasNumber c.routine) (argument_mentions l) (argument_mentions b) nb.1 in
      let q0 = read_stays g p z given in
      let q1 = passed_stays g j x.fact y.fact x.progress in
      let q2 = see_argument_stays g (typing c) l y.progress in
      let f0 = q0.fine fine in
      let f1 = q1.fine f0 in
      let m0 = q0.met (met_left g read.demands _ met) in
      let m1 = q1.met m0 in
      let names : read.names ≡ x.progress.names = ap (λ (v : Progress). v.names) (read_same p z given fine) ∙ passed_names j x.fact y.fact x.progress in
      fits_call c n l b x y s (Fitting c z read.names) (λ r t. eager.there (running c) i u r t)
      (fits_argument c b w s parts.1 a (q2.met m1) (q2.fine f1)) (λ t h. fits_argument c l y.progress t parts.0 h m1 f1) m0 (λ r t held h.
      fits_there c i u r t z read.names (subst (λ ns. Agreeing c ns t.world) (sym names) h) held (met_right g read.demands _ met).0)

  pub fits_values : (c : Setting) (ts : Trees) (w : Progress) (s : State) → AreNumbered c.routine (trees_mentions ts) → Agreeing c w.names s.world → AreMet c.family (see_all (typing c) c.family ts w).progress.demands → (see_all (typing c) c.family ts w).progress.refused ≡ [] → Comes (Outside c) (FittingAll c (see_all (typing c) c.family ts w).facts (see_all (typing c) c.family ts w).progress.names) (values (running c) ts s)
  fits_values c no_more w s nb a met fine = (tt, a)
  fits_values c (left_out ts) w s nb a met fine =
      let y = see_all (typing c) c.family ts w in
      comes_then (Outside c) (FittingAll c y.facts y.progress.names) (FittingAll c (None ∷ y.facts) y.progress.names) (values (running c) ts s) _ (fits_values c ts w s nb a met fine) (λ vs s1 h. h)
  fits_values c (and_tree t ts) w s nb a met fine =
      let g = c.family in
      let y = see_all (typing c) g ts w in
      let x = see (typing c) g t y.progress in
      let parts = mention_parts (HasNumber c.routine) (tree_mentions t) (trees_mentions ts) nb in
      let back = see_stays g (typing c) t y.progress in
      comes_then (Outside c) (FittingAll c y.facts y.progress.names) (FittingAll c (Some x.fact ∷ y.facts) x.progress.names) (values (running c) ts s) _ (fits_values c ts w s parts.1 a (back.met met) (back.fine fine)) (λ vs s1 h.
      comes_then (Outside c) (Fitting c x.fact x.progress.names) (FittingAll c (Some x.fact ∷ y.facts) x.progress.names) (value (running c) t passed s1) _ (fits_value c t passed y.progress s1 parts.0 h.1 met fine) (λ v s2 l. ((l.0, h.0), l.1)))

  pub fits_argument : (c : Setting) (o : Argument) (w : Progress) (s : State) → AreNumbered c.routine (argument_mentions o) → Agreeing c w.names s.world → AreMet c.family (see_argument (typing c) c.family o w).progress.demands → (see_argument (typing c) c.family o w).progress.refused ≡ [] → Comes (Outside c) (FittingArgument c (see_argument (typing c) c.family o w).fact (see_argument (typing c) c.family o w).progress.names) (argument (running c) o s)
  fits_argument c absent w s nb a met fine = (tt, a)
  fits_argument c (given t) w s nb a met fine =
      let x = see (typing c) c.family t w in
      comes_then (Outside c) (Fitting c x.fact x.progress.names) (FittingArgument c (Some x.fact) x.progress.names) (value (running c) t passed s) _ (fits_value c t passed w s nb a met fine) (λ v s1 h. h)
