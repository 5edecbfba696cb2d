-- Facts of names agree with the values of names: what reading and assigning a name keep.
use Rattle.std.proofs.Common.{◌≡◌, ◌∙◌, sym, refl, subst, ℕ, List, [], ◌∷◌, ◌++◌, length, Option, Some, None, Ok, Err, Bool, true, false, arith}
use Rattle.std.specs.Prelude.{slice_set, unwrap_or, nat_eq, if◌then◌else◌}
use Rattle.std.specs.List.{AllByRecursion}
use Rattle.aplc_arr.specs.Arrays.{Array}
use Rattle.aplc_names.specs.declared.scope.Scope.{Scope}
use Rattle.aplc_names.specs.declared.scope.Scope.TheVariants as scope
use Rattle.aplc_names.specs.PlainPrograms.{Routine}
use Rattle.aplc_names.specs.States.{Giving, Values, World, set_name}
use Rattle.aplc_names.specs.Eager.{with_value, value_of_name}
use Rattle.aplc_infer.specs.declared.fact.Inferred.{Inferred}
use Rattle.aplc_infer.specs.declared.rule_break.RuleBreak.{RuleBreak}
use Rattle.aplc_infer.specs.declared.cell.Cell.TheVariants as cell
use Rattle.aplc_infer.specs.Facts.{below, is_mixed}
use Rattle.aplc_infer.specs.Rules.{Ruled, fact_of}
use Rattle.aplc_infer.specs.Seeing.{Family, Declarations, Context, Progress, Seen, demand, denied_by, denied_if, denied_read, mixed_break, is_local, local_names, number_in, binding_of, at, name_fact, assign_declared, assign_global, assign_to}
use Rattle.aplc_infer.specs.Families.{AreMet}
use Rattle.aplc_soundness.specs.Holding.{Holds, HoldsOf}
use Rattle.aplc_infer.proofs.Trials.{equal_of, equal_test}
use Rattle.aplc_infer.proofs.Monotone.{met_left, met_right}
use Rattle.aplc_soundness.proofs.Held.{no, holds_above}
use Rattle.aplc_soundness.proofs.LocalNames.{at_set, at_other, set_length, IsNumbered, same_number}

-- ---- Agreement

-- all that nodes were given is held
abbrev pub AreGiven : Family → List Giving → Type 0
AreGiven g xs = AllByRecursion (λ (x : Giving). Holds (g (cell.Node x.node)) x.value) xs

abbrev pub global_fact : Declarations → Family → ℕ → Inferred
global_fact d g n = unwrap_or (d n) (g (cell.Global n))

-- under declarations d and family g the facts ns of the local names of f hold of their values, and those of globals of theirs
pub record Agrees (d : Declarations) (f : Routine) (g : Family) (ns : List Inferred) (w : World) : Type 0 where
  pub size : length ns ≡ length (local_names f)
  pub globals : (n : ℕ) → HoldsOf (global_fact d g n) (w.globals n)
  pub locals : (n : ℕ) → HoldsOf (at ns (number_in n (local_names f))) (w.locals n)
  pub given : AreGiven g w.given

-- the same without the frame
pub record AgreesOutside (d : Declarations) (g : Family) (w : World) : Type 0 where
  pub globals : (n : ℕ) → HoldsOf (global_fact d g n) (w.globals n)
  pub given : AreGiven g w.given

pub outside : (d : Declarations) (f : Routine) (g : Family) (ns : List Inferred) (w : World) → Agrees d f g ns w → AgreesOutside d g w
outside d f g ns w a = record { globals = a.globals; given = a.given }

-- nothing but values counts
pub agrees_same : (d : Declarations) (f : Routine) (g : Family) (ns : List Inferred) (w u : World) → u.globals ≡ w.globals → u.locals ≡ w.locals → u.given ≡ w.given → Agrees d f g ns w → Agrees d f g ns u
agrees_same d f g ns w u e1 e2 e3 a = record {
  size = a.size;
  globals = subst (λ (vs : Values). (m : ℕ) → HoldsOf (global_fact d g m) (vs m)) (sym e1) a.globals;
  locals = subst (λ (vs : Values). (m : ℕ) → HoldsOf (at ns (number_in m (local_names f))) (vs m)) (sym e2) a.locals;
  given = subst (AreGiven g) (sym e3) a.given;
}

-- ---- Reading

pub name_holds : (c : Context) (f : Routine) (g : Family) (s : Scope) (n : ℕ) (ns : List Inferred) (w : World) → Agrees c.declared f g ns w → HoldsOf (name_fact c g (binding_of s (number_in n (local_names f))) n ns) (value_of_name s n w)
name_holds c f g (scope.Label z) n ns w a = (refl, tt, refl)
name_holds c f g scope.Local n ns w a = a.locals n
name_holds c f g scope.Global n ns w a = a.globals n
name_holds c f g (scope.Function j) n ns w a = tt

-- ---- Local names that are set

-- the values of local names where one of them is set, with its fact
pub locals_set : (f : Routine) (n : ℕ) (x : Inferred) (ns : List Inferred) (v : Option Array) (values : Values) → length ns ≡ length (local_names f) → IsNumbered n (local_names f) → HoldsOf x v → ((m : ℕ) → HoldsOf (at ns (number_in m (local_names f))) (values m)) → (m : ℕ) → HoldsOf (at (slice_set ns (number_in n (local_names f)) x) (number_in m (local_names f))) (set_name n v values m)
locals_set f n x ns v values size h p q m = by_test (nat_eq n m) refl
  where
    by_test : (b : Bool) → nat_eq n m ≡ b → HoldsOf (at (slice_set ns (number_in n (local_names f)) x) (number_in m (local_names f))) (if b then v else values m)
    by_test true e =
        subst (λ i. HoldsOf (at (slice_set ns (number_in n (local_names f)) x) (number_in i (local_names f))) v) (equal_of n m e)
        (subst (λ y. HoldsOf y v) (sym (at_set ns (number_in n (local_names f)) x (omega (arith, size, h)))) p)
    by_test false e =
        subst (λ y. HoldsOf y (values m)) (sym (at_other ns (number_in m (local_names f)) (number_in n (local_names f)) x (λ r. no (sym e ∙ equal_test n m (sym (same_number m n (local_names f) h r)))))) (q m)

agrees_local : (d : Declarations) (f : Routine) (g : Family) (n : ℕ) (x : Inferred) (ns : List Inferred) (v : Array) (w : World) → IsNumbered n (local_names f) → Agrees d f g ns w → Holds x v → Agrees d f g (slice_set ns (number_in n (local_names f)) x) (with_value scope.Local n v w)
agrees_local d f g n x ns v w h a p = record {
  size = set_length ns (number_in n (local_names f)) x ∙ a.size;
  globals = a.globals;
  locals = locals_set f n x ns (Some v) w.locals a.size h p a.locals;
  given = a.given;
}

-- ---- Global names that are set

globals_set : (fact : ℕ → Inferred) (n : ℕ) (v : Option Array) (values : Values) → HoldsOf (fact n) v → ((m : ℕ) → HoldsOf (fact m) (values m)) → (m : ℕ) → HoldsOf (fact m) (set_name n v values m)
globals_set fact n v values p q m = by_test (nat_eq n m) refl
  where
    by_test : (b : Bool) → nat_eq n m ≡ b → HoldsOf (fact m) (if b then v else values m)
    by_test true e = subst (λ i. HoldsOf (fact i) v) (equal_of n m e) p
    by_test false e = q m

agrees_global : (d : Declarations) (f : Routine) (g : Family) (n : ℕ) (x : Inferred) (ns : List Inferred) (v : Array) (w u : World) → u.globals ≡ set_name n (Some v) w.globals → u.locals ≡ w.locals → u.given ≡ w.given → below x (global_fact d g n) ≡ true → Agrees d f g ns w → Holds x v → Agrees d f g ns u
agrees_global d f g n x ns v w u e1 e2 e3 up a p = record {
  size = a.size;
  globals = subst (λ (vs : Values). (m : ℕ) → HoldsOf (global_fact d g m) (vs m)) (sym e1) (globals_set (global_fact d g) n (Some v) w.globals (holds_above x (global_fact d g n) v up p) a.globals);
  locals = subst (λ (vs : Values). (m : ℕ) → HoldsOf (at ns (number_in m (local_names f))) (vs m)) (sym e2) a.locals;
  given = subst (AreGiven g) (sym e3) a.given;
}

-- ---- Steps without a refusal

pub not_more : {A : Type 0} (xs : List A) (x : A) → xs ++ x ∷ [] ≡ [] → ⊥
not_more [] x e = cc
not_more (y ∷ xs) x e = cc

-- a rule that refuses nothing gives a fact
pub rule_ok : (p : ℕ) (r : Ruled) (w : Progress) → (denied_by p r w).refused ≡ [] → r ≡ Ok (fact_of r)
rule_ok p (Ok x) w e = refl
rule_ok p (Err b) w e = absurd (not_more w.refused _ e)

pub ruled_same : (p : ℕ) (r : Ruled) (w : Progress) → (denied_by p r w).refused ≡ [] → denied_by p r w ≡ w
ruled_same p (Ok x) w e = refl
ruled_same p (Err b) w e = absurd (not_more w.refused _ e)

-- what is read is not mixed where nothing is refused
pub read_clear : (p : ℕ) (x : Inferred) (w : Progress) → (denied_read p x w).refused ≡ [] → is_mixed x ≡ false
read_clear p x w e = by_test (is_mixed x) refl e
  where
    by_test : (b : Bool) → is_mixed x ≡ b → (denied_if b p (mixed_break x) w).refused ≡ [] → is_mixed x ≡ false
    by_test false q e = q
    by_test true q e = absurd (not_more w.refused _ e)

read_same_if : (b : Bool) (p : ℕ) (e : RuleBreak) (w : Progress) → (denied_if b p e w).refused ≡ [] → denied_if b p e w ≡ w
read_same_if false p e w h = refl
read_same_if true p e w h = absurd (not_more w.refused _ h)

pub read_same : (p : ℕ) (x : Inferred) (w : Progress) → (denied_read p x w).refused ≡ [] → denied_read p x w ≡ w
read_same p x w e = read_same_if (is_mixed x) p (mixed_break x) w e

-- ---- Assignments

-- what an assignment comes to that refuses nothing: the node has fact x, and the name new
pub record Assigns (d : Declarations) (f : Routine) (g : Family) (s : Scope) (i n : ℕ) (new x : Inferred) (w : Progress) (seen : Seen) : Type 0 where
  pub fact : seen.fact ≡ x
  pub node : below x (g (cell.Node i)) ≡ true
  pub named : (v : Array) (u : World) → Agrees d f g w.names u → Holds new v → Agrees d f g seen.progress.names (with_value s n v u)

-- a global name's fact is above
record AssignsGlobal (d : Declarations) (g : Family) (i n : ℕ) (new x : Inferred) (w : Progress) (seen : Seen) : Type 0 where
  fact : seen.fact ≡ x
  node : below x (g (cell.Node i)) ≡ true
  up : below new (global_fact d g n) ≡ true
  names : seen.progress.names ≡ w.names

declared_assigns : (d : Declarations) (g : Family) (i p n : ℕ) (new x y : Inferred) (w : Progress) → d n ≡ Some y → (b : Bool) → below new y ≡ b → AreMet g (assign_declared b i p x w).progress.demands → (assign_declared b i p x w).progress.refused ≡ [] → AssignsGlobal d g i n new x w (assign_declared b i p x w)
declared_assigns d g i p n new x y w e true q met fine = record {
  fact = refl;
  node = (met_right g w.demands (demand (cell.Node i) x ∷ []) met).0;
  up = subst (λ o. below new (unwrap_or o (g (cell.Global n))) ≡ true) (sym e) q;
  names = refl;
}
declared_assigns d g i p n new x y w e false q met fine = absurd (not_more w.refused _ fine)

global_assigns : (d : Declarations) (g : Family) (i p n : ℕ) (new x : Inferred) (w : Progress) (o : Option Inferred) → d n ≡ o → AreMet g (assign_global o i p n new x w).progress.demands → (assign_global o i p n new x w).progress.refused ≡ [] → AssignsGlobal d g i n new x w (assign_global o i p n new x w)
global_assigns d g i p n new x w None e met fine =
    let before = w.demands ++ demand (cell.Global n) new ∷ [] in
    record {
      fact = refl;
      node = (met_right g before (demand (cell.Node i) x ∷ []) met).0;
      up = subst (λ o. below new (unwrap_or o (g (cell.Global n))) ≡ true) (sym e) (met_right g w.demands (demand (cell.Global n) new ∷ []) (met_left g before (demand (cell.Node i) x ∷ []) met)).0;
      names = refl;
    }
global_assigns d g i p n new x w (Some y) e met fine = declared_assigns d g i p n new x y w e (below new y) refl met fine

agrees_names : (d : Declarations) (f : Routine) (g : Family) (ns ms : List Inferred) (w : World) → ms ≡ ns → Agrees d f g ns w → Agrees d f g ms w
agrees_names d f g ns ms w e a = subst (λ l. Agrees d f g l w) (sym e) a

pub assigns : (c : Context) (f : Routine) (g : Family) (s : Scope) (i p n : ℕ) (new x : Inferred) (w : Progress) → (is_local s ≡ true → IsNumbered n (local_names f)) → AreMet g (assign_to c (binding_of s (number_in n (local_names f))) i p n new x w).progress.demands → (assign_to c (binding_of s (number_in n (local_names f))) i p n new x w).progress.refused ≡ [] → Assigns c.declared f g s i n new x w (assign_to c (binding_of s (number_in n (local_names f))) i p n new x w)
assigns c f g scope.Local i p n new x w h met fine = record {
  fact = refl;
  node = (met_right g w.demands (demand (cell.Node i) x ∷ []) met).0;
  named = λ v u a q. agrees_local c.declared f g n new w.names v u (h refl) a q;
}
assigns c f g (scope.Label z) i p n new x w h met fine =
    let q = global_assigns c.declared g i p n new x w (c.declared n) refl met fine in
    record { fact = q.fact; node = q.node; named = λ v u a r. agrees_names c.declared f g w.names _ _ q.names (agrees_global c.declared f g n new w.names v u (with_value (scope.Label z) n v u) refl refl refl q.up a r) }
assigns c f g (scope.Function j) i p n new x w h met fine =
    let q = global_assigns c.declared g i p n new x w (c.declared n) refl met fine in
    record { fact = q.fact; node = q.node; named = λ v u a r. agrees_names c.declared f g w.names _ _ q.names (agrees_global c.declared f g n new w.names v u (with_value (scope.Function j) n v u) refl refl refl q.up a r) }
assigns c f g scope.Global i p n new x w h met fine =
    let q = global_assigns c.declared g i p n new x w (c.declared n) refl met fine in
    record { fact = q.fact; node = q.node; named = λ v u a r. agrees_names c.declared f g w.names _ _ q.names (agrees_global c.declared f g n new w.names v u (with_value scope.Global n v u) refl refl refl q.up a r) }
